use Rattle.std.proofs.Common.{List, ℕ, ◌+◌, ◌-◌, ◌*◌, ◌∙◌, ap, arith, rules}
use Rattle.std.proofs.lemmas.List.{take_rest}
use borrow.Rule.Slice.PartMut.{put_mid}
use Rattle.scrypt_kdf.proofs.BlockMixing.{IsMixed-none, IsMixed-more, IsMixed-all}
use Rattle.scrypt_kdf.proofs.mixing.block_mix.Goals as goal

pub loop-i-init : goal.loop-i-init
loop-i-init c =
    IsMixed-none c.args.r c.args.source.now _ _ (omega arith) (omega arith) (search rules)
    (c.copy_from_slice.ensures.after ∙ take_rest c.args.source.now (16 * (2 * c.args.r - 1)))

pub loop-i-preserved : goal.loop-i-preserved
loop-i-preserved c =
    let r = c.args.r in
    let i = c.loop-i.i in
    let t : List ℕ = c.loop-i.target in
    let u : List ℕ = put_mid (16 * i) (16 * i + 16 - 16 * i) t c.copy_from_slice-in-loop-i.new.self in
    IsMixed-more (16 * i + 16 - 16 * i) (16 * (r + i) + 16 - 16 * (r + i)) c.loop-i.invariant (omega arith)
    (omega arith) (omega arith) c.take_in.array_long c.take_in-in-loop-i.array_long (search rules) (omega arith) (omega arith)
    c.take_in.ensures (ap (put_mid (16 * i) (16 * i + 16 - 16 * i) t) c.copy_from_slice-in-loop-i.ensures.after)
    c.take_in-in-loop-i.ensures (ap (put_mid (16 * (r + i)) (16 * (r + i) + 16 - 16 * (r + i)) u) c.copy_from_slice-in-loop-i-2.ensures.after)

pub returns : goal.returns
returns c = IsMixed-all c.args.r c.loop-i.i _ _ _ c.loop-i.invariant (omega arith) (omega arith)
