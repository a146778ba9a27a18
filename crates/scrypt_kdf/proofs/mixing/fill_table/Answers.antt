use Rattle.std.proofs.Common.{◌≡◌, ◌*◌, ◌∙◌, length, ap, arith}
use Rattle.std.proofs.lemmas.List.{take_at}
use Rattle.scrypt_kdf.proofs.RoMixing.{HoldsRows-first, HoldsRows-more}
use Rattle.scrypt_kdf.proofs.mixing.fill_table.Goals as goal

pub loop-i-init : goal.loop-i-init
loop-i-init c =
    let long : length c.copy_from_slice.new.self ≡ length c.args.x.now = ap length c.copy_from_slice.ensures.after in
    HoldsRows-first c.args.r c.args.x.now _ (take_at c.copy_from_slice.new.self _ (32 * c.args.r) (omega arith) ∙ c.copy_from_slice.ensures.after)

pub loop-i-preserved : goal.loop-i-preserved
loop-i-preserved c =
    HoldsRows-more c.args.r c.loop-i.i _ c.loop-i.table _ (omega arith) c.loop-i.invariant c.fill_row.ensures.kept c.fill_row.ensures.made

pub returns : goal.returns
returns c = λ k below. c.loop-i.invariant k (omega arith)
