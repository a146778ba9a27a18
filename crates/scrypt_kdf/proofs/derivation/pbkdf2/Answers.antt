use Rattle.std.proofs.Common.{◌≡◌, ◌∙◌, ◌+◌, ◌-◌, ◌*◌, take, ap, sym, refl, arith}
use Rattle.scrypt_kdf.specs.Pbkdf2.{block}
use Rattle.scrypt_kdf.proofs.Blocks.{filled-none, filled-more, filled-all}
use Rattle.scrypt_kdf.proofs.derivation.pbkdf2.Goals as goal

pub loop-i-init : goal.loop-i-init
loop-i-init c = filled-none (λ i. block c.args.password.now c.args.salt.now c.args.turns (i + 1)) c.args.out.now

pub loop-i-preserved : goal.loop-i-preserved
loop-i-preserved c =
    let at = 32 * c.loop-i.i in
    let k = 32 * c.loop-i.i + c.min-len.result - 32 * c.loop-i.i in
    let same : k ≡ c.min-len.result = omega arith in
    filled-more (λ i. block c.args.password.now c.args.salt.now c.args.turns (i + 1)) c.args.out.now c.loop-i.out _ c.block-block.result _ c.loop-i.i k c.loop-i.invariant
    (omega arith) (omega arith) c.block-block.ensures (omega arith) (c.copy_from_slice.ensures.after ∙ ap (λ m. take m c.block-block.result) (sym same)) refl

pub returns : goal.returns
returns c =
    filled-all c.args.password.now c.args.salt.now c.loop-i.out c.args.out.now c.args.turns c.loop-i.i c.loop-i.invariant (omega arith)
