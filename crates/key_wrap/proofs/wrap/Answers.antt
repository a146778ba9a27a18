use Rattle.std.proofs.Common.{◌++◌, ◌∙◌, ap, sym, refl, arith}
use Rattle.aes_block.specs.Aes.{aes}
use Rattle.key_wrap.specs.Wrap.{check_value, wrapped}
use Rattle.key_wrap.proofs.States.{joined-is, wrapped_after-none, wrapped_after-more, wrapped-is}
use Rattle.key_wrap.proofs.wrap.Goals as goal

pub loop-taken-init : goal.loop-taken-init
loop-taken-init c =
    joined-is _ _ check_value c.args.key.now _ 32 c.copy_from_slice.ensures.after c.copy_from_slice-2.ensures.after refl (omega arith)
    ∙ sym (wrapped_after-none (aes c.new-cipher.result) (check_value ++ c.args.key.now))

pub loop-taken-preserved : goal.loop-taken-preserved
loop-taken-preserved c =
    wrapped_after-more (aes c.new-cipher.result) (check_value ++ c.args.key.now) _ _ c.loop-taken.taken c.loop-taken.invariant c.wrap_step.ensures

pub returns : goal.returns
returns c =
    wrapped-is (aes c.new-cipher.result) c.args.key.now _ c.loop-taken.taken c.loop-taken.invariant (omega arith)
    ∙ ap (λ k. wrapped (aes k) c.args.key.now) c.new-cipher.ensures
