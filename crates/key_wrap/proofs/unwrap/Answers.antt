use Rattle.std.proofs.Common.{◌≡◌, ◌∙◌, ap, sym, arith, rules, take, drop, Some, length-drop}
use Rattle.std.proofs.lemmas.List.{take_all}
use Rattle.aes_block.specs.Aes.{inverse_aes}
use Rattle.key_wrap.specs.Wrap.{check_value, unwrapped}
use Rattle.key_wrap.proofs.States.{unwrapped-none, unwrapped-some, unwrapped_after-none, unwrapped_after-more}
use Rattle.key_wrap.proofs.unwrap.Goals as goal

pub loop-taken-init : goal.loop-taken-init
loop-taken-init c = sym (unwrapped_after-none (inverse_aes c.new-cipher.result) c.args.wrapped.now)

pub loop-taken-preserved : goal.loop-taken-preserved
loop-taken-preserved c =
    unwrapped_after-more (inverse_aes c.new-cipher.result) c.args.wrapped.now _ _ c.loop-taken.taken c.loop-taken.invariant c.unwrap_step.ensures

pub returns-then-not-bytes_equal-clause-refused : goal.returns-then-not-bytes_equal-clause-refused
returns-then-not-bytes_equal-clause-refused c =
    let other : take 8 c.loop-taken.state ≡ check_value → ⊥ = search rules in
    ap (λ k. unwrapped (inverse_aes k) c.args.wrapped.now) (sym c.new-cipher.ensures)
    ∙ unwrapped-none (inverse_aes c.new-cipher.result) c.args.wrapped.now _ c.loop-taken.taken c.loop-taken.invariant (omega arith) other

pub returns-clause-key : goal.returns-clause-key
returns-clause-key c =
    let same : take 8 c.loop-taken.state ≡ check_value = search rules in
    ap (λ k. unwrapped (inverse_aes k) c.args.wrapped.now) (sym c.new-cipher.ensures)
    ∙ unwrapped-some (inverse_aes c.new-cipher.result) c.args.wrapped.now _ c.loop-taken.taken c.loop-taken.invariant (omega arith) same
    ∙ ap Some (sym (c.copy_from_slice.ensures.after ∙ take_all 32 (drop 8 c.loop-taken.state) (omega (arith, length-drop 8 c.loop-taken.state))))
