use Rattle.std.proofs.Common.{◌≡◌, ℕ, ◌-◌, [], List, length, take, drop, min, ap, subst, ◌∙◌}
use Rattle.std.specs.Int.{w64, to_be_bytes}
use Rattle.deeds.specs.Deeds.{PlainDeed}
use Rattle.deeds.specs.declared.window.Window.{Window}
use Rattle.deeds.specs.Writing.{Passes, IsWindow}
use Rattle.deeds.specs.Plain.{plains}
use Rattle.deeds.specs.Grammar.{spelled, behind_gate}
use Rattle.deeds.proofs.Windows.{passes_then, window_begun}
use Rattle.deeds.proofs.batch.write_batch.Goals as goal

-- the window after all of it
shown : (ds : List PlainDeed) (from : ℕ) (w1 w2 : Window) (o0 o1 o2 : List ℕ) → Passes (to_be_bytes w64 (length (spelled ds))) (record { skip = from; used = 0 }) w1 o0 o1 → Passes (spelled ds) w1 w2 o1 o2
    → (length o2 ≡ length o0) × IsWindow from (behind_gate ds) w2 o2
shown ds from w1 w2 o0 o1 o2 first second =
    let both = passes_then (to_be_bytes w64 (length (spelled ds))) (spelled ds) (record { skip = from; used = 0 }) w1 w2 o0 o1 o2 first second in
    (both.room, both.passed from [] (window_begun from o0))

pub returns-clause-count : goal.returns-clause-count
returns-clause-count c =
    let ds = plains c.args.deeds.now in
    let first = subst (λ (k : ℕ). Passes (to_be_bytes w64 k) (record { skip = c.args.from; used = 0 }) c.pass.new.self c.args.out.now c.pass.new.out) c.spelled_len.ensures (subst (λ (l : List ℕ). Passes l (record { skip = c.args.from; used = 0 }) c.pass.new.self c.args.out.now c.pass.new.out) c.to_be_bytes.ensures c.pass.ensures.passes) in
    let second = c.pass_deeds.ensures.passes in
    let s = shown ds c.args.from c.pass.new.self c.pass_deeds.new.window c.args.out.now c.pass.new.out c.pass_deeds.new.out first second in
    subst (λ (k : ℕ). c.pass_deeds.new.window.used ≡ min k (length (behind_gate ds) - c.args.from)) s.0 s.1.used

pub returns-clause-bytes : goal.returns-clause-bytes
returns-clause-bytes c =
    let ds = plains c.args.deeds.now in
    let first = subst (λ (k : ℕ). Passes (to_be_bytes w64 k) (record { skip = c.args.from; used = 0 }) c.pass.new.self c.args.out.now c.pass.new.out) c.spelled_len.ensures (subst (λ (l : List ℕ). Passes l (record { skip = c.args.from; used = 0 }) c.pass.new.self c.args.out.now c.pass.new.out) c.to_be_bytes.ensures c.pass.ensures.passes) in
    let second = c.pass_deeds.ensures.passes in
    let s = shown ds c.args.from c.pass.new.self c.pass_deeds.new.window c.args.out.now c.pass.new.out c.pass_deeds.new.out first second in
    s.1.filled ∙ ap (λ (k : ℕ). take k (drop c.args.from (behind_gate ds))) s.0
