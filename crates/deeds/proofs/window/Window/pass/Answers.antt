use Rattle.std.proofs.Common.{◌≡◌, ℕ, ◌+◌, ◌-◌, List, ◌++◌, length, take, drop, ap, ◌∙◌, arith, length-append, length-take, length-drop}
use Rattle.std.proofs.lemmas.Slice.{take-put_mid}
use Rattle.deeds.proofs.Windows.{passes}
use Rattle.deeds.proofs.window.Window.pass.Goals as goal

pub returns-clause-passes : goal.returns-clause-passes
returns-clause-passes c =
    let w = c.args.self.now in
    let out = c.args.out.now in
    let bytes = c.args.bytes.now in
    let n = c.min-n.result in
    let long : length c.copy_from_slice.new.self ≡ n = omega (arith, c.min-n.ensures, c.requires, c.copy_from_slice.ensures.len, length-take {A = ℕ}, length-drop {A = ℕ}) in
    passes out _ bytes w.skip w.used c.min-skipped.result n (omega arith) (omega arith) (omega arith)
    (omega (arith, long, c.min-n.ensures, c.requires, length-append {A = ℕ}, length-take {A = ℕ}, length-drop {A = ℕ}))
    (take-put_mid w.used (w.used + n - w.used) out c.copy_from_slice.new.self (w.used + n) (omega (arith, long)) (omega arith)
    ∙ ap (λ (l : List ℕ). take w.used out ++ l) (c.copy_from_slice.ensures.after ∙ (let e : c.min-skipped.result + n - c.min-skipped.result ≡ n = omega arith in ap (λ (k : ℕ). take k (drop c.min-skipped.result bytes)) e)))
