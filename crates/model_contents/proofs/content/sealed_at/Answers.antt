use Rattle.std.proofs.Common.{◌≡◌, ◌+◌, ◌-◌, ◌*◌, ℕ, List, length, take, drop, min, ap, ◌∙◌, arith, length-drop}
use Rattle.std.proofs.lemmas.List.{take_min}
use Rattle.model_contents.proofs.content.sealed_at.Goals as goal

pub returns-clause-chunk : goal.returns-clause-chunk
returns-clause-chunk c =
    let start : ℕ = 68 + 32796 * c.args.index in
    let rest : List ℕ = drop start c.args.bytes.now in
    let size : c.min-end.result - (68 + 32796 * c.args.index) ≡ min 32796 (length rest) = omega (arith, length-drop start c.args.bytes.now) in
    ap (λ (n : ℕ). take n rest) size ∙ take_min 32796 rest
