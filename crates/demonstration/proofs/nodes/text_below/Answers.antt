use Rattle.std.proofs.Common.{◌≡◌, ◌-◌, ◌∙◌, ◌∷◌, ◌++◌, List, ℕ, Some, ap, arith}
use Rattle.std.specs.Prelude.{slice_get}
use Rattle.std.proofs.lemmas.Grind.{common_steps}
use Rattle.std.proofs.lemmas.Option.{gets}
use Rattle.demonstration.specs.Nodes.{below}
use Rattle.demonstration.proofs.nodes.text_below.Goals as goal

pub returns-in_ok-joined-in-Some-clause-text : goal.returns-in_ok-joined-in-Some-clause-text
returns-in_ok-joined-in-Some-clause-text c =
    let behind = c.if-parent-eq-ROOT.false in
    let is : slice_get c.args.rows.now (c.args.parent - 1) ≡ Some c.in-Some.above.now = grind (arith, common_steps, gets, c.in-Some.ensures.lookup) in
    below (c.args.parent - 1) c.in-Some.above.now (omega (arith, behind)) is
    (c.in_ok-joined-in-Some.ensures ∙ ap (λ (w : List ℕ). w ++ 47 ∷ c.args.name.now) c.deref.ensures.value)
