use Rattle.std.proofs.Common.{ℕ, List, subst}
use Rattle.model_step.specs.declared.rows.Row.{Row}
use Rattle.model_step.specs.Listed.{IsPlace}
use Rattle.model_step.proofs.Putting.{put_taken}
use Rattle.model_step.proofs.listing.put.Goals as goal

pub returns-then-place : goal.returns-then-place
returns-then-place c =
    let among : IsPlace c.args.entries.now.items c.deref-2.result.now c.place_of-place.result =
    subst (λ (xs : List Row). IsPlace xs c.deref-2.result.now c.place_of-place.result) c.deref.ensures.value c.place_of-place.ensures in
    let place : IsPlace c.args.entries.now.items c.args.row.name.items c.place_of-place.result =
    subst (λ (n : List ℕ). IsPlace c.args.entries.now.items n c.place_of-place.result) c.deref-2.ensures.value among in
    put_taken c.args.entries.now.items c.place_of-place.result c.args.row place c.if-place.true
