use Rattle.std.proofs.Common.{refl, sym, subst}
use Rattle.std.proofs.lemmas.Result.{IfOk-weaker}
use Rattle.outside.specs.Changes.{Change}
use Rattle.outside.specs.Images.{now}
use Rattle.outside_mem.specs.Held.{Holding}
use Rattle.outside_mem.specs.Kept.{change_of}
use Rattle.outside_mem.specs.Pictures.{IsTried, AreTried}
use Rattle.outside_mem.specs.Choices.{left_of}
use Rattle.outside_mem.specs.declared.images.Leaves.{Leaves}
use Rattle.outside_mem.proofs.images.with_part.Goals as goal

pub returns-in_ok-copied-in-All-clause-tried : goal.returns-in_ok-copied-in-All-clause-tried
returns-in_ok-copied-in-All-clause-tried c =
    let change = change_of c.args.change.now in
    let d = now c.args.image.log in
    IfOk-weaker c.with_change.result (λ (x : Holding). IsTried (change_of c.in_ok-copied-in-All.field-0) d (now x.log)) (λ (x : Holding). AreTried (left_of c.args.leaves change) d (now x.log))
    (λ x tried. subst (λ (l : Leaves). AreTried (left_of l change) d (now x.log)) (sym c.in-All.is) (d, refl, subst (λ (ch : Change). IsTried ch d (now x.log)) c.in_ok-copied-in-All.ensures tried))
    c.with_change.ensures.made

pub returns-in_ok-filled-in-Filled-clause-tried : goal.returns-in_ok-filled-in-Filled-clause-tried
returns-in_ok-filled-in-Filled-clause-tried c =
    let change = change_of c.args.change.now in
    let d = now c.args.image.log in
    IfOk-weaker c.with_change-in-Filled.result (λ (x : Holding). IsTried (change_of c.in_ok-filled-in-Filled.field-0) d (now x.log)) (λ (x : Holding). AreTried (left_of c.args.leaves change) d (now x.log))
    (λ x tried. subst (λ (l : Leaves). AreTried (left_of l change) d (now x.log)) (sym c.in-Filled.is) (d, refl, subst (λ (ch : Change). IsTried ch d (now x.log)) c.in_ok-filled-in-Filled.ensures tried))
    c.with_change-in-Filled.ensures.made
