use Rattle.std.proofs.Common.{◌≡◌, ◌⊎◌, List, Option, None, refl, sym, subst, inr}
use Rattle.std.specs.Prelude.{MatchOption}
use Rattle.std.specs.declared.vec.Vec.{Vec}
use Rattle.std.specs.declared.alloc.Global.{Global}
use Rattle.std.proofs.lemmas.Result.{err_from_is_err_and}
use Rattle.outside.specs.Calls.{Told, Changes}
use Rattle.outside.specs.Images.{Log, now}
use Rattle.outside.proofs.Told.{both_changed, changed_by, through}
use Rattle.deeds.specs.Applying.{Applies}
use Rattle.deeds.specs.Deeds.{PlainDeed, LogGoesOn, in_order}
use Rattle.deeds.specs.Plain.{plains}
use Rattle.deeds.specs.declared.deed.Deed.{Deed}
use Rattle.chunk_journal.specs.Journal.{HoldsBatch, IsRepeatable, IsClosed, StaysRecovered, IsUnheld}
use Rattle.chunk_journal.specs.Opening.{HasFolder, IsUnfitAt, IsDamagedAt, LeavesFolder, IsLeftApplied, IsOpening, StaysOpening, HasOpened}
use Rattle.chunk_journal.proofs.Pieces.{with_new}
use Rattle.chunk_journal.proofs.Openings.{damaged_by, told_earlier, told_settled, unopened, Finds, HasSettled, HasRedone, reopened_by, opened_by, opened_closed, redone_damage, left_unread, left_redone}
use Rattle.chunk_journal.proofs.recovery.recover.Given.{Over}
use Rattle.chunk_journal.proofs.recovery.recover.Goals as goal
use Rattle.chunk_journal.proofs.recovery.recover.Goals.{In_ok-settle, In-Some, After-redo}

-- what follows the gate, if anything
abbrev Looks : Option (Vec Deed Global) → Log → Type 0
Looks found log = (HasFolder (now log) → ⊥) × MatchOption found (IsClosed (now log)) (λ deeds. HoldsBatch (now log) (plains deeds.items))

abbrev Stays : List PlainDeed → Log → Log → Type 0
Stays bs old new = IsRepeatable bs → StaysRecovered bs old new

-- what doing a batch again leaves, of a folder that didn't change since it settled
redone_stays : (bs : List PlainDeed) (a b c : Option Log) → b ≡ a → Changes b c LogGoesOn → Changes b c (Stays bs) → Changes a c (λ x y. LogGoesOn x y × Stays bs x y)
redone_stays bs a b c same grown stays = subst (λ (o : Option Log). Changes o c (λ x y. LogGoesOn x y × Stays bs x y)) same (both_changed b c LogGoesOn (Stays bs) grown stays)

-- the folder has settled
settled : (g : Over) (c : In_ok-settle g) → Changes (g.D.Reads.log c.args.folder.now) (g.D.Reads.log c.settle.new.folder) HasSettled
settled g c = told_settled (g.D.Reads.log c.args.folder.now) (g.D.Reads.log c.settle.new.folder) c.in_ok-settle.ensures.synced c.in_ok-settle.ensures.steady c.in_ok-settle.ensures.any_moment

-- and a batch is found there
found : (g : Over) (c : In-Some g) → Changes (g.D.Reads.log c.args.folder.now) (g.D.Reads.log c.settle.new.folder) HasSettled → Changes (g.D.Reads.log c.args.folder.now) (g.D.Reads.log c.settle.new.folder) (λ x y. HasSettled x y × Finds (plains c.in-Some.deeds.items) y)
found g c is =
    with_new (g.D.Reads.log c.args.folder.now) (g.D.Reads.log c.settle.new.folder) HasSettled (Finds (plains c.in-Some.deeds.items)) is (subst (λ (o : Option (Vec Deed Global)). Told (g.D.Reads.log c.settle.new.folder) (Looks o)) c.in-Some.is c.in_ok-deeds.ensures.found)

pub returns-in_err-deeds-clause-any_moment : goal.returns-in_err-deeds-clause-any_moment
returns-in_err-deeds-clause-any_moment g c =
    let at = goal.at.returns-in_err-deeds-clause-any_moment g c in
    subst (λ (o : Option Log). Changes (g.D.Reads.log c.args.folder.now) o StaysOpening) (sym c.in_err-deeds.ensures.log) (changed_by (g.D.Reads.log c.args.folder.now) (g.D.Reads.log c.settle.new.folder) HasSettled StaysOpening (λ x y p. inr (unopened x y y p refl)) (settled g at.In_ok-settle))

pub returns-in_default-clause-opened : goal.returns-in_default-clause-opened
returns-in_default-clause-opened g c =
    let at = goal.at.returns-in_default-clause-opened g c in
    let none : Told (g.D.Reads.log c.settle.new.folder) (Looks None) = subst (λ (o : Option (Vec Deed Global)). Told (g.D.Reads.log c.settle.new.folder) (Looks o)) c.in_default.is c.in_ok-deeds.ensures.found in
    subst (λ (o : Option Log). Changes (g.D.Reads.log c.args.folder.now) o HasOpened) (sym c.batch_to_redo.ensures.log)
    (changed_by (g.D.Reads.log c.args.folder.now) (g.D.Reads.log c.settle.new.folder) (λ x y. HasSettled x y × Looks None y) HasOpened (λ x y p. opened_closed x y y p.0 p.1.1 p.1.0 refl) (with_new (g.D.Reads.log c.args.folder.now) (g.D.Reads.log c.settle.new.folder) HasSettled (Looks None) (settled g at.In_ok-settle) none))

pub returns-in_default-clause-opening : goal.returns-in_default-clause-opening
returns-in_default-clause-opening g c =
    let at = goal.at.returns-in_default-clause-opening g c in
    subst (λ (o : Option Log). Changes (g.D.Reads.log c.args.folder.now) o IsOpening) (sym c.batch_to_redo.ensures.log) (changed_by (g.D.Reads.log c.args.folder.now) (g.D.Reads.log c.settle.new.folder) HasSettled IsOpening (λ x y p. unopened x y y p refl) (settled g at.In_ok-settle))

pub returns-in_default-clause-any_moment : goal.returns-in_default-clause-any_moment
returns-in_default-clause-any_moment g c =
    let at = goal.at.returns-in_default-clause-any_moment g c in
    subst (λ (o : Option Log). Changes (g.D.Reads.log c.args.folder.now) o StaysOpening) (sym c.batch_to_redo.ensures.log) (changed_by (g.D.Reads.log c.args.folder.now) (g.D.Reads.log c.settle.new.folder) HasSettled StaysOpening (λ x y p. inr (unopened x y y p refl)) (settled g at.In_ok-settle))

-- what doing it again leaves, as far as it came
again : (g : Over) (c : After-redo g) → Changes (g.D.Reads.log c.batch_to_redo.new.folder) (g.D.Reads.log c.redo.new.folder) LogGoesOn → Changes (g.D.Reads.log c.batch_to_redo.new.folder) (g.D.Reads.log c.redo.new.folder) (Stays (plains c.deref.result.now)) → Changes (g.D.Reads.log c.settle.new.folder) (g.D.Reads.log c.redo.new.folder) (λ x y. LogGoesOn x y × Stays (plains c.in-Some.deeds.items) x y)
again g c grown stays =
    redone_stays (plains c.in-Some.deeds.items) (g.D.Reads.log c.settle.new.folder) (g.D.Reads.log c.batch_to_redo.new.folder) (g.D.Reads.log c.redo.new.folder) c.batch_to_redo.ensures.log grown (subst (λ (ds : List Deed). Changes (g.D.Reads.log c.batch_to_redo.new.folder) (g.D.Reads.log c.redo.new.folder) (Stays (plains ds))) c.deref.ensures.value stays)

pub returns-in_err-redo-clause-any_moment : goal.returns-in_err-redo-clause-any_moment
returns-in_err-redo-clause-any_moment g c =
    let bs = plains c.in-Some.deeds.items in
    let at = goal.at.returns-in_err-redo-clause-any_moment g c in
    through (g.D.Reads.log c.args.folder.now) (g.D.Reads.log c.settle.new.folder) (g.D.Reads.log c.redo.new.folder) (λ x y. HasSettled x y × Finds bs y) (λ x y. LogGoesOn x y × Stays bs x y) StaysOpening (λ x y z p q. inr (reopened_by bs x y z p q))
    (found g at.In-Some (settled g at.In_ok-settle)) (again g at.After-redo c.in_err-redo.ensures.grown c.in_err-redo.ensures.any_moment)

pub returns-in_err-redo-clause-damaged : goal.returns-in_err-redo-clause-damaged
returns-in_err-redo-clause-damaged g c =
    let bs = plains c.in-Some.deeds.items in
    let at = goal.at.returns-in_err-redo-clause-damaged g c in
    let q = err_from_is_err_and c.from_residual-in_err-redo.result c.from_residual-in_err-redo.ensures.1 in
    rw (q.1, q.2) (damaged_by c.in_err-redo.field-0.0 (λ at. Told (g.D.Reads.log c.batch_to_redo.new.folder) (λ l. IsUnfitAt (now l) at ⊎ LeavesFolder (now l) at)) (λ at. Told (g.D.Reads.log c.args.folder.now) (λ l. IsDamagedAt (now l) at ⊎ LeavesFolder (now l) at))
    (λ n t. told_earlier (g.D.Reads.log c.args.folder.now) (g.D.Reads.log c.settle.new.folder) (λ x y. HasSettled x y × Finds bs y) (λ l. IsUnfitAt (now l) n ⊎ LeavesFolder (now l) n) (λ l. IsDamagedAt (now l) n ⊎ LeavesFolder (now l) n) (λ x y p h. redone_damage bs n x y p.0 p.1 h)
    (found g at.In-Some (settled g at.In_ok-settle)) (subst (λ (o : Option Log). Told o (λ l. IsUnfitAt (now l) n ⊎ LeavesFolder (now l) n)) c.batch_to_redo.ensures.log t))
    c.in_err-redo.ensures.damaged)

pub returns-clause-opened : goal.returns-clause-opened
returns-clause-opened g c =
    let bs = plains c.in-Some.deeds.items in
    let at = goal.at.returns-clause-opened g c in
    through (g.D.Reads.log c.args.folder.now) (g.D.Reads.log c.settle.new.folder) (g.D.Reads.log c.redo.new.folder) (λ x y. HasSettled x y × Finds bs y) (HasRedone bs) HasOpened (opened_by bs) (found g at.In-Some (settled g at.In_ok-settle))
    (subst (λ (o : Option Log). Changes o (g.D.Reads.log c.redo.new.folder) (HasRedone bs)) c.batch_to_redo.ensures.log (subst (λ (ds : List Deed). Changes (g.D.Reads.log c.batch_to_redo.new.folder) (g.D.Reads.log c.redo.new.folder) (HasRedone (plains ds))) c.deref.ensures.value c.in_ok-redo.ensures.redone))

pub returns-clause-opening : goal.returns-clause-opening
returns-clause-opening g c =
    let bs = plains c.in-Some.deeds.items in
    let at = goal.at.returns-clause-opening g c in
    through (g.D.Reads.log c.args.folder.now) (g.D.Reads.log c.settle.new.folder) (g.D.Reads.log c.redo.new.folder) (λ x y. HasSettled x y × Finds bs y) (λ x y. LogGoesOn x y × Stays bs x y) IsOpening (reopened_by bs)
    (found g at.In-Some (settled g at.In_ok-settle)) (again g at.After-redo c.in_ok-redo.ensures.grown c.in_ok-redo.ensures.any_moment)

pub returns-clause-any_moment : goal.returns-clause-any_moment
returns-clause-any_moment g c =
    let bs = plains c.in-Some.deeds.items in
    let at = goal.at.returns-clause-any_moment g c in
    through (g.D.Reads.log c.args.folder.now) (g.D.Reads.log c.settle.new.folder) (g.D.Reads.log c.redo.new.folder) (λ x y. HasSettled x y × Finds bs y) (λ x y. LogGoesOn x y × Stays bs x y) StaysOpening (λ x y z p q. inr (reopened_by bs x y z p q))
    (found g at.In-Some (settled g at.In_ok-settle)) (again g at.After-redo c.in_ok-redo.ensures.grown c.in_ok-redo.ensures.any_moment)

pub returns-in_err-deeds-clause-left : goal.returns-in_err-deeds-clause-left
returns-in_err-deeds-clause-left g c =
    let at = goal.at.returns-in_err-deeds-clause-left g c in
    let q = err_from_is_err_and c.from_residual-in_err-deeds.result c.from_residual-in_err-deeds.ensures.1 in
    rw (q.1, q.2) (damaged_by c.in_err-deeds.field-0.0 (λ n. Told (g.D.Reads.log c.settle.new.folder) (λ l. HasFolder (now l) ⊎ IsUnheld (now l))) (λ n. Changes (g.D.Reads.log c.args.folder.now) (g.D.Reads.log c.batch_to_redo.new.folder) IsLeftApplied)
    (λ n unheld. subst (λ (o : Option Log). Changes (g.D.Reads.log c.args.folder.now) o IsLeftApplied) (sym c.in_err-deeds.ensures.log)
    (changed_by (g.D.Reads.log c.args.folder.now) (g.D.Reads.log c.settle.new.folder) (λ x y. HasSettled x y × (HasFolder (now y) ⊎ IsUnheld (now y))) IsLeftApplied (λ x y p. left_unread x y p.0 p.1)
    (with_new (g.D.Reads.log c.args.folder.now) (g.D.Reads.log c.settle.new.folder) HasSettled (λ l. HasFolder (now l) ⊎ IsUnheld (now l)) (settled g at.In_ok-settle) unheld)))
    c.in_err-deeds.ensures.unheld)

pub returns-in_err-redo-clause-left : goal.returns-in_err-redo-clause-left
returns-in_err-redo-clause-left g c =
    let bs = plains c.in-Some.deeds.items in
    let at = goal.at.returns-in_err-redo-clause-left g c in
    let q = err_from_is_err_and c.from_residual-in_err-redo.result c.from_residual-in_err-redo.ensures.1 in
    let A = λ (ds : List PlainDeed) (old new : Log). Applies (in_order ds) (now old) (now new) in
    rw (q.1, q.2) (damaged_by c.in_err-redo.field-0.0 (λ n. Changes (g.D.Reads.log c.batch_to_redo.new.folder) (g.D.Reads.log c.redo.new.folder) (A (plains c.deref.result.now))) (λ n. Changes (g.D.Reads.log c.args.folder.now) (g.D.Reads.log c.redo.new.folder) IsLeftApplied)
    (λ n applied. through (g.D.Reads.log c.args.folder.now) (g.D.Reads.log c.settle.new.folder) (g.D.Reads.log c.redo.new.folder) (λ x y. HasSettled x y × Finds bs y) (A bs) IsLeftApplied (λ x y z p h. left_redone bs x y z p h) (found g at.In-Some (settled g at.In_ok-settle))
    (subst (λ (o : Option Log). Changes o (g.D.Reads.log c.redo.new.folder) (A bs)) c.batch_to_redo.ensures.log (subst (λ (ds : List Deed). Changes (g.D.Reads.log c.batch_to_redo.new.folder) (g.D.Reads.log c.redo.new.folder) (A (plains ds))) c.deref.ensures.value applied)))
    c.in_err-redo.ensures.left)
