use Rattle.std.proofs.Common.{◌≡◌, ◌⊎◌, List, ◌∷◌, [], Option, subst, sym, inr}
use Rattle.std.proofs.lemmas.Result.{err_from_is_err_and}
use Rattle.outside.specs.Calls.{Told, Changes}
use Rattle.outside.specs.Changes.{Write}
use Rattle.outside.specs.Images.{Log, now}
use Rattle.outside.proofs.Told.{both_changed, changed_by, changed_from, told_through, through}
use Rattle.deeds.specs.Deeds.{PlainDeed, DoesAll, StaysAmid, GoesOnAt, LogGoesOn, in_order, named}
use Rattle.outside.specs.Unsynced.{IsSynced}
use Rattle.deeds.specs.Applying.{Applies, StaysApplied}
use Rattle.deeds.proofs.Applying.{applies_whole}
use Rattle.deeds.specs.Plain.{plains}
use Rattle.deeds.proofs.Growing.{goes_told, grown_on}
use Rattle.chunk_journal.specs.Journal.{journal_file, IsFound, IsRepeatable, StaysRecovered}
use Rattle.chunk_journal.specs.Opening.{HasFolder, IsUnfitAt, LeavesFolder}
use Rattle.chunk_journal.specs.Stages.{LeavesParts}
use Rattle.chunk_journal.proofs.Gate.{found_leaves, redone, shut_leaves}
use Rattle.chunk_journal.proofs.Openings.{damaged_by, told_back, leaves_folder, redone_all, ClosesBeside, HasRedone}
use Rattle.chunk_journal.proofs.recovery.redo.Given.{Over}
use Rattle.chunk_journal.proofs.recovery.redo.Goals as goal
use Rattle.chunk_journal.proofs.recovery.redo.Goals.{After-close}

abbrev Done : List PlainDeed → Log → Log → Type 0
Done bs old new = IsSynced new × DoesAll (in_order bs) (now old) (now new)

abbrev Stays : List PlainDeed → Log → Log → Type 0
Stays bs old new = IsRepeatable bs → StaysRecovered bs old new

-- closing only adds calls
closed_on : (bs : List PlainDeed) (a b c : Option Log) → Changes a b (GoesOnAt (named bs)) → Changes b c (LeavesParts (Write journal_file 0 (0 ∷ []))) → Changes a c LogGoesOn
closed_on bs a b c grown closed =
    grown_on a b c (goes_told (named bs) a b grown) (changed_by b c (LeavesParts (Write journal_file 0 (0 ∷ []))) LogGoesOn (λ x y leaves. leaves.grown.goes) closed)

pub returns-in_err-redo_deeds-clause-any_moment : goal.returns-in_err-redo_deeds-clause-any_moment
returns-in_err-redo_deeds-clause-any_moment g c =
    let bs = plains c.args.deeds.now in
    let k = c.requires.batch in
    let l0 = g.D.Reads.log c.args.folder.now in
    let l1 = g.D.Reads.log c.redo_deeds.new.folder in
    changed_from l0 l1 (IsFound bs) (λ x y. GoesOnAt (named bs) x y × (StaysAmid (in_order bs) x y × StaysApplied (in_order bs) x y)) (Stays bs) (λ x y f s repeatable. found_leaves bs k repeatable x y f s.0 s.1.0 s.1.1) c.requires.found
    (both_changed l0 l1 (GoesOnAt (named bs)) (λ x y. StaysAmid (in_order bs) x y × StaysApplied (in_order bs) x y) c.in_err-redo_deeds.ensures.grown
    (both_changed l0 l1 (StaysAmid (in_order bs)) (StaysApplied (in_order bs)) c.in_err-redo_deeds.ensures.amid c.in_err-redo_deeds.ensures.applied))

-- the deeds are done, and the gate is closed as far as that came
shut_stays : (g : Over) (c : After-close g) → Changes (g.D.Reads.log c.redo_deeds.new.folder) (g.D.Reads.log c.close.new.folder) (LeavesParts (Write journal_file 0 (0 ∷ []))) → Changes (g.D.Reads.log c.args.folder.now) (g.D.Reads.log c.close.new.folder) (Stays (plains c.args.deeds.now))
shut_stays g c shut =
    let bs = plains c.args.deeds.now in
    let k = c.requires.batch in
    let l0 = g.D.Reads.log c.args.folder.now in
    let l1 = g.D.Reads.log c.redo_deeds.new.folder in
    told_through l0 l1 (g.D.Reads.log c.close.new.folder) (IsFound bs) (λ x y. GoesOnAt (named bs) x y × (StaysAmid (in_order bs) x y × Done bs x y)) (LeavesParts (Write journal_file 0 (0 ∷ []))) (Stays bs)
    (λ x y z f p q repeatable. shut_leaves bs k repeatable x y z (redone bs k repeatable x y f p.0 p.1.0 p.1.1) q)
    c.requires.found (both_changed l0 l1 (GoesOnAt (named bs)) (λ x y. StaysAmid (in_order bs) x y × Done bs x y) c.in_ok-redo_deeds.ensures.grown
    (both_changed l0 l1 (StaysAmid (in_order bs)) (Done bs) c.in_ok-redo_deeds.ensures.amid c.in_ok-redo_deeds.ensures.done)) shut

pub returns-in_err-close-clause-any_moment : goal.returns-in_err-close-clause-any_moment
returns-in_err-close-clause-any_moment g c = shut_stays g (goal.at.returns-in_err-close-clause-any_moment g c).After-close c.in_err-close.ensures.any_moment

pub returns-in_err-close-clause-damaged : goal.returns-in_err-close-clause-damaged
returns-in_err-close-clause-damaged g c =
    let bs = plains c.args.deeds.now in
    let l0 = g.D.Reads.log c.args.folder.now in
    let l1 = g.D.Reads.log c.redo_deeds.new.folder in
    let q = err_from_is_err_and c.from_residual-in_err-close.result c.from_residual-in_err-close.ensures.1 in
    rw (q.1, q.2) (damaged_by c.in_err-close.field-0.0 (λ at. Told l1 (λ l. HasFolder (now l) × (at ≡ 0))) (λ at. Told l0 (λ l. IsUnfitAt (now l) at ⊎ LeavesFolder (now l) at))
    (λ at t. told_back l0 l1 (IsFound bs) (Done bs) (λ l. HasFolder (now l) × (at ≡ 0)) (λ l. IsUnfitAt (now l) at ⊎ LeavesFolder (now l) at) (λ x y f p h. inr (leaves_folder bs at x y f p h)) c.requires.found c.in_ok-redo_deeds.ensures.done t)
    c.in_err-close.ensures.damaged)

pub returns-clause-redone : goal.returns-clause-redone
returns-clause-redone g c =
    let bs = plains c.args.deeds.now in
    through (g.D.Reads.log c.args.folder.now) (g.D.Reads.log c.redo_deeds.new.folder) (g.D.Reads.log c.close.new.folder) (Done bs) ClosesBeside (HasRedone bs) (redone_all bs) c.in_ok-redo_deeds.ensures.done c.in_ok-close.ensures.closed

pub returns-clause-any_moment : goal.returns-clause-any_moment
returns-clause-any_moment g c = shut_stays g (goal.at.returns-clause-any_moment g c).After-close c.in_ok-close.ensures.any_moment

pub returns-in_err-redo_deeds-clause-grown : goal.returns-in_err-redo_deeds-clause-grown
returns-in_err-redo_deeds-clause-grown g c = goes_told (named (plains c.args.deeds.now)) (g.D.Reads.log c.args.folder.now) (g.D.Reads.log c.redo_deeds.new.folder) c.in_err-redo_deeds.ensures.grown

pub returns-in_err-close-clause-grown : goal.returns-in_err-close-clause-grown
returns-in_err-close-clause-grown g c =
    closed_on (plains c.args.deeds.now) (g.D.Reads.log c.args.folder.now) (g.D.Reads.log c.redo_deeds.new.folder) (g.D.Reads.log c.close.new.folder) c.in_ok-redo_deeds.ensures.grown c.in_err-close.ensures.any_moment

pub returns-clause-grown : goal.returns-clause-grown
returns-clause-grown g c =
    closed_on (plains c.args.deeds.now) (g.D.Reads.log c.args.folder.now) (g.D.Reads.log c.redo_deeds.new.folder) (g.D.Reads.log c.close.new.folder) c.in_ok-redo_deeds.ensures.grown c.in_ok-close.ensures.any_moment

pub returns-in_err-close-clause-left : goal.returns-in_err-close-clause-left
returns-in_err-close-clause-left g c =
    let bs = plains c.args.deeds.now in
    let l0 = g.D.Reads.log c.args.folder.now in
    let l1 = g.D.Reads.log c.redo_deeds.new.folder in
    let l2 = g.D.Reads.log c.close.new.folder in
    let q = err_from_is_err_and c.from_residual-in_err-close.result c.from_residual-in_err-close.ensures.1 in
    rw (q.1, q.2) (damaged_by c.in_err-close.field-0.0 (λ at. l2 ≡ l1) (λ at. Changes l0 l2 (λ old new. Applies (in_order bs) (now old) (now new)))
    (λ at same. subst (λ (o : Option Log). Changes l0 o (λ old new. Applies (in_order bs) (now old) (now new))) (sym same)
    (changed_by l0 l1 (Done bs) (λ old new. Applies (in_order bs) (now old) (now new)) (λ x y did. applies_whole (in_order bs) (now x) (now y) did.1) c.in_ok-redo_deeds.ensures.done))
    c.in_err-close.ensures.still)
