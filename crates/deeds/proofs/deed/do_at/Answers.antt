use Rattle.std.proofs.Common.{◌≡◌, List, [], ◌∷◌, Option, true, sym, subst, refl}
use Rattle.outside.specs.Calls.{Changes}
use Rattle.outside.specs.Images.{Log, now}
use Rattle.outside.proofs.Told.{changed_by}
use Rattle.deeds.specs.declared.phase.Phase.{Phase}
use Rattle.deeds.specs.Deeds.{PlainDeed, Does, DoesAll, StaysAmid, is_of, of_phase}
use Rattle.deeds.specs.Applying.{StaysApplied, StaysRefused}
use Rattle.deeds.specs.Plain.{plain}
use Rattle.deeds.proofs.Applying.{one_applied, one_stopped}
use Rattle.deeds.proofs.Growing.{still_grown}
use Rattle.deeds.proofs.Phases.{of_one}
use Rattle.deeds.proofs.deed.do_at.Goals as goal

-- of a deed of the phase
amid_at : (phase : Phase) (d : PlainDeed) → is_of phase d ≡ true → (a b : Option Log) → Changes a b (StaysAmid (d ∷ [])) → Changes a b (StaysAmid (of_phase phase (d ∷ [])))
amid_at phase d is a b stays = subst (λ (l : List PlainDeed). Changes a b (StaysAmid l)) (sym (of_one phase d is)) stays

applied_at : (phase : Phase) (d : PlainDeed) → is_of phase d ≡ true → (a b : Option Log) → Changes a b (StaysAmid (d ∷ [])) → Changes a b (StaysRefused d) → Changes a b (StaysApplied (of_phase phase (d ∷ [])))
applied_at phase d is a b stays off = one_applied phase d a b (amid_at phase d is a b stays) off

pub returns-in-Ok-clause-done : goal.returns-in-Ok-clause-done
returns-in-Ok-clause-done g c =
    let d = plain c.args.deed.now in
    changed_by (g.F.Reads.log c.args.folder.now) (g.F.Reads.log c.do_deed.new.folder) (λ old new. Does d (now old) (now new)) (λ old new. DoesAll (of_phase c.args.phase (d ∷ [])) (now old) (now new))
    (λ old new does. subst (λ (l : List PlainDeed). DoesAll l (now old) (now new)) (sym (of_one c.args.phase d (sym c.if-not-is_of.ensures))) (now new, does, refl)) c.in-Ok.ensures.done

pub returns-in-Ok-clause-applied : goal.returns-in-Ok-clause-applied
returns-in-Ok-clause-applied g c = applied_at c.args.phase (plain c.args.deed.now) (sym c.if-not-is_of.ensures) (g.F.Reads.log c.args.folder.now) (g.F.Reads.log c.do_deed.new.folder) c.do_deed.ensures.amid c.do_deed.ensures.refused

pub returns-in-Err-Unfit-clause-applied : goal.returns-in-Err-Unfit-clause-applied
returns-in-Err-Unfit-clause-applied g c = applied_at c.args.phase (plain c.args.deed.now) (sym c.if-not-is_of.ensures) (g.F.Reads.log c.args.folder.now) (g.F.Reads.log c.do_deed.new.folder) c.do_deed.ensures.amid c.do_deed.ensures.refused

pub returns-in-Err-Unfit-clause-left : goal.returns-in-Err-Unfit-clause-left
returns-in-Err-Unfit-clause-left g c =
    one_stopped c.args.phase (plain c.args.deed.now) (sym c.if-not-is_of.ensures) (g.F.Reads.log c.args.folder.now) (g.F.Reads.log c.do_deed.new.folder) (c.in-Err-Unfit.ensures.left (rw c.in-Err-Unfit.field-0-is refl))

pub returns-in-Err-Failed-clause-applied : goal.returns-in-Err-Failed-clause-applied
returns-in-Err-Failed-clause-applied g c = applied_at c.args.phase (plain c.args.deed.now) (sym c.if-not-is_of.ensures) (g.F.Reads.log c.args.folder.now) (g.F.Reads.log c.do_deed.new.folder) c.do_deed.ensures.amid c.do_deed.ensures.refused

pub returns-then-not-is_of-clause-grown : goal.returns-then-not-is_of-clause-grown
returns-then-not-is_of-clause-grown g c = still_grown _ (g.F.Reads.log c.args.folder.now) (g.F.Reads.log c.args.folder.now) refl
