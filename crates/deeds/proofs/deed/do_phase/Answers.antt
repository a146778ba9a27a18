use Rattle.std.proofs.Common.{◌≡◌, Result, Ok, Err, OnOk, Option, sym, ap, subst}
use Rattle.std.specs.Prelude.{OnErr}
use Rattle.std.specs.Result.{is_ok}
use Rattle.outside.specs.Calls.{Changes}
use Rattle.outside.specs.Disk.{Disk}
use Rattle.outside.specs.Images.{Log, Synced, now, adds, IsSteady}
use Rattle.outside.proofs.Told.{both_changed, changed_by, through, told_through}
use Rattle.deeds.specs.Deeds.{DoesAll, StaysAmid, named, of_phase}
use Rattle.outside.specs.Unsynced.{IsSynced}
use Rattle.deeds.specs.Applying.{StaysApplied}
use Rattle.deeds.specs.Plain.{plains}
use Rattle.deeds.proofs.Doing.{phase_done, synced_amid}
use Rattle.deeds.proofs.Applying.{whole_stays}
use Rattle.deeds.proofs.Growing.{synced_grown, grown_at}
use Rattle.deeds.proofs.deed.do_phase.Goals as goal

on_ok_mapped : {T D E P Q : Type 0} (mapped : Result T D) (r : Result T E) → is_ok mapped ≡ is_ok r → (P → Q) → OnOk r P → OnOk mapped Q
on_ok_mapped (Ok x) (Ok y) same so h = so h
on_ok_mapped (Ok x) (Err y) same so h = cc
on_ok_mapped (Err x) r same so h = tt

on_either : {T E P Q X : Type 0} (r : Result T E) → OnOk r P → OnErr r Q → (P → X) → (Q → X) → X
on_either (Ok x) done failed on_ok on_err = on_ok done
on_either (Err x) done failed on_ok on_err = on_err failed

pub returns-clause-done : goal.returns-clause-done
returns-clause-done g c =
    let xs = of_phase c.args.phase (plains c.args.deeds.now) in
    on_ok_mapped c.map_err.result c.sync.result c.map_err.ensures.variant
    (told_through (g.F.Reads.log c.args.folder.now) (g.F.Reads.log c.do_deeds.new.folder) (g.F.Reads.log c.sync.new.self) IsSteady
    (λ old new. DoesAll xs (now old) (now new)) (λ mid new. new ≡ adds mid Synced) (λ old new. IsSynced new × DoesAll xs (now old) (now new))
    (λ old mid new steady does is. phase_done xs old mid new steady does is) c.requires.steady c.in_ok-do_deeds.ensures.done) c.sync.ensures.synced

pub returns-clause-amid : goal.returns-clause-amid
returns-clause-amid g c =
    let xs = of_phase c.args.phase (plains c.args.deeds.now) in
    on_either c.sync.result c.sync.ensures.synced c.sync.ensures.failed
    (through (g.F.Reads.log c.args.folder.now) (g.F.Reads.log c.do_deeds.new.folder) (g.F.Reads.log c.sync.new.self)
    (StaysAmid xs) (λ mid new. new ≡ adds mid Synced) (StaysAmid xs) (synced_amid xs) c.in_ok-do_deeds.ensures.amid)
    (λ same. rw same c.in_ok-do_deeds.ensures.amid)

pub returns-clause-grown : goal.returns-clause-grown
returns-clause-grown g c =
    let ps = named (of_phase c.args.phase (plains c.args.deeds.now)) in
    let a = g.F.Reads.log c.args.folder.now in
    let b = g.F.Reads.log c.do_deeds.new.folder in
    let d = g.F.Reads.log c.sync.new.self in
    on_either c.sync.result c.sync.ensures.synced c.sync.ensures.failed
    (λ synced. grown_at ps a b d c.in_ok-do_deeds.ensures.grown (synced_grown ps b d synced))
    (λ same. rw same c.in_ok-do_deeds.ensures.grown)

pub returns-clause-applied : goal.returns-clause-applied
returns-clause-applied g c =
    let a = g.F.Reads.log c.args.folder.now in
    let b = g.F.Reads.log c.do_deeds.new.folder in
    let d = g.F.Reads.log c.sync.new.self in
    let xs = of_phase c.args.phase (plains c.args.deeds.now) in
    let Both = λ (old new : Log). DoesAll xs (now old) (now new) × StaysAmid xs old new in
    let both = both_changed a b (λ old new. DoesAll xs (now old) (now new)) (StaysAmid xs) c.in_ok-do_deeds.ensures.done c.in_ok-do_deeds.ensures.amid in
    let whole = λ (old new : Log) (h : Both old new). whole_stays xs old new h.0 h.1 in
    on_either c.sync.result c.sync.ensures.synced c.sync.ensures.failed
    (λ synced. through a b d Both (λ mid new. new ≡ adds mid Synced) (StaysApplied xs)
    (λ old mid new h is. whole_stays xs old new (subst (λ (k : Disk). DoesAll xs (now old) k) (sym (ap now is)) h.0) (synced_amid xs old mid new h.1 is)) both synced)
    (λ same. subst (λ (o : Option Log). Changes a o (StaysApplied xs)) (sym same) (changed_by a b Both (StaysApplied xs) whole both))
