use Rattle.std.proofs.Common.{◌≡◌}
use Rattle.outside.specs.Images.{Synced, adds, IsSound, IsImage, LeavesOnly}
use Rattle.outside.proofs.Told.{changed_from}
use Rattle.outside.proofs.Steady.{settled}
use Rattle.outside.specs.Unsynced.{IsSynced}
use Rattle.deeds.proofs.Growing.{synced_of}
use Rattle.chunk_journal.proofs.Faults.{sync_cause}
use Rattle.chunk_journal.proofs.recovery.settle.Goals as goal

pub returns-clause-steady : goal.returns-clause-steady
returns-clause-steady g c =
    changed_from (g.D.Reads.log c.args.folder.now) (g.D.Reads.log c.sync.new.self) (λ l. IsSound l.start l.calls) (λ old new. new ≡ adds old Synced) (λ old new. IsSynced new)
    (λ old new sound is. synced_of old new (settled old new sound is).0.0 is) c.sync.ensures.sound c.in_ok-sync.ensures.synced

pub returns-clause-any_moment : goal.returns-clause-any_moment
returns-clause-any_moment g c =
    changed_from (g.D.Reads.log c.args.folder.now) (g.D.Reads.log c.sync.new.self) (λ l. IsSound l.start l.calls) (λ old new. new ≡ adds old Synced) (λ old new. LeavesOnly old new (IsImage old))
    (λ old new sound is. (settled old new sound is).1) c.sync.ensures.sound c.in_ok-sync.ensures.synced

pub returns-in_err-sync-clause-cause : goal.returns-in_err-sync-clause-cause
returns-in_err-sync-clause-cause g c =
    sync_cause c.in_err-sync.field-0.0 (g.D.Reads.faults c.args.folder.now) (g.D.Reads.faults c.sync.new.self) _ c.in_err-sync.ensures.cause c.in_err-sync.ensures.fits c.in_err-sync.ensures.no_memory
