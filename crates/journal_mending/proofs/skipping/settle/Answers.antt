use Rattle.std.proofs.Common.{◌≡◌}
use Rattle.outside.specs.Images.{Synced, adds, IsSound}
use Rattle.outside.proofs.Told.{changed_from}
use Rattle.outside.proofs.Steady.{settled}
use Rattle.outside.specs.Unsynced.{IsSynced}
use Rattle.deeds.proofs.Growing.{synced_of}
use Rattle.chunk_journal.proofs.Faults.{sync_cause}
use Rattle.journal_mending.proofs.skipping.settle.Goals as goal

pub returns-clause-steady : goal.returns-clause-steady
returns-clause-steady g c =
    changed_from (g.F.Reads.log c.args.folder.now) (g.F.Reads.log c.sync.new.self) (λ l. IsSound l.start l.calls) (λ old new. new ≡ adds old Synced) (λ old new. IsSynced new)
    (λ old new sound is. synced_of old new (settled old new sound is).0.0 is) c.sync.ensures.sound c.in_ok-sync.ensures.synced

pub returns-in_err-sync-clause-cause : goal.returns-in_err-sync-clause-cause
returns-in_err-sync-clause-cause g c =
    sync_cause c.in_err-sync.field-0.0 (g.F.Reads.faults c.args.folder.now) (g.F.Reads.faults c.sync.new.self) _ c.in_err-sync.ensures.cause c.in_err-sync.ensures.fits c.in_err-sync.ensures.no_memory
