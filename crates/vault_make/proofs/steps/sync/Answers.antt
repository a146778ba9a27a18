use Rattle.std.proofs.Common.{◌≡◌}
use Rattle.outside.specs.Images.{Synced, adds, IsSound}
use Rattle.outside.proofs.Told.{changed_from}
use Rattle.outside.proofs.Steady.{settled}
use Rattle.vault_make.specs.Stages.{HasSynced}
use Rattle.vault_make.proofs.steps.sync.Goals as goal

pub returns-clause-synced : goal.returns-clause-synced
returns-clause-synced g c =
    changed_from (g.D.Reads.log c.args.folder.now) (g.D.Reads.log c.sync.new.self) (λ log. IsSound log.start log.calls) (λ old new. new ≡ adds old Synced) HasSynced
    (λ old new sound is. let s = settled old new sound is in record { same = s.0.1; steady = s.0.0; call = is }) c.sync.ensures.sound c.in_ok-sync.ensures.synced
