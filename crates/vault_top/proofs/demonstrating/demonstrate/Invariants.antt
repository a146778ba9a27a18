use Rattle.std.specs.Prelude.{Some}
use Rattle.unlocking.specs.declared.from_folder.SecretKind.TheVariants.{RawKeys}
use Rattle.demonstration.specs.Objects.{folder_seen}
use Rattle.vault_top.specs.Sharing.{Begins, IsBegun}
use Rattle.vault_top.specs.Demonstrated.{own_views}
use Rattle.vault_top.proofs.demonstrating.demonstrate.Given as goal

abbrev pub ghosts-hold_sessions-B-Start : goal.ghosts-hold_sessions-B-Start
ghosts-hold_sessions-B-Start g a = record { is = λ rows origin. Begins own_views a.folder a.workers.now.items rows origin }

abbrev pub ghosts-hold_sessions-B-Since : goal.ghosts-hold_sessions-B-Since
ghosts-hold_sessions-B-Since g a = record {
  since = λ start keys rows. IsBegun RawKeys (folder_seen a.folder) (record { left = Some a.secret.now.left; faults = a.secret.now.plan.faults }) (Some a.clock.now) start keys rows;
}
