use Rattle.vault_top.proofs.Stopped.{new_vaults_are_sound, stopped_vaults_are_sound, unopened_vaults_are_sound}
use Rattle.vault_top.proofs.laws.a_stopped_vault_is_soundly_found.Goals as goal

pub returns-clause-stopped : goal.returns-clause-stopped
returns-clause-stopped c = stopped_vaults_are_sound

pub returns-clause-unopened : goal.returns-clause-unopened
returns-clause-unopened c = unopened_vaults_are_sound

pub returns-clause-new : goal.returns-clause-new
returns-clause-new c = new_vaults_are_sound
