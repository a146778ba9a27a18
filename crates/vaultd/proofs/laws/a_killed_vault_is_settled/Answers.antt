use Rattle.vaultd.proofs.Killed.{killed_vaults_are_settled, settled_vaults_are_held, unopened_vaults_are_settled}
use Rattle.vaultd.proofs.laws.a_killed_vault_is_settled.Goals as goal

pub returns-clause-served : goal.returns-clause-served
returns-clause-served c = killed_vaults_are_settled

pub returns-clause-unopened : goal.returns-clause-unopened
returns-clause-unopened c = unopened_vaults_are_settled

pub returns-clause-settled : goal.returns-clause-settled
returns-clause-settled c = settled_vaults_are_held
