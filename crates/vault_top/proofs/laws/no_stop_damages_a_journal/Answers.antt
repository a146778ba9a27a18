use Rattle.vault_top.proofs.Undamaged.{never_damaged, new_vaults_are_openable, stays_by, stopped_vaults_are_openable}
use Rattle.vault_top.proofs.laws.no_stop_damages_a_journal.Goals as goal

pub returns-clause-run : goal.returns-clause-run
returns-clause-run g c = λ views span ending reason makes_none. stays_by span makes_none views ending reason

pub returns-clause-next : goal.returns-clause-next
returns-clause-next g c = never_damaged

pub returns-clause-stopped : goal.returns-clause-stopped
returns-clause-stopped g c = stopped_vaults_are_openable

pub returns-clause-new : goal.returns-clause-new
returns-clause-new g c = new_vaults_are_openable
