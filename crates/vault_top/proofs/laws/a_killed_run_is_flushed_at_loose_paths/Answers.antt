use Rattle.chunk_journal.proofs.Flushed.{tidy_flushed}
use Rattle.vault_top.proofs.Killed.{killed_vaults_are_flushed, unopened_vaults_are_flushed}
use Rattle.vault_top.proofs.laws.a_killed_run_is_flushed_at_loose_paths.Goals as goal

pub returns-clause-tidy : goal.returns-clause-tidy
returns-clause-tidy c = tidy_flushed

pub returns-clause-served : goal.returns-clause-served
returns-clause-served c = killed_vaults_are_flushed

pub returns-clause-unopened : goal.returns-clause-unopened
returns-clause-unopened c = unopened_vaults_are_flushed
