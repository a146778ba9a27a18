use Rattle.clear_tree.proofs.Empty.{bare_vault_is_clear, empty_vault_is_clear}
use Rattle.clear_tree.proofs.Laws.{rows_are_determined}
use Rattle.clear_tree.proofs.rows_are_determined.Goals as goal

pub returns-clause-one : goal.returns-clause-one
returns-clause-one c = rows_are_determined

pub returns-clause-bare : goal.returns-clause-bare
returns-clause-bare c = bare_vault_is_clear

pub returns-clause-some : goal.returns-clause-some
returns-clause-some c = empty_vault_is_clear
