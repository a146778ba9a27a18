use Rattle.tree_deed_laws.proofs.Clear.{clear_rows_have_tree, shapes_are_of_clear_rows}
use Rattle.tree_deed_laws.proofs.Vault.{empty_vault_has_tree}
use Rattle.tree_deed_laws.proofs.clear_rows_have_shape.Goals as goal

pub returns-clause-have : goal.returns-clause-have
returns-clause-have c = clear_rows_have_tree

pub returns-clause-some : goal.returns-clause-some
returns-clause-some c = empty_vault_has_tree

pub returns-clause-same : goal.returns-clause-same
returns-clause-same c = shapes_are_of_clear_rows
