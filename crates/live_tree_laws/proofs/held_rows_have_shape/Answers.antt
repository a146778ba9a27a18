use Rattle.live_tree_laws.proofs.Numbers.{held_rows_have_shape, nodes_have_rows, rows_are_of_nodes}
use Rattle.live_tree_laws.proofs.held_rows_have_shape.Goals as goal

pub returns-clause-shape : goal.returns-clause-shape
returns-clause-shape c = held_rows_have_shape

pub returns-clause-rows : goal.returns-clause-rows
returns-clause-rows c = nodes_have_rows

pub returns-clause-nodes : goal.returns-clause-nodes
returns-clause-nodes c = rows_are_of_nodes
