use Rattle.live_tree_laws.proofs.Files.{contents_are_held, nodes_have_bytes, paths_are_of_nodes}
use Rattle.live_tree_laws.proofs.held_paths.Goals as goal

pub returns-clause-bytes : goal.returns-clause-bytes
returns-clause-bytes c = nodes_have_bytes

pub returns-clause-nodes : goal.returns-clause-nodes
returns-clause-nodes c = paths_are_of_nodes

pub returns-clause-contents : goal.returns-clause-contents
returns-clause-contents c = contents_are_held
