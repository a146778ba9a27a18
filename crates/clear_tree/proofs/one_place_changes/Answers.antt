use Rattle.clear_tree.proofs.Laws.{one_directory_is_made, one_directory_is_removed, one_place_changes}
use Rattle.clear_tree.proofs.one_place_changes.Goals as goal

pub returns-clause-leaf : goal.returns-clause-leaf
returns-clause-leaf c = one_place_changes

pub returns-clause-made : goal.returns-clause-made
returns-clause-made c = one_directory_is_made

pub returns-clause-removed : goal.returns-clause-removed
returns-clause-removed c = one_directory_is_removed
