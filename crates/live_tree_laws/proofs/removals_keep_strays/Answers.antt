use Rattle.live_tree_laws.proofs.Laws.{removed_directory_keeps, removed_file_keeps, removed_link_keeps}
use Rattle.live_tree_laws.proofs.removals_keep_strays.Goals as goal

pub returns-clause-file : goal.returns-clause-file
returns-clause-file c = removed_file_keeps

pub returns-clause-link : goal.returns-clause-link
returns-clause-link c = removed_link_keeps

pub returns-clause-directory : goal.returns-clause-directory
returns-clause-directory c = removed_directory_keeps
