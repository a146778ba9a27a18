use Rattle.live_tree_laws.proofs.Laws.{renamed_directory_keeps, renamed_file_keeps, renamed_link_keeps}
use Rattle.live_tree_laws.proofs.renames_keep_strays.Goals as goal

pub returns-clause-file : goal.returns-clause-file
returns-clause-file c = renamed_file_keeps

pub returns-clause-link : goal.returns-clause-link
returns-clause-link c = renamed_link_keeps

pub returns-clause-directory : goal.returns-clause-directory
returns-clause-directory c = renamed_directory_keeps
