use Rattle.live_tree_laws.proofs.Laws.{created_directory_keeps, created_file_keeps}
use Rattle.live_tree_laws.proofs.creations_keep_strays.Goals as goal

pub returns-clause-file : goal.returns-clause-file
returns-clause-file c = created_file_keeps

pub returns-clause-directory : goal.returns-clause-directory
returns-clause-directory c = created_directory_keeps
