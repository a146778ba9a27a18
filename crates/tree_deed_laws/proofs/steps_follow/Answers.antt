use Rattle.tree_deed_laws.proofs.Stepping.{step_makes_directory, step_makes_file, step_removes, step_renames}
use Rattle.tree_deed_laws.proofs.steps_follow.Goals as goal

pub returns-clause-file : goal.returns-clause-file
returns-clause-file c = step_makes_file

pub returns-clause-directory : goal.returns-clause-directory
returns-clause-directory c = step_makes_directory

pub returns-clause-removed : goal.returns-clause-removed
returns-clause-removed c = step_removes

pub returns-clause-renamed : goal.returns-clause-renamed
returns-clause-renamed c = step_renames
