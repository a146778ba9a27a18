use Rattle.pending_files.proofs.Laying.{none_waits, is_laid, laid_tree, looks_alike}
use Rattle.pending_files.proofs.laws.laying_what_waits.Goals as goal

pub returns-clause-nothing : goal.returns-clause-nothing
returns-clause-nothing c = none_waits

pub returns-clause-alone : goal.returns-clause-alone
returns-clause-alone c = is_laid

pub returns-clause-tree : goal.returns-clause-tree
returns-clause-tree c = laid_tree

pub returns-clause-alike : goal.returns-clause-alike
returns-clause-alike c = looks_alike
