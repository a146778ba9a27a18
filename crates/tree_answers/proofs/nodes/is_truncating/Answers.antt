use Rattle.tree_answers.proofs.Steps.{truncates_is}
use Rattle.tree_answers.proofs.nodes.is_truncating.Goals as goal

pub returns : goal.returns
returns c = truncates_is c.args.mode
