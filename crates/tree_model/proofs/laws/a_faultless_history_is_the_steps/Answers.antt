use Rattle.tree_model.proofs.Faultless.{are_stepped}
use Rattle.tree_model.proofs.laws.a_faultless_history_is_the_steps.Goals as goal

pub returns : goal.returns
returns c = are_stepped
