use Rattle.demonstration.proofs.Smallness.{scripts_are_small}
use Rattle.demonstration.proofs.laws.messages_of_scripts_are_small.Goals as goal

pub returns : goal.returns
returns c = scripts_are_small
