use Rattle.crash_laws.proofs.Trees.{clear_recovered}
use Rattle.crash_laws.proofs.laws.recovers_to_trees.Goals as goal

pub returns : goal.returns
returns c = clear_recovered
