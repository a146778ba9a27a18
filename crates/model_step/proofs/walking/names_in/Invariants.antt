use Rattle.std.proofs.Common.{◌≡◌, ◌++◌}
use Rattle.tree_model.specs.Names.{names_in}
use Rattle.model_step.specs.SeenRows.{bytes_seen}
use Rattle.model_step.proofs.walking.names_in.Given as goal

abbrev pub invariant-loop-left : goal.invariant-loop-left
invariant-loop-left l = bytes_seen l.names.items ++ names_in l.left l.rest ≡ names_in l.spelled.count l.spelled.bytes.now

abbrev pub decreases-loop-left : goal.decreases-loop-left
decreases-loop-left l = l.left
