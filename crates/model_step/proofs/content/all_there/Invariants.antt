use Rattle.std.proofs.Common.{◌≡◌, take, Some}
use Rattle.tree_model.specs.Rows.{all_there}
use Rattle.model_step.proofs.content.all_there.Given as goal

abbrev pub invariant-loop-byte : goal.invariant-loop-byte
invariant-loop-byte l = all_there (take l.byte-index l.bytes) ≡ Some l.all.items
