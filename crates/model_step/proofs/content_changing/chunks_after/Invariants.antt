use Rattle.std.proofs.Common.{◌≡◌, Some}
use Rattle.tree_model.specs.Contents.{chunks_after}
use Rattle.model_step.specs.SeenContents.{cells_seen}
use Rattle.model_step.proofs.content_changing.chunks_after.Given as goal

abbrev pub invariant-loop-i : goal.invariant-loop-i
invariant-loop-i l = chunks_after (cells_seen l.old) l.bytes l.low l.high l.i ≡ Some (cells_seen l.cells.items)
