use Rattle.std.proofs.Common.{◌≡◌, take}
use Rattle.tree_model.specs.Rows.{joined_cells}
use Rattle.model_step.specs.SeenContents.{cells_seen}
use Rattle.model_step.proofs.content.joined_cells.Given as goal

abbrev pub invariant-loop-cell : goal.invariant-loop-cell
invariant-loop-cell l = l.bytes.items ≡ joined_cells (cells_seen (take l.cell-index l.cells))
