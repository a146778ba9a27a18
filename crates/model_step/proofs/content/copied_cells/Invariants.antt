use Rattle.std.proofs.Common.{◌≡◌, take}
use Rattle.model_step.specs.SeenContents.{cells_seen}
use Rattle.model_step.proofs.content.copied_cells.Given as goal

abbrev pub invariant-loop-cell : goal.invariant-loop-cell
invariant-loop-cell l = cells_seen l.copies.items ≡ cells_seen (take l.cell-index l.cells)
