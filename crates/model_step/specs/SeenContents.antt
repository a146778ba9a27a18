-- Contents in code as the contents of the plain file tree.
use Rattle.std.specs.Prelude.{List, map}
use Rattle.tree_model.specs.Rows as rows
use Rattle.model_step.specs.declared.content.Cell.{Cell}
use Rattle.model_step.specs.declared.content.Cell.TheVariants as cells
use Rattle.model_step.specs.declared.content.Content.{Content}
use Rattle.model_step.specs.declared.content.Content.TheVariants as contents

abbrev pub cell_seen : Cell → rows.Cell
cell_seen (cells.Good clear) = rows.good clear.items
cell_seen (cells.Damaged n) = rows.damaged n

abbrev pub cells_seen : List Cell → List rows.Cell
cells_seen cells = map cell_seen cells

abbrev pub content_seen : Content → rows.Content
content_seen contents.BadSize = rows.bad_size
content_seen (contents.Chunks opens cells) = rows.chunks opens (cells_seen cells.items)
