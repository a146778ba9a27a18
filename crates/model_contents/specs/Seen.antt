-- The plain functions' answers as the definitions' values.
use Rattle.std.specs.Prelude.{map}
use Rattle.file_chunks.specs.Header.{Head}
use Rattle.tree_model.specs.Rows as rows
use Rattle.model_contents.specs.declared.header.Head.{Head as PlainHead}
use Rattle.model_contents.specs.declared.content.Cell.{Cell}
use Rattle.model_contents.specs.declared.content.Cell.TheVariants as cells
use Rattle.model_contents.specs.declared.content.Content.{Content}
use Rattle.model_contents.specs.declared.content.Content.TheVariants as contents

abbrev pub head_seen : PlainHead → Head
head_seen head = record { nonce = head.nonce; key = head.key }

abbrev pub cell_seen : Cell → rows.Cell
cell_seen (cells.Good clear) = rows.good clear.items
cell_seen (cells.Damaged n) = rows.damaged n

abbrev pub content_seen : Content → rows.Content
content_seen contents.BadSize = rows.bad_size
content_seen (contents.Chunks opens found) = rows.chunks opens (map cell_seen found.items)
