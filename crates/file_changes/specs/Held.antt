-- What is held of a tree after the content of a file changed.
use Rattle.std.specs.Prelude.{◌≡◌, ℕ, Option, Some, None}
use Rattle.tree_model.specs.Rows.{Content, Row, row_of}
use Rattle.tree_model.specs.Step.{set_row, with_content}
use Rattle.live_tree.specs.Held.{HeldNode, HeldTree, node_of, live_rows}
use Rattle.clear_tree.specs.Built.{IsFile}
use Rattle.live_tree.specs.Changes.{touched, wrapped, AgreeBut}
use Rattle.live_tree.specs.Changes.{dated as dated_at}
use Rattle.file_changes.specs.Steps.{dated}

-- the node of a number is a file, if there is one
abbrev pub IsHeldFile : HeldTree → ℕ → Type 0
IsHeldFile live number = (node : HeldNode) → node_of live number ≡ Some node → IsFile node.kept.what

-- the tree after the host file of a number got another size at a second, besides an mtime, if one is given
abbrev pub rewritten_tree : HeldTree → ℕ → ℕ → Option ℕ → ℕ → HeldTree
rewritten_tree live number size None second = touched live number size second
rewritten_tree live number size (Some modified) second = dated_at (touched live number size second) number modified

-- the rows are those after the file of a number got another content, besides an mtime, if one is given
abbrev pub RowsAreRewritten : HeldTree → HeldTree → ℕ → Option ℕ → ℕ → Type 0
RowsAreRewritten old new number modified second =
    (contents contents' : ℕ → Content) (row : Row) → row_of (live_rows contents old) number ≡ Some row → AgreeBut number contents contents'
    → wrapped (live_rows contents' new) ≡ wrapped (set_row (live_rows contents old) (dated modified (with_content row (contents' number) second)))
