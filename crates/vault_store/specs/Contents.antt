-- The qid of a file whose content changed.
use Rattle.std.specs.Prelude.{◌≡◌, ℕ, Some}
use Rattle.tree_model.specs.declared.stat.Qid.{Qid}
use Rattle.tree_model.specs.Rows.{Content, Row, qid_of, row_of}
use Rattle.tree_model.specs.Step.{with_content}
use Rattle.live_tree.specs.Held.{HeldTree, live_rows}

-- it is that of the number's row with another content, whatever the contents are and whenever it changed
abbrev pub IsChangedQid : HeldTree → ℕ → Qid → Type 0
IsChangedQid live number qid = (contents : ℕ → Content) (row : Row) → row_of (live_rows contents live) number ≡ Some row
    → (content : Content) (second : ℕ) → qid ≡ qid_of (with_content row content second)
