-- The changes of a tree, and what each makes of its rows.
use Rattle.std.specs.Prelude.{◌≡◌, ◌≢◌, ◌-◌, ◌^◌, ◌%◌, ℕ, suc, List, [], ◌∷◌, ◌++◌, map, filter, Bool, true, false, not, Some, ◌==◌, if◌then◌else◌, ⊤}
use Rattle.tree_model.specs.Rows.{Content, chunks, Row, Rows, row_of}
use Rattle.tree_model.specs.Step.{set_row, change_dir, new_row, with_new, with_content, without_row}
use Rattle.clear_tree.specs.Kept.{What, KeptFile, KeptLink, KeptDir, KeptBad}
use Rattle.clear_tree.specs.Built.{renamed_node as renamed_kept, sized_node as sized_kept}
use Rattle.live_tree.specs.Held.{HeldNode, HeldTree, live_rows}

-- ---- changes

-- the nodes with that of a number changed
abbrev pub edited_nodes : List (ℕ × HeldNode) → ℕ → (HeldNode → HeldNode) → List (ℕ × HeldNode)
edited_nodes nodes number change = map (λ e. (e.0, if e.0 == number then change e.1 else e.1)) nodes

abbrev pub edited : HeldTree → ℕ → (HeldNode → HeldNode) → HeldTree
edited tree number change = record {
  nodes = edited_nodes tree.nodes number change;
  next = tree.next;
  twice = tree.twice;
}

-- a node that changed at a second
abbrev pub changed_node : ℕ → HeldNode → HeldNode
changed_node now node = record { kept = node.kept; version = suc node.version % 2 ^ 32; modified = now }

-- the node of a number changed at a second
abbrev pub changed : HeldTree → ℕ → ℕ → HeldTree
changed tree number now = edited tree number (changed_node now)

-- a node after the others, with the next number
abbrev pub appended : HeldTree → HeldNode → HeldTree
appended tree node = record {
  nodes = tree.nodes ++ (tree.next, node) ∷ [];
  next = suc tree.next;
  twice = tree.twice;
}

abbrev pub new_node : ℕ → List ℕ → What → List ℕ → Bool → ℕ → HeldNode
new_node parent name what entry long now = record {
  kept = record { parent = parent; name = name; entry = entry; long = long; what = what; foreign = false; shadowed = false };
  version = 0;
  modified = now;
}

-- the tree after a node was made in a directory at a second
abbrev pub added : HeldTree → HeldNode → ℕ → HeldTree
added tree node now = changed (appended tree node) node.kept.parent now

-- the tree without the node of a number
abbrev pub dropped : HeldTree → ℕ → HeldTree
dropped tree number = record {
  nodes = filter (λ e. not (e.0 == number)) tree.nodes;
  next = tree.next;
  twice = tree.twice;
}

-- the tree after a node was removed from a directory at a second
abbrev pub removed : HeldTree → ℕ → ℕ → ℕ → HeldTree
removed tree number parent now = dropped (changed tree parent now) number

abbrev pub renamed_node : List ℕ → List ℕ → Bool → HeldNode → HeldNode
renamed_node name entry long node = record { kept = renamed_kept name entry long node.kept; version = node.version; modified = node.modified }

-- the tree after a node of a directory got another name at a second
abbrev pub renamed : HeldTree → ℕ → ℕ → List ℕ → List ℕ → Bool → ℕ → HeldTree
renamed tree number parent name entry long now = changed (edited tree number (renamed_node name entry long)) parent now

-- a file whose host file has another size
abbrev pub sized_node : ℕ → HeldNode → HeldNode
sized_node size node = record { kept = sized_kept size node.kept; version = node.version; modified = node.modified }

-- the tree after a file was written at a second
abbrev pub touched : HeldTree → ℕ → ℕ → ℕ → HeldTree
touched tree number size now = changed (edited tree number (sized_node size)) number now

-- a node whose mtime was set
abbrev pub dated_node : ℕ → HeldNode → HeldNode
dated_node modified node = record { kept = node.kept; version = node.version; modified = modified }

abbrev pub dated : HeldTree → ℕ → ℕ → HeldTree
dated tree number modified = edited tree number (dated_node modified)

-- ---- conditions

-- a request makes files and directories alone
abbrev pub CanBeMade : What → Type 0
CanBeMade (KeptFile size) = ⊤
CanBeMade (KeptDir identifier folder) = ⊤
CanBeMade (KeptLink size) = ⊥
CanBeMade (KeptBad text) = ⊥

-- the largest number
abbrev pub count_limit : ℕ
count_limit = 2 ^ 64 - 1

-- ---- rows after them, up to the multiples of 2 ^ 32 in their versions, which are shown modulo 2 ^ 32 alone

abbrev pub wrapped_row : Row → Row
wrapped_row row = record row { version = row.version % 2 ^ 32 }

abbrev pub wrapped : Rows → Rows
wrapped rows = record rows { nodes = map wrapped_row rows.nodes }

-- contents that differ from others at one number at most
abbrev pub AgreeBut : ℕ → (ℕ → Content) → (ℕ → Content) → Type 0
AgreeBut number old new = (other : ℕ) → other ≢ number → new other ≡ old other

-- the rows are those after a node was made, with the contents that were there and none in the new node
abbrev pub RowsAreAdded : HeldTree → HeldTree → ℕ → List ℕ → Bool → ℕ → Type 0
RowsAreAdded old new parent name directory now =
    (contents contents' : ℕ → Content) (row : Row) → row_of (live_rows contents old) parent ≡ Some row → AgreeBut old.next contents contents'
    → contents' old.next ≡ chunks true [] → wrapped (live_rows contents' new) ≡ wrapped (with_new (live_rows contents old) (new_row (live_rows contents old) row name directory now) now)

-- the rows are those after a node was removed
abbrev pub RowsAreRemoved : HeldTree → HeldTree → ℕ → ℕ → Type 0
RowsAreRemoved old new number now =
    (contents : ℕ → Content) (row : Row) → row_of (live_rows contents old) number ≡ Some row → wrapped (live_rows contents new) ≡ wrapped (without_row (live_rows contents old) row now)

-- the rows are those after a node got another name
abbrev pub RowsAreRenamed : HeldTree → HeldTree → ℕ → List ℕ → ℕ → Type 0
RowsAreRenamed old new number name now =
    (contents : ℕ → Content) (row : Row) → row_of (live_rows contents old) number ≡ Some row
    → wrapped (live_rows contents new) ≡ wrapped (set_row (change_dir (live_rows contents old) row.parent now) (record row { name = name }))

-- the rows are those after a file got another content
abbrev pub RowsAreTouched : HeldTree → HeldTree → ℕ → ℕ → Type 0
RowsAreTouched old new number now =
    (contents contents' : ℕ → Content) (row : Row) → row_of (live_rows contents old) number ≡ Some row → AgreeBut number contents contents'
    → wrapped (live_rows contents' new) ≡ wrapped (set_row (live_rows contents old) (with_content row (contents' number) now))

-- the rows are those after a node's mtime was set
abbrev pub RowsAreDated : HeldTree → HeldTree → ℕ → ℕ → Type 0
RowsAreDated old new number modified =
    (contents : ℕ → Content) (row : Row) → row_of (live_rows contents old) number ≡ Some row
    → wrapped (live_rows contents new) ≡ wrapped (set_row (live_rows contents old) (record row { modified = modified }))
