-- The plain file tree as rows, one for each node.
use Rattle.std.specs.Prelude.{ℕ, ◌%◌, ◌^◌, List, [], ◌∷◌, length, take, drop, replicate, map, filter, Bool, true, false, ◌&&◌, not, Option, Some, None, ◌==◌, if◌then◌else◌, codes}
use Rattle.std.specs.List.{find, flat_map}
use Rattle.std.specs.Option.{option_map}
use Rattle.std.specs.Ordering.{nat_cmp}
use Rattle.std.specs.Cmp.Lexicographic.{slice_cmp}
use Rattle.std.specs.FinMap as finmap
use Rattle.std.specs.Str.{bytes_eq}
use Rattle.tree_model.specs.declared.stat.Qid.{Qid}
use Rattle.tree_model.specs.Wire.{PlainStat}

-- what a node is. A Bad node is one whose identifier names no folder of its own
pub data Kind : Type 0 where
  dir : Kind
  file : Kind
  link : Kind
  bad : Kind

-- a chunk of a file: its clear bytes, or, if it doesn't open, how many there would be
pub data Cell : Type 0 where
  good : List ℕ → Cell
  damaged : ℕ → Cell

-- the content of a file: its size is none that a content can have; or whether its header opens, and its chunks
pub data Content : Type 0 where
  bad_size : Content
  chunks : Bool → List Cell → Content

-- a node. `foreign`: its folder has entries that aren't the vault's. `shadowed`: another entry stands for the same name, or
-- its own folder has further entries. `version` counts changes of this run, `modified` is a second
pub record Row : Type 0 where
  pub number : ℕ
  pub parent : ℕ
  pub name : List ℕ
  pub kind : Kind
  pub content : Content
  pub foreign : Bool
  pub shadowed : Bool
  pub version : ℕ
  pub modified : ℕ

-- all nodes; the next number, below which each number without a row is a node that was removed; and whether an identifier
-- is named twice
pub record Rows : Type 0 where
  pub nodes : List Row
  pub next : ℕ
  pub named_twice : Bool

-- ---- content

-- the bytes of a chunk, each of them None if it doesn't open
abbrev pub cell_bytes : Cell → List (Option ℕ)
cell_bytes (good bytes) = map (λ b. Some b) bytes
cell_bytes (damaged n) = replicate n None

-- the joined chunks
abbrev pub joined_cells : List Cell → List (Option ℕ)
joined_cells cells = flat_map cell_bytes cells

-- the joined chunks of a content; of a bad size nothing
abbrev pub joined : Content → List (Option ℕ)
joined bad_size = []
joined (chunks opens cells) = joined_cells cells

abbrev pub content_length : Content → ℕ
content_length content = length (joined content)

-- all of them, if each of them is there
abbrev pub all_there : {X : Type 0} → List (Option X) → Option (List X)
all_there [] = Some []
all_there (None ∷ xs) = None
all_there (Some x ∷ xs) = option_map (λ rest. x ∷ rest) (all_there xs)

-- the bytes from `at` on, at most `most`, if each of them opens
abbrev pub slice_of : Content → ℕ → ℕ → Option (List ℕ)
slice_of content at most = all_there (take most (drop at (joined content)))

-- ---- rows

-- the number of the root
abbrev pub root : ℕ
root = 0

abbrev pub is_dir : Kind → Bool
is_dir dir = true
is_dir file = false
is_dir link = false
is_dir bad = false

abbrev pub row_of : Rows → ℕ → Option Row
row_of rows number = find (λ row. row.number == number) rows.nodes

-- the row is a node's in this directory. The root is in none
abbrev pub is_child : ℕ → Row → Bool
is_child parent row = (row.parent == parent) && not (row.number == root)

-- the node of this name in a directory
abbrev pub child_of : Rows → ℕ → List ℕ → Option Row
child_of rows parent name = find (λ row. (row.parent == parent) && bytes_eq row.name name && not (row.number == root)) rows.nodes

-- the nodes of a directory
abbrev pub children_of : Rows → ℕ → List Row
children_of rows parent = filter (is_child parent) rows.nodes

-- the nodes of a directory by their names, in the order of the names' bytes
abbrev pub named_children : Rows → ℕ → finmap.FinMap (slice_cmp nat_cmp) Row
named_children rows parent = finmap.from_entries (map (λ row. (row.name, row)) (children_of rows parent))

-- ---- what a client sees of a node

-- 0x80 (QTDIR) for a directory, the changes modulo 2^32, the number
abbrev pub qid_of : Row → Qid
qid_of row = record { kind = if is_dir row.kind then 0x80 else 0; version = row.version % 2 ^ 32; path = row.number }

-- DMDIR and rwxr-xr-x for a directory, rw-r--r-- for a file, r--r--r-- for a link and a Bad node
abbrev pub mode_of : Kind → ℕ
mode_of dir = 0x800001ED
mode_of file = 0x1A4
mode_of link = 0x124
mode_of bad = 0x124

-- a directory and a Bad node have the length 0
abbrev pub length_of : Kind → Content → ℕ
length_of dir content = 0
length_of file content = content_length content
length_of link content = content_length content
length_of bad content = 0

abbrev pub shown_length : Row → ℕ
shown_length row = length_of row.kind row.content

-- who owns each node
abbrev pub owner : List ℕ
owner = codes "vault"

abbrev pub stat_at : Row → PlainStat
stat_at row = record {
  kind = 0;
  device = 0;
  qid = qid_of row;
  mode = mode_of row.kind;
  accessed = row.modified;
  modified = row.modified;
  length = shown_length row;
  name = row.name;
  owner = owner;
  group = owner;
  modifier = owner;
}
