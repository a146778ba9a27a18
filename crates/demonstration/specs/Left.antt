-- The nodes of a tree as the lines that sum a demonstration up.
use Rattle.std.specs.Prelude.{◌≡◌, ◌≢◌, ◌⊎◌, ℕ, List, [], ◌∷◌, ◌++◌, length, map, true, false, Some, None, Contains}
use Rattle.std.specs.Ordering.{nat_cmp}
use Rattle.std.specs.Cmp.Lexicographic.{slice_cmp}
use Rattle.std.specs.List.Sorted.{IsStrictlySortedBy}
use Rattle.sha2.specs.Sha256.{sha256}
use Rattle.tree_model.specs.Rows.{Content, bad_size, Row, Rows, all_there, is_dir, joined}
use Rattle.clear_tree.specs.Walk.{Path}
use Rattle.tree_deed_laws.specs.Shapes.{IsRowAt}
use Rattle.demonstration.specs.Summary.{PlainRow, directory, file}

-- a path as text: its names from the top on, with `/` between them
abbrev pub path_text : Path → List ℕ
path_text [] = []
path_text (name ∷ []) = name
path_text (name ∷ parent ∷ above) = path_text (parent ∷ above) ++ 47 ∷ name

-- these are the length and the SHA-256 of a content, each of whose bytes is there
pub record IsHashed (content : Content) (len : ℕ) (hash : List ℕ) : Type 0 where
  pub bytes : List ℕ
  pub opens : all_there (joined content) ≡ Some bytes
  pub len_is : len ≡ length bytes
  pub hash_is : hash ≡ sha256 bytes

-- the line of a node at a path: a directory's, or that of anything else with its content
abbrev pub IsLineOf : Path → Row → PlainRow → Type 0
IsLineOf path row (directory text) = (is_dir row.kind ≡ true) × (text ≡ path_text path)
IsLineOf path row (file text len hash) = (is_dir row.kind ≡ false) × (text ≡ path_text path) × IsHashed row.content len hash

-- the line of some node below the root
pub record IsOfNode (rows : Rows) (line : PlainRow) : Type 0 where
  pub name : List ℕ
  pub above : Path
  pub row : Row
  pub at : IsRowAt rows (name ∷ above) row
  pub is : IsLineOf (name ∷ above) row line

-- a node at a path has its line among these
pub record HasLine (lines : List PlainRow) (path : Path) (row : Row) : Type 0 where
  pub line : PlainRow
  pub there : Contains lines line
  pub is : IsLineOf path row line

abbrev pub text_of : PlainRow → List ℕ
text_of (directory text) = text
text_of (file text len hash) = text

-- The lines of all nodes but the root, in the order of their paths' bytes: no two have one path.
pub record AreLeft (rows : Rows) (lines : List PlainRow) : Type 0 where
  pub each : (line : PlainRow) → Contains lines line → IsOfNode rows line
  pub all : (name : List ℕ) (above : Path) (row : Row) → IsRowAt rows (name ∷ above) row → HasLine lines (name ∷ above) row
  pub ordered : IsStrictlySortedBy (slice_cmp nat_cmp) (map text_of lines)

-- ---- why there are no lines

-- a content can't be read whole: no content has its size, or one of its bytes is in a chunk that doesn't open
abbrev pub IsDamaged : Content → Type 0
IsDamaged content = (content ≡ bad_size) ⊎ (all_there (joined content) ≡ None)

-- the content of some node can't be read whole
pub record HasDamagedFile (rows : Rows) : Type 0 where
  pub path : Path
  pub row : Row
  pub at : IsRowAt rows path row
  pub damaged : IsDamaged row.content

-- two nodes below the root have one path as text
pub record HasTwins (rows : Rows) : Type 0 where
  pub name : List ℕ
  pub above : Path
  pub row : Row
  pub at : IsRowAt rows (name ∷ above) row
  pub other_name : List ℕ
  pub other_above : Path
  pub other_row : Row
  pub other_at : IsRowAt rows (other_name ∷ other_above) other_row
  pub apart : name ∷ above ≢ other_name ∷ other_above
  pub alike : path_text (name ∷ above) ≡ path_text (other_name ∷ other_above)

-- The rows are damaged: the content of some node can't be read whole, or two nodes have one path as text.
abbrev pub AreDamaged : Rows → Type 0
AreDamaged rows = HasDamagedFile rows ⊎ HasTwins rows
