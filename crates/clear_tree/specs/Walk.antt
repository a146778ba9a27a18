-- The nodes of a vault by path: which node is at a path, and which path has a folder.
use Rattle.std.specs.Prelude.{◌≡◌, ℕ, Bool, false, cond, ◌&&◌, List, [], ◌∷◌, Option, Some, None, bytes_eq}
use Rattle.std.specs.declared.cmp.Ordering.{Ordering}
use Rattle.std.specs.Ordering.{nat_cmp, ordering_then, is_gt}
use Rattle.std.specs.declared.cmp.Ordering.TheVariants.{Less, Equal, Greater}
use Rattle.std.specs.Cmp.Lexicographic.{slice_cmp, pointwise}
use Rattle.tree_model.specs.Rows.{Content}

-- what the format says under one pair of keys
pub record Sealing : Type 0 where
  pub seal : List ℕ → List ℕ → List ℕ  -- the text of a name in the directory of an identifier
  pub open_name : List ℕ → List ℕ → Option (List ℕ)  -- the valid name that a text stands for there
  pub folder_of : List ℕ → List ℕ  -- the 32 characters of an identifier's folder
  pub valid_id : List ℕ → Bool  -- whether bytes are the identifier of a directory below the root
  pub long_of : List ℕ → List ℕ  -- the folder of a text at its long place
  pub is_part : List ℕ → Bool  -- whether a text can be a part of a host path
  pub is_text : List ℕ → Bool  -- whether a text can be a sealed name
  pub content : List ℕ → Content  -- the content of a host file's bytes

-- what a text of a directory's folder shows: a host file of these bytes, or a host folder whose `dir.c9r` or `symlink.c9r` has them, or
-- one without a known file
pub data Kind : Type 0 where
  Plain : List ℕ → Kind
  Named : List ℕ → Kind
  Linked : List ℕ → Kind
  Bare : Kind

-- what the walk sees of a disk: which folders of directories are there, and what each text of one shows
pub record Folders : Type 0 where
  pub present : List ℕ → Bool
  pub seen : List ℕ → List ℕ → Option Kind

-- a node: a file and a link with the bytes of their host file, a directory with its identifier, a Bad node with the text of its `dir.c9r`
pub data Node : Type 0 where
  File : List ℕ → Node
  Link : List ℕ → Node
  Dir : List ℕ → Node
  Bad : List ℕ → Node

-- a path is the list of names from the node up to the root
abbrev pub Path : Type 0
Path = List (List ℕ)

unfoldable pub same_path : Path → Path → Bool
same_path = pointwise bytes_eq

-- breadth first: a shorter path is before a longer one; then the parents' order decides, then the names' bytes
abbrev pub walk_cmp : Path → Path → Ordering
walk_cmp [] [] = Equal
walk_cmp [] (n ∷ q) = Less
walk_cmp (m ∷ p) [] = Greater
walk_cmp (m ∷ p) (n ∷ q) = ordering_then (walk_cmp p q) (slice_cmp nat_cmp m n)

abbrev pub is_name : List ℕ → Option (List ℕ) → Bool
is_name n None = false
is_name n (Some m) = bytes_eq m n

-- the entry of the directory of identifier i that is named n: if n's sealed text opens to n again
abbrev pub look : Sealing → Folders → List ℕ → List ℕ → Option Kind
look s v i n = cond (is_name n (s.open_name i (s.seal i n))) (v.seen (s.folder_of i) (s.seal i n)) None

-- a directory's node is good if its text is a valid identifier, its folder is there, and the folder's owner is this path
abbrev pub is_good : Sealing → Folders → (List ℕ → Path) → Path → List ℕ → Bool
is_good s v owner p text = s.valid_id text && (v.present (s.folder_of text) && same_path (owner (s.folder_of text)) p)

abbrev pub node : Sealing → Folders → (List ℕ → Path) → Path → Option Kind → Option Node
node s v owner p None = None
node s v owner p (Some (Plain b)) = Some (File b)
node s v owner p (Some (Linked b)) = Some (Link b)
node s v owner p (Some (Named text)) = Some (cond (is_good s v owner p text) (Dir text) (Bad text))
node s v owner p (Some Bare) = None

-- the node at a path, by the node at its parent's
abbrev pub below : Sealing → Folders → (List ℕ → Path) → Path → List ℕ → Option Node → Option Node
below s v owner p n None = None
below s v owner p n (Some (Dir i)) = node s v owner p (look s v i n)
below s v owner p n (Some (File c)) = None
below s v owner p n (Some (Link c)) = None
below s v owner p n (Some (Bad t)) = None

unfoldable pub node_at : Sealing → Folders → (List ℕ → Path) → Path → Option Node
node_at s v owner [] = Some (Dir [])
node_at s v owner (n ∷ p) = below s v owner (n ∷ p) n (node_at s v owner p)

-- the folder that a node names
abbrev pub claimed : Sealing → Option Node → Option (List ℕ)
claimed s None = None
claimed s (Some (Dir i)) = Some (s.folder_of i)
claimed s (Some (Bad t)) = cond (s.valid_id t) (Some (s.folder_of t)) None
claimed s (Some (File c)) = None
claimed s (Some (Link c)) = None

-- the first node of the walk that names a folder has it
pub record IsOwner (s : Sealing) (v : Folders) (owner : List ℕ → Path) : Type 0 where
  pub holds : (q : Path) (f : List ℕ) → claimed s (node_at s v owner q) ≡ Some f → claimed s (node_at s v owner (owner f)) ≡ Some f
  pub first : (q : Path) (f : List ℕ) → claimed s (node_at s v owner q) ≡ Some f → is_gt (walk_cmp (owner f) q) ≡ false

-- no folder is named by two nodes
abbrev pub NamedOnce : Sealing → Folders → (List ℕ → Path) → Type 0
NamedOnce s v owner = (p q : Path) (f : List ℕ) → claimed s (node_at s v owner p) ≡ Some f → claimed s (node_at s v owner q) ≡ Some f → p ≡ q

-- the owners, with one more folder
abbrev pub new_owner : (List ℕ → Path) → List ℕ → Path → List ℕ → Path
new_owner owner f p g = cond (bytes_eq f g) p (owner g)

-- of the texts of directories' folders one has changed at most
pub record ChangedAt (v v' : Folders) (f t : List ℕ) : Type 0 where
  pub others : (g u : List ℕ) → (g ≡ f → u ≡ t → ⊥) → v'.seen g u ≡ v.seen g u

-- of the texts of directories' folders two of one folder have changed at most
pub record ChangedTwo (v v' : Folders) (f t u : List ℕ) : Type 0 where
  pub others : (g x : List ℕ) → (g ≡ f → x ≡ t → ⊥) → (g ≡ f → x ≡ u → ⊥) → v'.seen g x ≡ v.seen g x
