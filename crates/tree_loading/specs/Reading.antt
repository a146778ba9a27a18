-- What is read of host files and of node folders.
use Rattle.std.specs.Prelude.{◌≡◌, ◌≢◌, ℕ, suc, ◌++◌, List, [], ◌∷◌, take, Bool, cond, ◌&&◌, not, Option, Some, None, IsTrue, bytes_eq}
use Rattle.std.specs.Option.{option_map}
use Rattle.std.specs.FinMap.{get}
use Rattle.vault_path.specs.Parts.{is_part, is_path}
use Rattle.outside.specs.Disk.{Disk, Path, Node as Thing}
use Rattle.vault_names.specs.Places.{longest_text}
use Rattle.clear_tree.specs.Walk.{Kind, Bare}
use Rattle.clear_tree.specs.Places.{bytes_of, either_kind, folder_kind, text_dir, text_symlink, text_contents, text_name}
use Rattle.clear_tree.specs.Scan.{ShowsAs}
use Rattle.tree_loading.specs.declared.found.Shown.{Shown}
use Rattle.tree_loading.specs.declared.found.Shown.TheVariants.{File, Link, Directory}
use Rattle.tree_loading.specs.Scanned.{shown_of}

-- each good part makes a path after this folder
abbrev pub CanHoldParts : Path → Type 0
CanHoldParts folder = (part : List ℕ) → IsTrue (is_part part) → IsTrue (is_path (folder ++ part ∷ []))

-- a folder can hold node folders: each good part makes a path after it, and so do two
pub record CanHoldNodes (folder : Path) : Type 0 where
  pub entries : CanHoldParts folder
  pub inner : (entry : List ℕ) → IsTrue (is_part entry) → CanHoldParts (folder ++ entry ∷ [])

-- what is at an entry of a folder: an entry that no path can name stands for nothing
abbrev pub entry_in : Disk → Path → List ℕ → Option Thing
entry_in d folder entry = cond (is_part entry) (get d (folder ++ entry ∷ [])) None

-- the bytes of the host file at a path
abbrev pub file_at : Disk → Path → Option (List ℕ)
file_at d path = bytes_of (get d path)

-- no more of a `name.c9s` is read than shows whether it holds the text of a name
abbrev pub name_limit : ℕ
name_limit = suc longest_text

-- what `name.c9s` of a node folder begins with
abbrev pub name_in : Disk → Path → Option (List ℕ)
name_in d node = option_map (take name_limit) (file_at d (node ++ text_name ∷ []))

-- what a node folder at a short place is
abbrev pub short_kind : Disk → Path → Kind
short_kind d node = folder_kind (file_at d (node ++ text_dir ∷ [])) (file_at d (node ++ text_symlink ∷ [])) None

-- what an entry shows at its short place
abbrev pub short_at : Disk → Path → Option Kind
short_at d node = either_kind (get d node) (short_kind d node) None

-- what a node folder at a long place is
abbrev pub long_kind : Disk → Path → Kind
long_kind d node =
    folder_kind (file_at d (node ++ text_dir ∷ [])) (file_at d (node ++ text_symlink ∷ [])) (file_at d (node ++ text_contents ∷ []))

-- what a node folder shows, if it has a known file
abbrev pub Shows : Kind → Option Shown → Type 0
Shows kind None = kind ≡ Bare
Shows kind (Some shown) = ShowsAs kind (shown_of shown)

-- the known file of a node folder
abbrev pub known_file : Shown → List ℕ
known_file (File size) = text_contents
known_file (Link size) = text_symlink
known_file (Directory text) = text_dir

-- an entry of a node folder beside its known file, and `name.c9s` of a long one
abbrev pub is_further : List ℕ → Bool → List ℕ → Bool
is_further known long entry = not (bytes_eq entry known) && not (long && bytes_eq entry text_name)

abbrev pub HoldsFurther : Disk → Path → List ℕ → Bool → Type 0
HoldsFurther d node known long = (entry : List ℕ) × IsTrue (is_further known long entry) × (get d (node ++ entry ∷ []) ≢ None)
