-- What the walk sees of a disk: at each text of a directory's folder, at its short place or its long one (Cryptomator's vault
-- format 8).
use Rattle.std.specs.Prelude.{ℕ, Bool, true, false, cond, List, [], ◌∷◌, Option, Some, None, bytes_eq, take, drop}
use Rattle.std.specs.FinMap.{get}
use Rattle.vault_layout.specs.Names.{contents_file, directory_file, folders, identifier_copy, link_file, name_file}
use Rattle.outside.specs.Disk.{Disk, Node as Thing, folder as Folder, file as Bytes}
use Rattle.clear_tree.specs.Walk.{Kind, Plain, Named, Linked, Bare, Folders, Sealing}

abbrev pub text_d : List ℕ
text_d = folders

abbrev pub text_dirid : List ℕ
text_dirid = identifier_copy

abbrev pub text_dir : List ℕ
text_dir = directory_file

abbrev pub text_symlink : List ℕ
text_symlink = link_file

abbrev pub text_contents : List ℕ
text_contents = contents_file

abbrev pub text_name : List ℕ
text_name = name_file

-- a folder of a directory is named by its 32 characters
abbrev pub host_two : List ℕ → List (List ℕ)
host_two h = text_d ∷ take 2 h ∷ []

abbrev pub host_folder : List ℕ → List (List ℕ)
host_folder h = text_d ∷ take 2 h ∷ drop 2 h ∷ []

abbrev pub host_entry : List ℕ → List ℕ → List (List ℕ)
host_entry h t = text_d ∷ take 2 h ∷ drop 2 h ∷ t ∷ []

abbrev pub host_inner : List ℕ → List ℕ → List ℕ → List (List ℕ)
host_inner h t k = text_d ∷ take 2 h ∷ drop 2 h ∷ t ∷ k ∷ []

abbrev pub is_folder : Option Thing → Bool
is_folder None = false
is_folder (Some Folder) = true
is_folder (Some (Bytes b)) = false

-- the bytes of a host file
abbrev pub bytes_of : Option Thing → Option (List ℕ)
bytes_of None = None
bytes_of (Some Folder) = None
bytes_of (Some (Bytes b)) = Some b

-- what a node folder is, by its known files: dir.c9r before symlink.c9r before contents.c9r
abbrev pub folder_kind : Option (List ℕ) → Option (List ℕ) → Option (List ℕ) → Kind
folder_kind (Some t) b c = Named t
folder_kind None (Some b) c = Linked b
folder_kind None None (Some c) = Plain c
folder_kind None None None = Bare

-- which of them makes it that
abbrev pub known : Option (List ℕ) → Option (List ℕ) → List ℕ
known (Some t) b = text_dir
known None (Some b) = text_symlink
known None None = text_contents

-- a long node folder counts if its name.c9s holds the text
abbrev pub kind_where : Bool → Kind → Option Kind
kind_where true k = Some k
kind_where false k = None

abbrev pub long_kind : List ℕ → Option (List ℕ) → Kind → Option Kind
long_kind t None k = None
long_kind t (Some x) k = kind_where (bytes_eq x t) k

-- an entry at the short place goes before the long one
abbrev pub either_kind : Option Thing → Kind → Option Kind → Option Kind
either_kind None s l = l
either_kind (Some Folder) s l = Some s
either_kind (Some (Bytes c)) s l = Some (Plain c)

abbrev pub short_at : Disk → List ℕ → List ℕ → Kind
short_at d h t = folder_kind (bytes_of (get d (host_inner h t text_dir))) (bytes_of (get d (host_inner h t text_symlink))) None

-- the node folder at an entry, as a long one
abbrev pub folder_at : Disk → List ℕ → List ℕ → Kind
folder_at d h e = folder_kind (bytes_of (get d (host_inner h e text_dir))) (bytes_of (get d (host_inner h e text_symlink))) (bytes_of (get d (host_inner h e text_contents)))

abbrev pub long_at : Disk → List ℕ → List ℕ → List ℕ → Option Kind
long_at d h e t = long_kind t (bytes_of (get d (host_inner h e text_name))) (folder_at d h e)

-- what is at a short place: an entry that no path can name stands for nothing
abbrev pub entry_at : Sealing → Disk → List ℕ → List ℕ → Option Thing
entry_at s d h t = cond (s.is_part t) (get d (host_entry h t)) None

abbrev pub seen_at : Sealing → Disk → List ℕ → List ℕ → Option Kind
seen_at s d h t = cond (s.is_text t) (either_kind (entry_at s d h t) (short_at d h t) (long_at d h (s.long_of t) t)) None

abbrev pub folders_of : Sealing → Disk → Folders
folders_of s d = record {
  present = λ h. is_folder (get d (host_folder h));
  seen = λ h t. seen_at s d h t;
}

-- the entry of a node
abbrev pub entry_where : Option Thing → List ℕ → List ℕ → List ℕ
entry_where None short long = long
entry_where (Some x) short long = short

abbrev pub entry_of : Sealing → Disk → List ℕ → List ℕ → List ℕ
entry_of s d h t = entry_where (entry_at s d h t) t (s.long_of t)
