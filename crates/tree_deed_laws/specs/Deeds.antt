-- The deeds of each change, by where a node is or is to be: deeds move files only, and what is made in a node folder is made before it is
-- filled (Cryptomator's vault format 8).
use Rattle.std.specs.Prelude.{ℕ, Bool, true, false, List, [], ◌∷◌, ◌++◌}
use Rattle.deeds.specs.Deeds.{PlainDeed, MakesDir, Puts, Renames, Removes, RemovesDir}
use Rattle.clear_tree.specs.Walk.{Sealing}
use Rattle.clear_tree.specs.Places.{host_two, host_folder, host_entry, host_inner, text_dir, text_dirid, text_symlink, text_contents, text_name}
use Rattle.clear_tree.specs.Kept.{What, KeptFile, KeptLink, KeptDir, KeptBad}

-- a place of a node: the 32 characters of its directory's folder, its entry there, and whether that is the long place
pub record Place : Type 0 where
  pub folder : List ℕ
  pub entry : List ℕ
  pub long : Bool

-- the entry of a text at its short place (false) or its long one
abbrev pub entry_text : Sealing → Bool → List ℕ → List ℕ
entry_text s false text = text
entry_text s true text = s.long_of text

-- the short or the long place of a name in the directory of an identifier
abbrev pub place_of : Sealing → List ℕ → List ℕ → Bool → Place
place_of s i n long = record { folder = s.folder_of i; entry = entry_text s long (s.seal i n); long = long }

abbrev pub entry_path : Place → List (List ℕ)
entry_path place = host_entry place.folder place.entry

-- a file of a node folder
abbrev pub inner_path : Place → List ℕ → List (List ℕ)
inner_path place known = host_inner place.folder place.entry known

-- a node folder made, with its `name.c9s` at a long place
abbrev pub make_node : Bool → List ℕ → List ℕ → List ℕ → List PlainDeed
make_node false folder entry text = MakesDir (host_entry folder entry) ∷ []
make_node true folder entry text = MakesDir (host_entry folder entry) ∷ Puts (host_inner folder entry text_name) text ∷ []

-- and removed
abbrev pub clear_node : Bool → List ℕ → List ℕ → List PlainDeed
clear_node false folder entry = RemovesDir (host_entry folder entry) ∷ []
clear_node true folder entry = Removes (host_inner folder entry text_name) ∷ RemovesDir (host_entry folder entry) ∷ []

-- ---- by whether a node is at its long place, and whether its new name will be

abbrev pub create_file_at : Bool → List ℕ → List ℕ → List ℕ → List ℕ → List PlainDeed
create_file_at false folder entry text header = Puts (host_entry folder entry) header ∷ []
create_file_at true folder entry text header = make_node true folder entry text ++ Puts (host_inner folder entry text_contents) header ∷ []

-- the known file goes before its node folder
abbrev pub remove_node_at : Bool → List ℕ → List ℕ → List ℕ → List PlainDeed
remove_node_at long folder entry known = Removes (host_inner folder entry known) ∷ clear_node long folder entry

abbrev pub remove_file_at : Bool → List ℕ → List ℕ → List PlainDeed
remove_file_at false folder entry = Removes (host_entry folder entry) ∷ []
remove_file_at true folder entry = remove_node_at true folder entry text_contents

-- own: the directory's own folder
abbrev pub remove_dir_at : Bool → List ℕ → List ℕ → List ℕ → List PlainDeed
remove_dir_at long folder entry own =
    Removes (host_inner folder entry text_dir) ∷ (clear_node long folder entry ++ Removes (host_entry own text_dirid) ∷ RemovesDir (host_folder own) ∷ [])

abbrev pub rename_node_at : Bool → Bool → List ℕ → List ℕ → List ℕ → List ℕ → List ℕ → List PlainDeed
rename_node_at long long' folder entry entry' text known =
    make_node long' folder entry' text ++ Renames (host_inner folder entry known) (host_inner folder entry' known) ∷ clear_node long folder entry

abbrev pub rename_file_at : Bool → Bool → List ℕ → List ℕ → List ℕ → List ℕ → List PlainDeed
rename_file_at false false folder entry entry' text = Renames (host_entry folder entry) (host_entry folder entry') ∷ []
rename_file_at false true folder entry entry' text =
    make_node true folder entry' text ++ Renames (host_entry folder entry) (host_inner folder entry' text_contents) ∷ []
rename_file_at true false folder entry entry' text =
    Renames (host_inner folder entry text_contents) (host_entry folder entry') ∷ clear_node true folder entry
rename_file_at true true folder entry entry' text = rename_node_at true true folder entry entry' text text_contents

-- ---- the changes. `text` is the text of the name, which a long place keeps in `name.c9s`

-- a file without chunks: its header
abbrev pub create_file_deeds : Place → List ℕ → List ℕ → List PlainDeed
create_file_deeds place text header = create_file_at place.long place.folder place.entry text header

-- a directory, with a folder of its own for this identifier
abbrev pub create_dir_deeds : Place → List ℕ → List ℕ → List ℕ → List PlainDeed
create_dir_deeds place text own identifier =
    MakesDir (host_two own)
    ∷ MakesDir (host_folder own)
    ∷ (make_node place.long place.folder place.entry text ++ Puts (inner_path place text_dir) identifier ∷ [])

-- of a node, by what is kept of it. A Bad node is never removed
abbrev pub remove_deeds : Place → What → List PlainDeed
remove_deeds place (KeptFile size) = remove_file_at place.long place.folder place.entry
remove_deeds place (KeptLink size) = remove_node_at place.long place.folder place.entry text_symlink
remove_deeds place (KeptDir identifier own) = remove_dir_at place.long place.folder place.entry own
remove_deeds place (KeptBad text) = []

-- from one place to another of the same directory. A directory's own folder stays where it is; a Bad node is never renamed
abbrev pub rename_deeds : Place → Place → List ℕ → What → List PlainDeed
rename_deeds old new text (KeptFile size) = rename_file_at old.long new.long old.folder old.entry new.entry text
rename_deeds old new text (KeptLink size) = rename_node_at old.long new.long old.folder old.entry new.entry text text_symlink
rename_deeds old new text (KeptDir identifier own) = rename_node_at old.long new.long old.folder old.entry new.entry text text_dir
rename_deeds old new text (KeptBad text') = []
