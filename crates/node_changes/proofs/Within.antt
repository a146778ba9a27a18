-- The deeds of a change name the vault's data alone.
use Rattle.std.proofs.Common.{ℕ, Bool, true, false, List, [], ◌∷◌, ◌++◌, refl}
use Rattle.outside.specs.Disk.{Path as HostPath}
use Rattle.deeds.specs.Deeds.{PlainDeed}
use Rattle.clear_tree.specs.Places.{text_d, text_contents, text_dir, text_symlink}
use Rattle.clear_tree.specs.Kept.{What, KeptFile, KeptLink, KeptDir, KeptBad}
use Rattle.tree_deed_laws.specs.Deeds.{Place, make_node, clear_node, create_file_at, create_file_deeds, create_dir_deeds, remove_node_at, remove_file_at, remove_dir_at, remove_deeds, rename_node_at, rename_file_at, rename_deeds}
use Rattle.node_changes.specs.Within.{IsWithin, AreWithin}

-- such a path is one
pub in_data : {rest : HostPath} → IsWithin (text_d ∷ rest)
in_data {rest = rest} = (rest, refl)

pub within_both : (xs ys : List PlainDeed) → AreWithin xs → AreWithin ys → AreWithin (xs ++ ys)
within_both [] ys all more = more
within_both (x ∷ xs) ys all more = (all.0, within_both xs ys all.1 more)

module _ (F E : List ℕ) where
  made : (b : Bool) (text : List ℕ) → AreWithin (make_node b F E text)
  made false text = ((in_data, tt), tt)
  made true text = ((in_data, tt), ((in_data, tt), tt))

  cleared : (b : Bool) → AreWithin (clear_node b F E)
  cleared false = ((in_data, tt), tt)
  cleared true = ((in_data, tt), ((in_data, tt), tt))

  created : (b : Bool) (text header : List ℕ) → AreWithin (create_file_at b F E text header)
  created false text header = ((in_data, tt), tt)
  created true text header = ((in_data, tt), ((in_data, tt), ((in_data, tt), tt)))

  removed : (b : Bool) (known : List ℕ) → AreWithin (remove_node_at b F E known)
  removed b known = ((in_data, tt), cleared b)

  removed_file : (b : Bool) → AreWithin (remove_file_at b F E)
  removed_file false = ((in_data, tt), tt)
  removed_file true = removed true text_contents

  removed_dir : (b : Bool) (own : List ℕ) → AreWithin (remove_dir_at b F E own)
  removed_dir b own = ((in_data, tt), within_both (clear_node b F E) _ (cleared b) ((in_data, tt), ((in_data, tt), tt)))

  module _ (E' text : List ℕ) where
    renamed : (b b' : Bool) (known : List ℕ) → AreWithin (rename_node_at b b' F E E' text known)
    renamed b false known = ((in_data, tt), ((in_data, (in_data, tt)), cleared b))
    renamed b true known = ((in_data, tt), ((in_data, tt), ((in_data, (in_data, tt)), cleared b)))

    renamed_file : (b b' : Bool) → AreWithin (rename_file_at b b' F E E' text)
    renamed_file false false = ((in_data, (in_data, tt)), tt)
    renamed_file false true = ((in_data, tt), ((in_data, tt), ((in_data, (in_data, tt)), tt)))
    renamed_file true false = ((in_data, (in_data, tt)), cleared true)
    renamed_file true true = renamed true true text_contents

pub creation_within : (place : Place) (text header : List ℕ) → AreWithin (create_file_deeds place text header)
creation_within place text header = created place.folder place.entry place.long text header

pub directory_within : (place : Place) (text own identifier : List ℕ) → AreWithin (create_dir_deeds place text own identifier)
directory_within place text own identifier =
    ((in_data, tt), ((in_data, tt), within_both (make_node place.long place.folder place.entry text) _ (made place.folder place.entry place.long text) ((in_data, tt), tt)))

pub removal_within : (place : Place) (what : What) → AreWithin (remove_deeds place what)
removal_within place (KeptFile size) = removed_file place.folder place.entry place.long
removal_within place (KeptLink size) = removed place.folder place.entry place.long text_symlink
removal_within place (KeptDir identifier own) = removed_dir place.folder place.entry place.long own
removal_within place (KeptBad text) = tt

pub renaming_within : (old new : Place) (text : List ℕ) (what : What) → AreWithin (rename_deeds old new text what)
renaming_within old new text (KeptFile size) = renamed_file old.folder old.entry new.entry text old.long new.long
renaming_within old new text (KeptLink size) = renamed old.folder old.entry new.entry text old.long new.long text_symlink
renaming_within old new text (KeptDir identifier own) = renamed old.folder old.entry new.entry text old.long new.long text_dir
renaming_within old new text (KeptBad text') = tt
