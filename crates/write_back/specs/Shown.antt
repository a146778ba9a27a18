-- What reads show of what waits.
use Rattle.std.specs.Prelude.{◌≡◌, ℕ, List, length, Option, None, Some}
use Rattle.outside.specs.Disk.{Disk, Path, file, node_at, IsTree}
use Rattle.outside.specs.declared.folder.Kind.{Kind}
use Rattle.outside.specs.declared.folder.Kind.TheVariants.{Dir, File}
use Rattle.deeds.specs.Deeds.{PlainDeed}
use Rattle.pending_files.specs.Laid.{laid}

-- a kind in which a file has this length
abbrev pub kind_of_len : ℕ → Option Kind → Option Kind
kind_of_len len None = None
kind_of_len len (Some Dir) = Some Dir
kind_of_len len (Some (File was)) = Some (File len)

-- the length that waits, if one does
abbrev pub kind_with : Option ℕ → Option Kind → Option Kind
kind_with None kind = kind
kind_with (Some len) kind = kind_of_len len kind

-- a tree, and a file of this length, once what waits is laid over it
pub record HasFile (waiting : List PlainDeed) (path : Path) (len : ℕ) (disk : Disk) : Type 0 where
  pub tree : IsTree disk
  pub bytes : List ℕ
  pub here : node_at (laid waiting disk) path ≡ Some (file bytes)
  pub long : length bytes ≡ len
