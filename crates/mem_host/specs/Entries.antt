-- The names that a map's entries stand for.
use Rattle.std.specs.Prelude.{◌↔◌, ℕ, List, [], ◌∷◌, ◌++◌, IsSome, Contains}
use Rattle.std.specs.List.{IsDistinct}
use Rattle.std.specs.Str.{bytes_eq}
use Rattle.std.specs.FinMap as map
use Rattle.outside.specs.Disk.{Path}
use Rattle.host_calls.specs.Volume.{Names, Entry, Folder, File, entry_at}
use Rattle.mem_host.specs.declared.names.MemEntry.{MemEntry}
use Rattle.mem_host.specs.declared.names.MemEntry.TheVariants as kept

abbrev pub entry_of : MemEntry → Entry
entry_of kept.Folder = Folder
entry_of (kept.File inode) = File inode

abbrev pub names_of : List (Path × MemEntry) → Names
names_of [] = map.empty
names_of (entry ∷ entries) = map.insert (names_of entries) entry.0 (entry_of entry.1)

-- the folder itself alone
abbrev pub bare : Names
bare = map.insert map.empty [] Folder

-- the names in a folder, each once, in some order
pub record AreNamesIn (names : Names) (folder : Path) (found : List (List ℕ)) : Type 0 where
  pub distinct : IsDistinct bytes_eq found
  pub exact : (name : List ℕ) → Contains found name ↔ IsSome (entry_at names (folder ++ name ∷ []))
