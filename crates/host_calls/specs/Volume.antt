-- What a host's volume holds of a vault's folder: names in folders, by path from the vault's folder on, and files by inode.
use Rattle.std.specs.Prelude.{◌≡◌, ℕ, List, [], Option, Some, None, map as each_of, unwrap_or}
use Rattle.std.specs.Ordering.{nat_cmp, ordering_then}
use Rattle.std.specs.declared.cmp.Ordering.{Ordering}
use Rattle.std.specs.FinMap as map
use Rattle.outside.specs.Disk.{Disk, Path, Node, folder, file, path_cmp}
use Rattle.host_calls.specs.declared.found.Inode.{Inode}

-- by device, and then by number
abbrev pub inode_cmp : Inode → Inode → Ordering
inode_cmp a b = ordering_then (nat_cmp a.dev b.dev) (nat_cmp a.ino b.ino)

-- what a name is of: a folder, or a file
pub data Entry : Type 0 where
  Folder : Entry
  File : Inode → Entry

abbrev pub Names : Type 0
Names = map.FinMap path_cmp Entry

abbrev pub Contents : Type 0
Contents = map.FinMap inode_cmp (List ℕ)

pub record Volume : Type 0 where
  pub names : Names
  pub contents : Contents

abbrev pub entry_at : Names → Path → Option Entry
entry_at names path = map.get names path

-- the bytes of a file
abbrev pub bytes_in : Contents → Inode → List ℕ
bytes_in contents inode = unwrap_or (map.get contents inode) []

abbrev pub node_of : Contents → Entry → Node
node_of contents Folder = folder
node_of contents (File inode) = file (bytes_in contents inode)

-- the same keys with f of each value
unfoldable pub each_value : {K X Y : Type 0} {R : K → K → Ordering} → (X → Y) → map.FinMap R X → map.FinMap R Y
each_value f m = map.from_entries (each_of (λ e. (e.0, f e.1)) (map.entries m))

-- what a volume holds, by path alone
unfoldable pub disk_of : Volume → Disk
disk_of volume = each_value (node_of volume.contents) volume.names
