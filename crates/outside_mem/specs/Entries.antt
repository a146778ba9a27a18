-- The disk that a map's entries stand for.
use Rattle.std.specs.Prelude.{List, [], ◌∷◌}
use Rattle.std.specs.FinMap as map
use Rattle.outside.specs.Disk.{Disk, Path, Node, folder, file}
use Rattle.outside_mem.specs.declared.disk.Held.{Held}
use Rattle.outside_mem.specs.declared.disk.Held.TheVariants.{Folder, File}

abbrev pub node_of : Held → Node
node_of Folder = folder
node_of (File bytes) = file bytes.items

abbrev pub disk_of : List (Path × Held) → Disk
disk_of [] = map.empty
disk_of (entry ∷ entries) = map.insert (disk_of entries) entry.0 (node_of entry.1)
