-- What a run that was killed left off the disk, once it is flushed at its loose paths.
use Rattle.std.specs.Prelude.{◌≡◌}
use Rattle.outside.specs.Disk.{Disk, Path, node_at}
use Rattle.outside.specs.Images.{Log, now, IsImage}
use Rattle.chunk_journal.specs.Journal.{IsLoose}

-- a disk that a stop may leave is what reads give, but at loose paths
abbrev pub IsFirm : Log → Type 0
IsFirm log = (image : Disk) → IsImage log image → (path : Path) → (IsLoose (now log) path → ⊥) → node_at image path ≡ node_at (now log) path

-- and is that wholly, if it is so at each loose path
abbrev pub IsFlushedWhole : Log → Type 0
IsFlushedWhole log = (image : Disk) → IsImage log image → ((path : Path) → IsLoose (now log) path → node_at image path ≡ node_at (now log) path) → image ≡ now log
