-- Files whose changes wait: what reads of them show, and what they are once all is done.
use Rattle.std.specs.Prelude.{◌≡◌, ◌≢◌, ◌⊎◌, ℕ, ◌+◌, ◌≤◌, ◌<◌, List, length, get_or, Some}
use Rattle.outside.specs.Disk.{Disk, Path, file, node_at}
use Rattle.deeds.specs.Reshape.{Ranges, written, CanWrite}
use Rattle.deeds.specs.Deeds.{reshaped}
use Rattle.pending_files.specs.Pending.{sealed_length}

-- a window that begins at this offset of a file shows its bytes, as far as there are any
abbrev pub Shows : ℕ → List ℕ → List ℕ → Type 0
Shows at bytes window = (i : ℕ) → i < length window → at + i < length bytes → get_or window i 0 ≡ get_or bytes (at + i) 0

-- a file of the disk can be written in these ranges, and then cut to the length
pub record CanReshape (path : Path) (len : ℕ) (ranges : Ranges) (disk : Disk) : Type 0 where
  pub was : List ℕ
  pub there : node_at disk path ≡ Some (file was)
  pub can : CanWrite ranges was
  pub long : len ≤ length (written ranges was)

-- and it was
pub record IsReshaped (path : Path) (len : ℕ) (ranges : Ranges) (old new : Disk) : Type 0 where
  pub was : List ℕ
  pub there : node_at old path ≡ Some (file was)
  pub can : CanWrite ranges was
  pub long : len ≤ length (written ranges was)
  pub is : node_at new path ≡ Some (file (reshaped len ranges was))

-- the file has these bytes, and all else is as it was
pub record IsChangedTo (path : Path) (bytes : List ℕ) (old new : Disk) : Type 0 where
  pub here : node_at new path ≡ Some (file bytes)
  pub others : (q : Path) → q ≢ path → node_at new q ≡ node_at old q

-- a sealed chunk is full, or the last of its file
abbrev pub IsWhole : ℕ → ℕ → List ℕ → Type 0
IsWhole len at sealed = (length sealed ≡ sealed_length) ⊎ (at + length sealed ≡ len)
