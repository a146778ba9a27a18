-- How a file's bytes change, and which bytes a power cut leaves.
--
-- Bytes are on the disk once the file was flushed since. Until then a power cut leaves each step whole, in part or not at all, in
-- their order.
use Rattle.std.specs.Prelude.{◌≡◌, ◌⊎◌, ℕ, ◌≤◌, List, [], ◌∷◌, length, take}
use Rattle.outside.specs.Changes.{overwritten, IsTorn, IsCut}

-- bytes written over a file's own from a place on, or all from a place on cut
pub data FileStep : Type 0 where
  Wrote : ℕ → List ℕ → FileStep
  Cut : ℕ → FileStep

-- a file: its bytes at its last flush, and the steps since, the newest first
pub record Filed : Type 0 where
  pub lasting : List ℕ
  pub steps : List FileStep

abbrev pub bytes_by : FileStep → List ℕ → List ℕ
bytes_by (Wrote at bytes) old = overwritten old at bytes
bytes_by (Cut n) old = take n old

-- by reads
abbrev pub bytes_after : List ℕ → List FileStep → List ℕ
bytes_after lasting [] = lasting
bytes_after lasting (last ∷ older) = bytes_by last (bytes_after lasting older)

-- a step that was taken in part or whole
abbrev pub IsLeftBy : FileStep → List ℕ → List ℕ → Type 0
IsLeftBy (Wrote at bytes) old new = IsTorn at (length bytes) old new
IsLeftBy (Cut n) old new = IsCut n old new

-- after a power cut
abbrev pub MayHold : List ℕ → List FileStep → List ℕ → Type 0
MayHold lasting [] held = held ≡ lasting
MayHold lasting (last ∷ older) held = (before : List ℕ) × MayHold lasting older before × ((held ≡ before) ⊎ IsLeftBy last before held)

-- a step is within the bytes that it changes
abbrev pub IsWithin : FileStep → List ℕ → Type 0
IsWithin (Wrote at bytes) old = at ≤ length old
IsWithin (Cut n) old = n ≤ length old

abbrev pub AreWithin : List ℕ → List FileStep → Type 0
AreWithin lasting [] = Unit {0}
AreWithin lasting (last ∷ older) = AreWithin lasting older × IsWithin last (bytes_after lasting older)
