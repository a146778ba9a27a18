-- The fids in use as a list that rises.
use Rattle.std.specs.Prelude.{◌≡◌, ℕ, ◌<◌, ◌≤◌, List, length, false, None, slice_index_or}
use Rattle.session_core.specs.State.{Fid}

-- a fid's number, and what it is
abbrev pub Entries : Type 0
Entries = List (ℕ × Fid)

abbrev pub nothing : ℕ × Fid
nothing = (0, record { node = 0; is_dir = false; opened = None })

-- the fid at an index
abbrev pub fid_at : Entries → ℕ → ℕ
fid_at l i = let entry = slice_index_or l i nothing in entry.0

-- the fids rise, so none occurs twice
abbrev pub IsStrictlySorted : Entries → Type 0
IsStrictlySorted l = (i j : ℕ) → i < j → j < length l → fid_at l i < fid_at l j

-- the entry at an index is the fid's
pub record IsAt (l : Entries) (fid i : ℕ) : Type 0 where
  pub in_range : i < length l
  pub is : fid_at l i ≡ fid

-- the fid would go at an index: smaller ones before it, and greater ones from it on
pub record IsGapFor (l : Entries) (fid i : ℕ) : Type 0 where
  pub in_range : i ≤ length l
  pub smaller_before : (j : ℕ) → j < i → fid_at l j < fid
  pub greater_after : (j : ℕ) → i ≤ j → j < length l → fid < fid_at l j
