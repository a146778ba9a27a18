-- The bytes of a batch, as the journal holds them. Numbers are most significant byte first.
use Rattle.std.specs.Prelude.{◌≡◌, ◌≢◌, ◌⊎◌, ℕ, ◌+◌, ◌<◌, ◌^◌, List, [], ◌∷◌, ◌++◌, length, take, drop, ⊤, Bool, true, ◌&&◌, nat_le, IsTrue}
use Rattle.std.specs.List.{AllByRecursion}
use Rattle.std.specs.Int.{to_be_bytes, from_be_bytes, w32, w64}
use Rattle.vault_path.specs.Parts.{is_path}
use Rattle.outside.specs.Disk.{Path}
use Rattle.deeds.specs.Reshape.{Ranges}
use Rattle.deeds.specs.declared.fault.BatchErr.{BatchErr}
use Rattle.deeds.specs.declared.fault.BatchErr.TheVariants.{Bad, Memory}
use Rattle.deeds.specs.Deeds.{PlainDeed, MakesDir, Puts, Renames, Removes, RemovesDir, Reshapes}

-- one after the other
abbrev pub spelled_all : {A : Type 0} → (A → List ℕ) → List A → List ℕ
spelled_all spell [] = []
spelled_all spell (x ∷ xs) = spell x ++ spelled_all spell xs

-- length[1], and that many bytes
abbrev pub spelled_part : List ℕ → List ℕ
spelled_part part = length part ∷ part

-- the number of parts[1], and each
abbrev pub spelled_path : Path → List ℕ
spelled_path path = length path ∷ spelled_all spelled_part path

-- length[4], and that many bytes
abbrev pub spelled_bytes : List ℕ → List ℕ
spelled_bytes bytes = to_be_bytes w32 (length bytes) ++ bytes

-- offset[8], length[4], and that many bytes
abbrev pub spelled_range : ℕ × List ℕ → List ℕ
spelled_range range = to_be_bytes w64 range.0 ++ spelled_bytes range.1

-- kind[1], and its fields
abbrev pub spelled_deed : PlainDeed → List ℕ
spelled_deed (MakesDir path) = 1 ∷ spelled_path path
spelled_deed (Puts path bytes) = 2 ∷ (spelled_path path ++ spelled_bytes bytes)
spelled_deed (Renames from to) = 3 ∷ (spelled_path from ++ spelled_path to)
spelled_deed (Removes path) = 4 ∷ spelled_path path
spelled_deed (RemovesDir path) = 5 ∷ spelled_path path
spelled_deed (Reshapes path len ranges) =
    6 ∷ (spelled_path path ++ (to_be_bytes w64 len ++ (to_be_bytes w32 (length ranges) ++ spelled_all spelled_range ranges)))

abbrev pub spelled_deeds : List PlainDeed → List ℕ
spelled_deeds deeds = spelled_all spelled_deed deeds

-- count[4], and the deeds
abbrev pub spelled : List PlainDeed → List ℕ
spelled deeds = to_be_bytes w32 (length deeds) ++ spelled_deeds deeds

-- what follows the journal's gate: length[8], and the batch
abbrev pub behind_gate : List PlainDeed → List ℕ
behind_gate deeds = to_be_bytes w64 (length (spelled deeds)) ++ spelled deeds

-- ---- what has such bytes

-- a path below the folder itself
pub record IsNamed (path : Path) : Type 0 where
  pub good : IsTrue (is_path path)
  pub below : path ≢ []

-- each range begins at the end of the one before it or later, and ends within the length
abbrev pub rise_within : ℕ → ℕ → Ranges → Bool
rise_within from len [] = true
rise_within from len (range ∷ ranges) =
    nat_le from range.0 && (nat_le (range.0 + length range.1) len && rise_within (range.0 + length range.1) len ranges)

pub record FitsRange (range : ℕ × List ℕ) : Type 0 where
  pub at : range.0 < 2 ^ 64
  pub short : length range.1 < 2 ^ 32

pub record IsReshape (path : Path) (len : ℕ) (ranges : Ranges) : Type 0 where
  pub named : IsNamed path
  pub fits : len < 2 ^ 64
  pub few : length ranges < 2 ^ 32
  pub short : AllByRecursion FitsRange ranges
  pub rise : IsTrue (rise_within 0 len ranges)

abbrev pub IsDeed : PlainDeed → Type 0
IsDeed (MakesDir path) = IsNamed path
IsDeed (Puts path bytes) = IsNamed path × (length bytes < 2 ^ 32)
IsDeed (Renames from to) = IsNamed from × IsNamed to
IsDeed (Removes path) = IsNamed path
IsDeed (RemovesDir path) = IsNamed path
IsDeed (Reshapes path len ranges) = IsReshape path len ranges

-- deeds whose counts and lengths fit their fields, and which with their length and the gate still have a file's length
pub record IsBatch (deeds : List PlainDeed) : Type 0 where
  pub few : length deeds < 2 ^ 32
  pub each : AllByRecursion IsDeed deeds
  pub short : length (spelled deeds) + 9 < 2 ^ 64

-- ---- where bytes leave the grammar

-- after good deeds, fewer than the count, no deed begins at this place of the batch
pub record IsBadDeed (count : ℕ) (deeds : List ℕ) (at : ℕ) : Type 0 where
  pub front : List PlainDeed
  pub rest : List ℕ
  pub good : AllByRecursion IsDeed front
  pub fewer : length front < count
  pub parts : deeds ≡ spelled_deeds front ++ rest
  pub place : at ≡ 4 + length (spelled_deeds front)
  pub bad : (deed : PlainDeed) (tail : List ℕ) → IsDeed deed → rest ≡ spelled_deed deed ++ tail → ⊥

-- after as many good deeds as the count says, bytes are left at this place of the batch
pub record IsLeftOver (count : ℕ) (deeds : List ℕ) (at : ℕ) : Type 0 where
  pub front : List PlainDeed
  pub rest : List ℕ
  pub good : AllByRecursion IsDeed front
  pub all : length front ≡ count
  pub parts : deeds ≡ spelled_deeds front ++ rest
  pub place : at ≡ 4 + length (spelled_deeds front)
  pub left : 0 < length rest

abbrev pub count_of : List ℕ → ℕ
count_of bytes = from_be_bytes w32 (take 4 bytes)

-- the first place outside of the grammar: 0 if the count doesn't fit, that of the first deed that is none, or that of the
-- first byte after the last deed
abbrev pub IsBadAt : List ℕ → ℕ → Type 0
IsBadAt bytes at =
    ((length bytes < 4) × (at ≡ 0))
    ⊎ (IsBadDeed (count_of bytes) (drop 4 bytes) at ⊎ IsLeftOver (count_of bytes) (drop 4 bytes) at)

-- P of the place where the bytes leave the grammar
abbrev pub IfBad : BatchErr → (ℕ → Type 0) → Type 0
IfBad (Bad at) P = P at
IfBad Memory P = ⊤
