-- A journal that is put aside under another name.
use Rattle.std.specs.Prelude.{◌≡◌, ◌≢◌, ℕ, ◌+◌, ◌<◌, ◌/◌, ◌%◌, List, [], ◌∷◌, ◌++◌, nat_lt, if◌then◌else◌, None}
use Rattle.outside.specs.Disk.{Disk, Path, node_at}
use Rattle.outside.specs.Changes.{Move, CanDo, done}
use Rattle.outside.specs.Images.{Log, now}
use Rattle.outside.specs.Unsynced.{IsSynced}
use Rattle.chunk_journal.specs.Journal.{journal_name, journal_file}

-- a number below 100 in decimal digits
abbrev pub digits : ℕ → List ℕ
digits n = if nat_lt n 10 then (48 + n) ∷ [] else (48 + n / 10) ∷ (48 + n % 10) ∷ []

-- the journal's name, a dot, and a number
abbrev pub kept_name : ℕ → List ℕ
kept_name n = journal_name ++ 46 ∷ digits n

abbrev pub kept_file : ℕ → Path
kept_file n = kept_name n ∷ []

-- nothing is there, and something is at each number before
pub record IsFirstFree (n : ℕ) (disk : Disk) : Type 0 where
  pub free : node_at disk (kept_file n) ≡ None
  pub first : (m : ℕ) → 0 < m → m < n → node_at disk (kept_file m) ≢ None

-- the journal's file has the first such name that was free; nothing else is changed, and all is on the disk
pub record HasDiscarded (n : ℕ) (disk : Disk) (new : Log) : Type 0 where
  pub can : CanDo (Move journal_file (kept_file n)) disk
  pub is : now new ≡ done (Move journal_file (kept_file n)) disk
  pub steady : IsSynced new
  pub name : IsFirstFree n disk
