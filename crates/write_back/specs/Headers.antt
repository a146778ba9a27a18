-- The headers of files for which changes wait, and what a flush looks for before it commits.
use Rattle.std.specs.Prelude.{◌≡◌, ⊤, ℕ, ◌+◌, ◌≤◌, max, List, [], ◌∷◌, length, take, Option, Some, None, IfSome, if◌then◌else◌}
use Rattle.std.specs.List.{AllByRecursion}
use Rattle.std.specs.Cmp.Lexicographic.{pointwise}
use Rattle.std.specs.Str.{bytes_eq}
use Rattle.outside.specs.Disk.{Disk, Path, file, node_at}
use Rattle.deeds.specs.Reshape.{Ranges}
use Rattle.deeds.specs.Deeds.{PlainDeed, MakesDir, Puts, Renames, Removes, RemovesDir, Reshapes, CanDeed}
use Rattle.file_chunks.specs.Sizes.{header_length}
use Rattle.write_back.specs.declared.headers.Kept.{Kept}

abbrev pub plain_headers : List Kept → List (Path × List ℕ)
plain_headers [] = []
plain_headers (kept ∷ more) = (kept.path, kept.header) ∷ plain_headers more

-- the first that is kept of a path
abbrev pub header_of : Path → List (Path × List ℕ) → Option (List ℕ)
header_of path [] = None
header_of path (kept ∷ more) = if pointwise bytes_eq kept.0 path then Some kept.1 else header_of path more

-- the file at a path, if one is there, begins with these bytes
abbrev pub BeginsWith : List ℕ → Path → Disk → Type 0
BeginsWith header path disk = (bytes : List ℕ) → node_at disk path ≡ Some (file bytes) → take header_length bytes ≡ header

-- each kept header is that of the file at its path
abbrev pub AreHeaders : List (Path × List ℕ) → Disk → Type 0
AreHeaders headers disk = AllByRecursion (λ kept. BeginsWith kept.1 kept.0 disk) headers

-- a file of `held` bytes can be written in these ranges, each of which begins within it and ends within `len`, and then cut to `len`
abbrev pub CanHold : ℕ → ℕ → Ranges → Type 0
CanHold len held [] = len ≤ held
CanHold len held (range ∷ ranges) = (range.0 ≤ held) × (range.0 + length range.1 ≤ len) × CanHold len (max held (range.0 + length range.1)) ranges

-- the reshaping of a file can be done, and the file begins with the header that is known of it, if one is
abbrev pub Fits : PlainDeed → Option (List ℕ) → Disk → Type 0
Fits (Reshapes path len ranges) header disk = CanDeed (Reshapes path len ranges) disk × IfSome header (λ bytes. BeginsWith bytes path disk)
Fits (MakesDir path) header disk = ⊤
Fits (Puts path bytes) header disk = ⊤
Fits (Renames from to) header disk = ⊤
Fits (Removes path) header disk = ⊤
Fits (RemovesDir path) header disk = ⊤
