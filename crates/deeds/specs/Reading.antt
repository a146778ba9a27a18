-- Reading the fields of a deed from left to right: the value and the bytes after it, or none if they aren't in the grammar.
use Rattle.std.specs.Prelude.{◌≡◌, ℕ, zero, suc, List, [], ◌∷◌, length, take, drop, Option, Some, None, Result, Ok, Err, ◌&&◌, nat_lt, nat_le, ◌==◌, if◌then◌else◌}
use Rattle.std.specs.Int.{Width, w32, w64, byte_len, from_be_bytes}
use Rattle.vault_path.specs.Parts.{is_part}
use Rattle.outside.specs.Disk.{Path}
use Rattle.deeds.specs.Reshape.{Ranges}
use Rattle.deeds.specs.Deeds.{PlainDeed, MakesDir, Puts, Renames, Removes, RemovesDir, Reshapes}
use Rattle.deeds.specs.Grammar.{rise_within}
use Rattle.deeds.specs.declared.reading.ReadErr.{ReadErr}
use Rattle.deeds.specs.declared.reading.ReadErr.TheVariants as errors

infixl 10 ◌>>=◌
abbrev pub ◌>>=◌ : {A B : Type 0} → Option A → (A → Option B) → Option B
(Some x) >>= f = f x
None >>= f = None

-- what a reader answered, seen by view, is what reading gives, unless memory ran out
abbrev pub Fails : {Y : Type 0} → ReadErr → Option Y → Type 0
Fails errors.Memory read = Unit {0}
Fails errors.Bad read = read ≡ None

abbrev pub Gives : {X Y : Type 0} → (X → Y) → Result X ReadErr → Option Y → Type 0
Gives view (Ok x) read = read ≡ Some (view x)
Gives view (Err e) read = Fails e read

abbrev pub byte_at : List ℕ → Option (ℕ × List ℕ)
byte_at [] = None
byte_at (b ∷ rest) = Some (b, rest)

abbrev pub number_at : Width → List ℕ → Option (ℕ × List ℕ)
number_at w bytes = if nat_lt (length bytes) (byte_len w) then None else Some (from_be_bytes w (take (byte_len w) bytes), drop (byte_len w) bytes)

abbrev pub bytes_at : ℕ → List ℕ → Option (List ℕ × List ℕ)
bytes_at n bytes = if nat_lt (length bytes) n then None else Some (take n bytes, drop n bytes)

-- as many as the count says, one after the other
abbrev pub items_at : {A : Type 0} → (List ℕ → Option (A × List ℕ)) → ℕ → List ℕ → Option (List A × List ℕ)
items_at item zero bytes = Some ([], bytes)
items_at item (suc n) bytes = item bytes >>= λ first. items_at item n first.1 >>= λ others. Some (first.0 ∷ others.0, others.1)

unfoldable pub short_at : List ℕ → Option (List ℕ × List ℕ)
short_at bytes = byte_at bytes >>= λ n. bytes_at n.0 n.1

unfoldable pub part_at : List ℕ → Option (List ℕ × List ℕ)
part_at bytes = short_at bytes >>= λ part. if is_part part.0 then Some part else None

unfoldable pub path_at : List ℕ → Option (Path × List ℕ)
path_at bytes = byte_at bytes >>= λ n. if nat_le 1 n.0 && nat_le n.0 6 then items_at part_at n.0 n.1 else None

unfoldable pub string_at : List ℕ → Option (List ℕ × List ℕ)
string_at bytes = number_at w32 bytes >>= λ n. bytes_at n.0 n.1

unfoldable pub range_at : List ℕ → Option ((ℕ × List ℕ) × List ℕ)
range_at bytes = number_at w64 bytes >>= λ at. string_at at.1 >>= λ text. Some ((at.0, text.0), text.1)

unfoldable pub ranges_at : List ℕ → Option (Ranges × List ℕ)
ranges_at bytes = number_at w32 bytes >>= λ n. items_at range_at n.0 n.1

unfoldable pub make_dir_at : List ℕ → Option (PlainDeed × List ℕ)
make_dir_at bytes = path_at bytes >>= λ path. Some (MakesDir path.0, path.1)

unfoldable pub put_at : List ℕ → Option (PlainDeed × List ℕ)
put_at bytes = path_at bytes >>= λ path. string_at path.1 >>= λ text. Some (Puts path.0 text.0, text.1)

unfoldable pub rename_at : List ℕ → Option (PlainDeed × List ℕ)
rename_at bytes = path_at bytes >>= λ from. path_at from.1 >>= λ to. Some (Renames from.0 to.0, to.1)

unfoldable pub remove_at : List ℕ → Option (PlainDeed × List ℕ)
remove_at bytes = path_at bytes >>= λ path. Some (Removes path.0, path.1)

unfoldable pub remove_dir_at : List ℕ → Option (PlainDeed × List ℕ)
remove_dir_at bytes = path_at bytes >>= λ path. Some (RemovesDir path.0, path.1)

unfoldable pub reshape_at : List ℕ → Option (PlainDeed × List ℕ)
reshape_at bytes =
    path_at bytes >>= λ path. number_at w64 path.1 >>= λ len. ranges_at len.1
    >>= λ ranges. if rise_within 0 len.0 ranges.0 then Some (Reshapes path.0 len.0 ranges.0, ranges.1) else None

-- the fields of this kind of deed
unfoldable pub deed_by : ℕ → List ℕ → Option (PlainDeed × List ℕ)
deed_by kind rest =
    if kind == 1 then make_dir_at rest else if kind == 2 then put_at rest else if kind == 3 then rename_at rest
    else if kind == 4 then remove_at rest else if kind == 5 then remove_dir_at rest else if kind == 6 then reshape_at rest else None

unfoldable pub deed_at : List ℕ → Option (PlainDeed × List ℕ)
deed_at bytes = byte_at bytes >>= λ kind. deed_by kind.0 kind.1
