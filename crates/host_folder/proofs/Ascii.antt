-- A part of a path is text.
use Rattle.std.proofs.Common.{◌≡◌, ℕ, ◌<◌, Bool, true, ◌&&◌, List, [], ◌∷◌, suc, zero, arith}
use Rattle.std.specs.List.{list_all}
use Rattle.std.specs.Str.{IsAscii, IsUtf8}
use Rattle.std.proofs.lemmas.Bool.Decides.{nat_tests}
use Rattle.std.proofs.lemmas.Str.{IsUtf8-from_ascii}
use Rattle.vault_path.specs.Parts.{is_part_byte, is_part}

-- a byte of a part is ASCII
is_part_byte-ascii : (b : ℕ) → is_part_byte b ≡ true → b < 128
is_part_byte-ascii b h = grind (arith, nat_tests)

first_of_both : (x y : Bool) → (x && y) ≡ true → x ≡ true
first_of_both x y h = grind arith

second_of_both : (x y : Bool) → (x && y) ≡ true → y ≡ true
second_of_both x y h = grind arith

bytes_ascii : (bs : List ℕ) → list_all is_part_byte bs ≡ true → IsAscii bs
bytes_ascii [] h i = omega arith
bytes_ascii (b ∷ bs) h zero = is_part_byte-ascii b (first_of_both (is_part_byte b) (list_all is_part_byte bs) h)
bytes_ascii (b ∷ bs) h (suc i) = bytes_ascii bs (second_of_both (is_part_byte b) (list_all is_part_byte bs) h) i

part_bytes : (part : List ℕ) → is_part part ≡ true → list_all is_part_byte part ≡ true
part_bytes part h = grind (arith, nat_tests)

pub IsUtf8-from_part : (part : List ℕ) → is_part part ≡ true → IsUtf8 part
IsUtf8-from_part part h = IsUtf8-from_ascii part (bytes_ascii part (part_bytes part h))
