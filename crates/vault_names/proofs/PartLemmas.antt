-- The digits of a hash are good parts of a path.
use Rattle.std.proofs.Common.{◌≡◌, ℕ, ◌-◌, ◌/◌, ◌%◌, ◌^◌, ◌<◌, Bool, true, false, ◌||◌, ◌&&◌, ◌==◌, nat_le, List, [], ◌∷◌, length, take, drop, map, refl, arith}
use Rattle.std.proofs.lemmas.Bool.Decides.{nat_tests}
use Rattle.std.specs.List.{list_all, range_with_len}
use Rattle.aes_block.specs.Bytes.{number_of}
use Rattle.vault_path.specs.Parts.{is_part_byte, is_part, is_path}
use Rattle.vault_layout.specs.Names.{folders}
use Rattle.vault_names.specs.Folder.{base32, base32_digit, folder_path}

-- a capital letter or one of `2` to `7`
abbrev pub is_digit : ℕ → Bool
is_digit b = (nat_le 65 b && nat_le b 90) || (nat_le 50 b && nat_le b 55)

digit_of : (n : ℕ) → n < 32 → is_digit (base32_digit n) ≡ true
digit_of n low = grind (arith, nat_tests)

in_part : (b : ℕ) → is_digit b ≡ true → is_part_byte b ≡ true
in_part b h = grind (arith, nat_tests)

both_true : (x y : Bool) → (x && y) ≡ true → (x ≡ true) × (y ≡ true)
both_true true y h = (refl, h)
both_true false y h = cc

all_in_part : (bs : List ℕ) → list_all is_digit bs ≡ true → list_all is_part_byte bs ≡ true
all_in_part [] h = refl
all_in_part (b ∷ bs) h =
    let both = both_true (is_digit b) (list_all is_digit bs) h in
    rw (in_part b both.0) (all_in_part bs both.1)

no_dot : (b : ℕ) → is_digit b ≡ true → (b == 46) ≡ false
no_dot b h = grind (arith, nat_tests)

-- at most 255 digits and at least one are a part
is_part_of : (b : ℕ) (bs : List ℕ) → is_digit b ≡ true → list_all is_digit bs ≡ true → nat_le (length (b ∷ bs)) 255 ≡ true → is_part (b ∷ bs) ≡ true
is_part_of b bs first rest short =
    let one : nat_le 1 (length (b ∷ bs)) ≡ true = grind (arith, nat_tests) in
    rw (one, short, in_part b first, all_in_part bs rest, no_dot b first) refl

-- digit i of a hash
abbrev digits : List ℕ → ℕ → ℕ
digits hash i = base32_digit (number_of hash / 32 ^ (31 - i) % 32)

digit_at : (hash : List ℕ) (i : ℕ) → is_digit (digits hash i) ≡ true
digit_at hash i = digit_of (number_of hash / 32 ^ (31 - i) % 32) (omega arith)

digits_at : (hash is : List ℕ) → list_all is_digit (map (digits hash) is) ≡ true
digits_at hash [] = refl
digits_at hash (i ∷ is) = rw (digit_at hash i) (digits_at hash is)

pub is_part-front : (hash : List ℕ) → is_part (take 2 (base32 hash)) ≡ true
unfolding base32
is_part-front hash = is_part_of (digits hash 0) (map (digits hash) (1 ∷ [])) (digit_at hash 0) (digits_at hash (1 ∷ [])) refl

pub is_part-back : (hash : List ℕ) → is_part (drop 2 (base32 hash)) ≡ true
unfolding base32
is_part-back hash = is_part_of (digits hash 2) (map (digits hash) (range_with_len 3 29)) (digit_at hash 2) (digits_at hash (range_with_len 3 29)) refl

path_true : (a b c : List ℕ) → is_part a ≡ true → is_part b ≡ true → is_part c ≡ true → is_path (a ∷ b ∷ c ∷ []) ≡ true
path_true a b c p q r = rw (p, q, r) refl

-- the folder of all directories' folders, the first two digits, and the others
pub is_path-digits : (hash : List ℕ) → is_path (folder_path (base32 hash)) ≡ true
is_path-digits hash = path_true folders (take 2 (base32 hash)) (drop 2 (base32 hash)) refl (is_part-front hash) (is_part-back hash)
