-- The paths of host files that this program may name: never one that leaves its folder.
use Rattle.std.specs.Prelude.{ℕ, List, [], ◌∷◌, length, Bool, ◌||◌, ◌&&◌, not, nat_le, ◌==◌}
use Rattle.std.specs.List.{list_all}
use Rattle.std.specs.Str.{bytes_eq}

-- a letter, a digit or one of `-`, `_`, `=` and `.`
abbrev pub is_part_byte : ℕ → Bool
is_part_byte b =
    (nat_le 65 b && nat_le b 90) || (nat_le 97 b && nat_le b 122) || (nat_le 48 b && nat_le b 57)
    || (b == 45) || (b == 95) || (b == 61) || (b == 46)

-- 1 to 255 such bytes, and neither `.` nor `..`
abbrev pub is_part : List ℕ → Bool
is_part part =
    nat_le 1 (length part) && nat_le (length part) 255 && list_all is_part_byte part
    && not (bytes_eq part (46 ∷ [])) && not (bytes_eq part (46 ∷ 46 ∷ []))

-- the parts of a path: at most 6 of them
abbrev pub is_path : List (List ℕ) → Bool
is_path parts = nat_le (length parts) 6 && list_all is_part parts
