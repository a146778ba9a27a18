-- Numbers as words.
use Rattle.std.specs.Prelude.{ℕ, List, Bool, ◌&&◌, not, ◌==◌, Option, Some, None, length, nat_lt, nat_le, slice_index, if◌then◌else◌}
use Rattle.std.specs.List.{list_all}
use Rattle.std.specs.Char.{is_ascii_digit}
use Rattle.std.specs.Str.Parse.{digits_value}

abbrev pub has_leading_zero : List ℕ → Bool
has_leading_zero text = nat_lt 1 (length text) && (slice_index text 0 == 48)

-- decimal digits, one at least, without a leading zero
abbrev pub is_decimal : List ℕ → Bool
is_decimal text = nat_lt 0 (length text) && (not (has_leading_zero text) && list_all is_ascii_digit text)

-- the number from `least` to `most` that a text is
unfoldable pub number_in : ℕ → ℕ → List ℕ → Option ℕ
number_in least most text =
    if is_decimal text && (nat_le least (digits_value 10 text) && nat_le (digits_value 10 text) most) then Some (digits_value 10 text) else None
