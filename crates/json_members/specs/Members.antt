-- JSON objects (RFC 8259) and their members, by the values that serde_json reads.
use Rattle.std.specs.Prelude.{ℕ, pos, List, ◌&&◌, Option, Some, None, option_and_then, if◌then◌else◌}
use Rattle.std.specs.Str.{is_utf8}
use Rattle.std.specs.Float.{binary64, two_to, float_to_unsigned}
use Rattle.std.specs.Float.Ieee.{of_int, lt as float_lt, eq as float_eq}
use Rattle.std.specs.Int.{w64}
use Rattle.serde_json.specs.Data.{Num, unsigned, negative, float, Data, object}
use Rattle.serde_json.specs.Read.{read}
use Rattle.serde_json.specs.Find.{get, as_number, as_str}

-- the value, if it is an object
abbrev pub only_object : Data → Option Data
only_object (object members) = Some (object members)
only_object value = None

-- the object that bytes are as JSON in UTF-8, and None if they are none
unfoldable pub object_of : List ℕ → Option Data
object_of bytes = if is_utf8 bytes then option_and_then only_object (read bytes) else None

-- the text at a name
abbrev pub text_at : List ℕ → Data → Option (List ℕ)
text_at name value = option_and_then as_str (get name value)

-- the integer from 0 to 2^64 - 1 that a number is, however it is written: a float is one if it equals the integer that a cast cuts it to
abbrev pub integer_of : Num → Option ℕ
integer_of (unsigned n) = Some n
integer_of (negative z) = None
integer_of (float x) =
    if float_lt x (two_to 64) && float_eq x (of_int binary64 (pos (float_to_unsigned w64 x))) then Some (float_to_unsigned w64 x) else None

-- the integer at a name
abbrev pub integer_at : List ℕ → Data → Option ℕ
integer_at name value = option_and_then integer_of (option_and_then as_number (get name value))
