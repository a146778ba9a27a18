-- The normal form C of texts (UAX 15).
use Rattle.std.specs.Prelude.{ℕ, List}
use Rattle.std.specs.Str.{chars, encode_utf8_all}
use Rattle.unicode_normalization.specs.Forms.{nfc}

-- the form NFC of a text in UTF-8, as its bytes
unfoldable pub nfc_of : List ℕ → List ℕ
nfc_of bytes = encode_utf8_all (nfc (chars bytes))
