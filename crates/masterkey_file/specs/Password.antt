-- The password: the secret's first line, in the form NFC (UAX 15).
use Rattle.std.specs.Prelude.{ℕ, List, length, codes, ◌&&◌, Option, Some, None, ◌==◌, nat_lt, nat_le, if◌then◌else◌}
use Rattle.std.specs.List.{before_first}
use Rattle.std.specs.Str.{is_utf8}
use Rattle.nfc_text.specs.Nfc.{nfc_of}
use Rattle.vault_layout.specs.Limits.{password_limit}
use Rattle.masterkey_file.specs.declared.secret.PasswordErr.{PasswordErr}
use Rattle.masterkey_file.specs.declared.secret.PasswordErr.TheVariants.{BadSecret, Memory}

-- the bytes up to the first LF, or all of them
abbrev pub line_of : List ℕ → List ℕ
line_of bytes = before_first (λ b. b == 10) bytes

-- the password of a line that isn't empty nor longer than the limit, and is UTF-8, and None of any other
abbrev pub password_in : List ℕ → Option (List ℕ)
password_in line = if nat_lt 0 (length line) && nat_le (length line) password_limit && is_utf8 line then Some (nfc_of line) else None

-- the password in a secret
unfoldable pub password_of : List ℕ → Option (List ℕ)
password_of secret = password_in (line_of secret)

-- an error as it is shown
abbrev pub secret_text : PasswordErr → List ℕ
secret_text BadSecret = codes "bad secret"
secret_text Memory = codes "out of memory"
