-- The numbers of Cryptomator's vault format 8 that several crates know, and this program's limits on key files.
use Rattle.std.specs.Prelude.{ℕ}

-- the longest sealed name, in characters, that isn't shortened: in a new vault, and if the secret is the two keys
abbrev pub default_threshold : ℕ
default_threshold = 220

-- the largest threshold that a vault may have; the least is 1
abbrev pub max_threshold : ℕ
max_threshold = 250

-- the longest identifier of a directory, in bytes
abbrev pub identifier_limit : ℕ
identifier_limit = 1000

-- the longest password, in bytes
abbrev pub password_limit : ℕ
password_limit = 1024

-- the longest key file, in bytes
abbrev pub key_file_limit : ℕ
key_file_limit = 65536
