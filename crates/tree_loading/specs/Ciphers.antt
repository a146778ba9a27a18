-- What the functions of a sealing meet, so that an entry of a directory's folder stands for one node at most.
use Rattle.std.specs.Prelude.{◌≡◌, ℕ, ◌-◌, ◌≤◌, List, length, drop, Bool, true, false, Some, bytes_eq}
use Rattle.aes_block.specs.Bytes.{AreBytes}
use Rattle.vault_names.specs.Places.{long_suffix, longest_text}
use Rattle.clear_tree.specs.Walk.{Sealing}
use Rattle.clear_tree.specs.Places.{text_dirid}

-- an entry ends in `.c9s`, as the folder of a text at its long place does
abbrev pub is_long_entry : List ℕ → Bool
is_long_entry entry = bytes_eq (drop (length entry - 4) entry) long_suffix

-- A text that opens to a name is that name's; the text of a name that opens is a text, of 1,392 characters at most; the folder of a text at
-- its long place is a part of a path and ends in `.c9s`; and neither what ends so nor `dirid.c9r` is a text.
pub record AreCiphers (s : Sealing) : Type 0 where
  pub sealed : (i t n : List ℕ) → AreBytes t → s.open_name i t ≡ Some n → t ≡ s.seal i n
  pub text : (i n : List ℕ) → s.open_name i (s.seal i n) ≡ Some n → s.is_text (s.seal i n) ≡ true
  pub short : (i n : List ℕ) → s.open_name i (s.seal i n) ≡ Some n → length (s.seal i n) ≤ longest_text
  pub part : (t : List ℕ) → s.is_part (s.long_of t) ≡ true
  pub long : (t : List ℕ) → is_long_entry (s.long_of t) ≡ true
  pub no_text : (t : List ℕ) → is_long_entry t ≡ true → s.is_text t ≡ false
  pub copy : s.is_text text_dirid ≡ false
