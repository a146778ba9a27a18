-- The clear tree of a vault under its keys: the definitions of `clear_tree` at the format's own functions (Cryptomator's vault format 8).
use Rattle.std.specs.Prelude.{ℕ, ◌-◌, List, length, drop, Bool, ◌&&◌, nat_le}
use Rattle.std.specs.Str.{bytes_eq, is_utf8}
use Rattle.vault_layout.specs.Limits.{identifier_limit}
use Rattle.vault_path.specs.Parts.{is_part}
use Rattle.outside.specs.Disk.{Disk}
use Rattle.vault_keys.specs.Keys.{KeyPair}
use Rattle.tree_model.specs.Rows.{Rows}
use Rattle.vault_names.specs.Sealed.{sealed_name, opened_name, suffix}
use Rattle.vault_names.specs.Folder.{base32, hash_of}
use Rattle.vault_names.specs.Places.{long_folder}
use Rattle.file_chunks.specs.File.{content_of}
use Rattle.clear_tree.specs.Walk.{Sealing}
use Rattle.clear_tree.specs.Rows.{IsClear}

-- the identifier of a directory below the root: 1 byte up to the limit, of UTF-8
abbrev pub is_identifier : List ℕ → Bool
is_identifier bytes = nat_le 1 (length bytes) && nat_le (length bytes) identifier_limit && is_utf8 bytes

-- the shortest text of a sealed name: a tag and a byte in base64, and `.c9r`
abbrev pub shortest_text : ℕ
shortest_text = 28

abbrev pub is_sealed_text : List ℕ → Bool
is_sealed_text text = nat_le shortest_text (length text) && bytes_eq (drop (length text - 4) text) suffix

-- what the format says under these keys
abbrev pub sealing_of : KeyPair → Sealing
sealing_of keys = record {
  seal = sealed_name keys;
  open_name = opened_name keys;
  folder_of = λ identifier. base32 (hash_of keys identifier);
  valid_id = is_identifier;
  long_of = long_folder;
  is_part = is_part;
  is_text = is_sealed_text;
  content = content_of keys;
}

-- the rows that a disk stands for under these keys, unlocked at this second
abbrev pub IsTreeOf : KeyPair → Disk → ℕ → Rows → Type 0
IsTreeOf keys disk now rows = IsClear (sealing_of keys) disk now rows
