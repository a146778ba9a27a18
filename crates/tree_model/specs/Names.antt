-- Clear names: which are valid, and how the names of a walk are spelled.
use Rattle.std.specs.Prelude.{◌≡◌, ℕ, zero, suc, ◌+◌, ◌*◌, ◌<◌, ◌≤◌, ◌^◌, List, [], ◌∷◌, length, take, drop, ◌||◌, Option, Some, None, Result, Ok, Err, nat_lt, ◌==◌, slice_index, if◌then◌else◌}
use Rattle.std.specs.List.{list_any, flat_map, AllByRecursion}
use Rattle.std.specs.Option.{option_map_or}
use Rattle.std.specs.Str.{bytes_eq, is_utf8}
use Rattle.nfc_text.specs.Nfc.{nfc_of}
use Rattle.tree_model.specs.Wire.{string}

-- what keeps bytes from being a clear name; the last with the length of the name's form NFC
pub data NameFault : Type 0 where
  not_utf8 : NameFault
  empty : NameFault
  dots : NameFault
  forbidden : NameFault
  too_long : ℕ → NameFault

-- the longest name, in bytes
abbrev pub name_limit : ℕ
name_limit = 1024

-- what keeps a text from being a name whatever its length is: it is empty, `.` or `..`, or holds `/` or NUL
abbrev pub form_fault : List ℕ → Option NameFault
form_fault name =
    if length name == 0 then Some empty
    else if bytes_eq name (46 ∷ []) || bytes_eq name (46 ∷ 46 ∷ []) then Some dots
    else if list_any (λ b. (b == 47) || (b == 0)) name then Some forbidden
    else None

-- a text in NFC that is a name: its form is good, and it has at most 1,024 bytes
abbrev pub checked_name : List ℕ → Result (List ℕ) NameFault
checked_name name =
    option_map_or (λ fault. Err fault) (form_fault name)
    (if nat_lt name_limit (length name) then Err (too_long (length name)) else Ok name)

-- the clear name that bytes stand for: their form NFC, if they are UTF-8 and that and they themselves are good. What the bytes alone
-- refuse is refused before their form NFC is needed
unfoldable pub clear_name : List ℕ → Result (List ℕ) NameFault
clear_name bytes =
    if is_utf8 bytes then option_map_or (λ fault. Err fault) (form_fault bytes) (checked_name (nfc_of bytes)) else Err not_utf8

-- a valid clear name: UTF-8 in NFC, in bounds
abbrev pub IsClearName : List ℕ → Type 0
IsClearName name = clear_name name ≡ Ok name

-- ---- the names of a walk

abbrev pub spelled_names : List (List ℕ) → List ℕ
spelled_names names = flat_map string names

-- the first n strings that bytes spell
unfoldable pub names_in : ℕ → List ℕ → List (List ℕ)
names_in zero bytes = []
names_in (suc n) bytes =
    let len = slice_index bytes 0 + 256 * slice_index bytes 1 in
    take len (drop 2 bytes) ∷ names_in n (drop (2 + len) bytes)

-- bytes are the spelling of n names and nothing else
pub record AreNames (n : ℕ) (bytes : List ℕ) : Type 0 where
  pub spelled : bytes ≡ spelled_names (names_in n bytes)
  pub count : length (names_in n bytes) ≡ n
  pub fit : AllByRecursion (λ name. length name < 2 ^ 16) (names_in n bytes)

-- the most names of a walk (MAXWELEM, walk(5))
abbrev pub walk_limit : ℕ
walk_limit = 16

-- what a walk may be given: at most 16 names, in this spelling
pub record IsWalk (n : ℕ) (bytes : List ℕ) : Type 0 where
  pub few : n ≤ walk_limit
  pub names : AreNames n bytes
