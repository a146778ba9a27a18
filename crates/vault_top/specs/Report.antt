-- The lines of the report.
use Rattle.std.specs.Prelude.{◌≡◌, ℕ, ◌<◌, List, [], ◌∷◌, ◌++◌, length, codes, decimal, Bool}
use Rattle.session_server.specs.declared.ending.SessionEnd.{SessionEnd}
use Rattle.session_server.specs.Ends.{is_done, is_cut, is_bad, is_read_fault, is_write_fault, is_memory, is_limit, count_of}

-- a line ends with LF
abbrev pub line : List ℕ → List ℕ
line text = text ++ 10 ∷ []

-- a part from a text's front was taken, and not all of it
pub record TakesPart (text old new : List ℕ) : Type 0 where
  pub part : List ℕ
  pub lost : List ℕ
  pub some_lost : 0 < length lost
  pub text_is : text ≡ part ++ lost
  pub new_is : new ≡ old ++ part

-- ---- how sessions ended

-- a word and how many sessions ended so
abbrev pub counted : List ℕ → (SessionEnd → Bool) → List SessionEnd → List ℕ
counted word test served = codes " " ++ word ++ codes " " ++ decimal (count_of test served)

-- `sessions N done a cut b bad c read d write e memory f limit g`: how many there were, and how many of them ended in each way
unfoldable pub sessions_line : List SessionEnd → List ℕ
sessions_line served = line (codes "sessions " ++ decimal (length served)
    ++ counted (codes "done") is_done served
    ++ counted (codes "cut") is_cut served
    ++ counted (codes "bad") is_bad served
    ++ counted (codes "read") is_read_fault served
    ++ counted (codes "write") is_write_fault served
    ++ counted (codes "memory") is_memory served
    ++ counted (codes "limit") is_limit served)
