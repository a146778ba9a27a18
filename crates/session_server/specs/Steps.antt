-- What a link's bytes are before and after calls, and where the reading of a message stops.
use Rattle.std.specs.Prelude.{◌≡◌, ℕ, ◌<◌, List, [], ◌++◌, Option, ⊤}
use Rattle.outside.specs.Calls.{Told, Changes, Extends, TakesFront}
use Rattle.session_core.specs.State.{State}
use Rattle.session_server.specs.declared.ending.SessionEnd.{SessionEnd}
use Rattle.session_server.specs.declared.ending.SessionEnd.TheVariants as ends
use Rattle.session_server.specs.declared.full.Filled.{Filled}
use Rattle.session_server.specs.declared.full.Filled.TheVariants as fills
use Rattle.session_server.specs.Talk.{EndsWith, IsReadUp}

-- these bytes were read, if the link tells
abbrev pub Reads : Option (List ℕ) → Option (List ℕ) → List ℕ → Type 0
Reads left left' bytes = TakesFront left left' bytes

-- these bytes were taken
abbrev pub Writes : Option (List ℕ) → Option (List ℕ) → List ℕ → Type 0
Writes taken taken' bytes = Extends taken taken' bytes

-- how many bytes of n were read
abbrev pub count_of : ℕ → Filled → ℕ
count_of n fills.Whole = n
count_of n (fills.Ended k) = k
count_of n (fills.Fault k) = k

-- if not all n were read, fewer were, and the input ended only if nothing is left of it
abbrev pub IsShort : ℕ → Option (List ℕ) → Filled → Type 0
IsShort n left fills.Whole = ⊤
IsShort n left (fills.Ended k) = (k < n) × Told left (λ bytes. bytes ≡ [])
IsShort n left (fills.Fault k) = k < n

abbrev pub IsFault : Filled → Type 0
IsFault (fills.Fault k) = ⊤
IsFault filled = ⊥

-- the ends that happen while a message is read
abbrev pub IsReadEnd : SessionEnd → Type 0
IsReadEnd ends.Done = ⊤
IsReadEnd (ends.Cut had wanted) = ⊤
IsReadEnd (ends.BadFrame size) = ⊤
IsReadEnd ends.ReadFault = ⊤
IsReadEnd end = ⊥

-- the reading of a message, whose first bytes were there before, stops so
pub record StopsAt (first : List ℕ) (s : State) (left left' : Option (List ℕ)) (end : SessionEnd) : Type 0 where
  pub more : List ℕ
  pub read : Changes left left' (λ old new. (old ≡ more ++ new) × IsReadUp end new)
  pub ends : EndsWith s (first ++ more) end
  pub kind : IsReadEnd end

-- the rest of a message was read after its first bytes
abbrev pub Completes : List ℕ → Option (List ℕ) → Option (List ℕ) → List ℕ → Type 0
Completes first left left' bytes = (more : List ℕ) × (bytes ≡ first ++ more) × Reads left left' more
