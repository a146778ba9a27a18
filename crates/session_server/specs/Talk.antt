-- The whole talk on a link: what came in, what was asked of the tree, what was answered, and how it ended.
use Rattle.std.specs.Prelude.{◌≡◌, ◌⊎◌, ℕ, ◌<◌, ◌≤◌, ◌^◌, List, [], ◌∷◌, ◌++◌, length, Option, ⊤}
use Rattle.std.specs.List.{concat}
use Rattle.std.specs.Option.{option_to_list}
use Rattle.byteorder.specs.Endian.{little_number}
use Rattle.tree_model.specs.Asked.{Asked}
use Rattle.ninep_wire.specs.Reading.{IsFrame}
use Rattle.session_core.specs.State.{State, fresh, limit}
use Rattle.session_core.specs.Session.{Exchanged}
use Rattle.session_server.specs.declared.ending.SessionEnd.{SessionEnd}
use Rattle.session_server.specs.declared.ending.SessionEnd.TheVariants as ends

-- The first message is answered in a state, at the first of the seconds, after at most one request, and Rest holds of the state after it and of
-- the seconds, and what was asked and answered, for the others.
pub record FirstAnswered (s : State) (frame seconds : List ℕ) (asked : List Asked) (answers : List (List ℕ)) (Rest : State → List ℕ → List Asked → List (List ℕ) → Type 0) : Type 0 where
  pub framed : IsFrame frame
  pub fits : length frame ≤ limit s
  pub second : ℕ
  pub request : Option Asked
  pub answer : List ℕ
  pub next : State
  pub exchanged : Exchanged s frame second request answer next
  pub other_seconds : List ℕ
  pub others : List Asked
  pub other_answers : List (List ℕ)
  pub rest : Rest next other_seconds others other_answers
  pub seconds_are : seconds ≡ second ∷ other_seconds
  pub asked_is : asked ≡ option_to_list request ++ others
  pub answers_are : answers ≡ answer ∷ other_answers

-- messages answered in order, from one state to another: the second at which each was, what was asked for them, and the answer to each
abbrev pub Answered : State → List (List ℕ) → List ℕ → List Asked → List (List ℕ) → State → Type 0
Answered s [] seconds asked answers last = (seconds ≡ []) × (asked ≡ []) × (answers ≡ []) × (last ≡ s)
Answered s (frame ∷ frames) seconds asked answers last =
    FirstAnswered s frame seconds asked answers (λ next other_seconds others other_answers. Answered next frames other_seconds others other_answers last)

-- the size that a message opens with, once its 4 bytes are there
abbrev pub size_of : List ℕ → ℕ
size_of bytes = little_number 4 bytes

-- the size is one that a message may have
abbrev pub IsSize : State → ℕ → Type 0
IsSize s size = (7 ≤ size) × (size ≤ limit s)

-- less than a whole message: fewer than 4 bytes, or a good size and fewer bytes than it says; `wanted` is what it takes to go on
abbrev pub IsPart : State → List ℕ → ℕ → Type 0
IsPart s rest wanted =
    ((length rest < 4) × (wanted ≡ 4))
    ⊎ ((4 ≤ length rest) × IsSize s (size_of rest) × (length rest < size_of rest) × (wanted ≡ size_of rest))

-- how a session may end, by what is left of the input after the messages that were answered
abbrev pub EndsWith : State → List ℕ → SessionEnd → Type 0
-- the input ended between messages
EndsWith s rest ends.Done = rest ≡ []
-- it ended within one
EndsWith s rest (ends.Cut had wanted) = (0 < length rest) × (had ≡ length rest) × IsPart s rest wanted
-- a size was read that no message may have, and nothing after it was read
EndsWith s rest (ends.BadFrame size) = (length rest ≡ 4) × (size_of rest ≡ size) × (IsSize s size → ⊥)
EndsWith s rest ends.ReadFault = (wanted : ℕ) × IsPart s rest wanted
EndsWith s rest ends.WriteFault = rest ≡ []
EndsWith s rest ends.Limit = rest ≡ []
EndsWith s rest ends.Memory = rest ≡ []

-- and by how many messages were answered: the limit is reached exactly after 2^32 of them
abbrev pub EndsAfter : ℕ → SessionEnd → Type 0
EndsAfter n ends.Limit = n ≡ 2 ^ 32
EndsAfter n ends.Memory = n ≡ 0
EndsAfter n ends.WriteFault = (0 < n) × (n ≤ 2 ^ 32)
EndsAfter n ends.Done = n < 2 ^ 32
EndsAfter n (ends.Cut had wanted) = n < 2 ^ 32
EndsAfter n (ends.BadFrame size) = n < 2 ^ 32
EndsAfter n ends.ReadFault = n < 2 ^ 32

-- a talk: the input is whole messages and a rest; there is a second and an answer for each message
pub record Talk (input seconds : List ℕ) (asked : List Asked) (answers : List (List ℕ)) (end : SessionEnd) : Type 0 where
  pub frames : List (List ℕ)
  pub rest : List ℕ
  pub last : State
  pub input_is : input ≡ concat frames ++ rest
  pub answered : Answered fresh frames seconds asked answers last
  pub ended : EndsWith last rest end
  pub count : EndsAfter (length frames) end

-- the last answer was cut: the link took a part from its front, and not all of it
pub record IsCutShort (answers : List (List ℕ)) (taken : List ℕ) : Type 0 where
  pub earlier : List (List ℕ)
  pub part : List ℕ
  pub lost : List ℕ
  pub answers_are : answers ≡ earlier ++ (part ++ lost) ∷ []
  pub some : 0 < length lost
  pub taken_is : taken ≡ concat earlier ++ part

-- what the link took of the answers: all of them, but if a write failed not all of the last
abbrev pub IsTaken : SessionEnd → List (List ℕ) → List ℕ → Type 0
IsTaken ends.WriteFault answers taken = IsCutShort answers taken
IsTaken ends.Done answers taken = taken ≡ concat answers
IsTaken (ends.Cut had wanted) answers taken = taken ≡ concat answers
IsTaken (ends.BadFrame size) answers taken = taken ≡ concat answers
IsTaken ends.ReadFault answers taken = taken ≡ concat answers
IsTaken ends.Limit answers taken = taken ≡ concat answers
IsTaken ends.Memory answers taken = taken ≡ concat answers

-- after these ends nothing is left to read
abbrev pub IsReadUp : SessionEnd → List ℕ → Type 0
IsReadUp ends.Done left = left ≡ []
IsReadUp (ends.Cut had wanted) left = left ≡ []
IsReadUp (ends.BadFrame size) left = ⊤
IsReadUp ends.ReadFault left = ⊤
IsReadUp ends.WriteFault left = ⊤
IsReadUp ends.Limit left = ⊤
IsReadUp ends.Memory left = ⊤
