-- Sessions whose input is whole messages, over links that never fail.
use Rattle.std.specs.Prelude.{◌≡◌, ℕ, ◌<◌, ◌≤◌, ◌^◌, List, [], ◌∷◌, length, Option, Some, ⊤}
use Rattle.std.specs.List.{concat}
use Rattle.outside.specs.Calls.{Rose}
use Rattle.outside.specs.Views.{LinkView}
use Rattle.tree_model.specs.Asked.{Asked}
use Rattle.ninep_wire.specs.Reading.{IsFrame}
use Rattle.session_core.specs.State.{State, fresh, limit}
use Rattle.session_core.specs.Session.{Exchanged}
use Rattle.session_server.specs.declared.ending.SessionEnd.{SessionEnd}
use Rattle.session_server.specs.declared.ending.SessionEnd.TheVariants as ends

-- a message that may come in a state, and Rest holds of each state after it, however it is answered
pub record FirstFits (s : State) (message : List ℕ) (Rest : State → Type 0) : Type 0 where
  pub framed : IsFrame message
  pub fits : length message ≤ limit s
  pub rest : (second : ℕ) (request : Option Asked) (answer : List ℕ) (next : State) → Exchanged s message second request answer next → Rest next

-- messages none of which is longer than was agreed by then
abbrev pub AreFitting : State → List (List ℕ) → Type 0
AreFitting s [] = ⊤
AreFitting s (message ∷ messages) = FirstFits s message (λ next. AreFitting next messages)

-- what is left to read of a link is told, and it is whole messages: fewer than a session answers at most, none too long
pub record IsWhole (left : Option (List ℕ)) : Type 0 where
  pub messages : List (List ℕ)
  pub told : left ≡ Some (concat messages)
  pub few : length messages < 2 ^ 32
  pub fitting : AreFitting fresh messages

-- neither count of a link's faults rose
pub record IsFaultless (before after : LinkView) : Type 0 where
  pub reads : ¬ (Rose before.read_faults after.read_faults)
  pub writes : ¬ (Rose before.write_faults after.write_faults)

-- How a session on such a link ends, by the messages that it answered: it is done, all were answered and nothing is left; or memory
-- ran out before a byte was read.
abbrev pub IsServedWhole : List (List ℕ) → List (List ℕ) → LinkView → LinkView → SessionEnd → Type 0
IsServedWhole messages answered before after ends.Done = (answered ≡ messages) × (after.left ≡ Some [])
IsServedWhole messages answered before after ends.Memory = (answered ≡ []) × (after.left ≡ before.left)
IsServedWhole messages answered before after (ends.Cut had wanted) = ⊥
IsServedWhole messages answered before after (ends.BadFrame size) = ⊥
IsServedWhole messages answered before after ends.ReadFault = ⊥
IsServedWhole messages answered before after ends.WriteFault = ⊥
IsServedWhole messages answered before after ends.Limit = ⊥
