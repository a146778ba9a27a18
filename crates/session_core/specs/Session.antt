-- One message of a session and its answer (section 5 of the Plan 9 manual).
use Rattle.std.specs.Prelude.{◌≡◌, ℕ, ◌≤◌, List, length, drop, Option, Some, None, Result, Ok, Err}
use Rattle.std.specs.Option.{option_to_list}
use Rattle.byteorder.specs.Endian.{little_number}
use Rattle.tree_model.specs.Asked.{Asked, Extends}
use Rattle.ninep_wire.specs.declared.fault.WireErr.{WireErr}
use Rattle.ninep_wire.specs.declared.fault.WireErr.TheVariants.{Kind}
use Rattle.ninep_wire.specs.TMessage.{PlainMessage}
use Rattle.ninep_wire.specs.RMessage.{PlainRMessage, spelled_r, IsRMessage}
use Rattle.ninep_wire.specs.Reading.{message_in}
use Rattle.session_core.specs.State.{State, limit}
use Rattle.session_core.specs.Action.{Action, says, asks, refuses, action_of}
use Rattle.session_core.specs.Outcome.{Outcome, outcome, outcome_of}
use Rattle.session_core.specs.Texts as texts

-- What is done on a frame as it was read. One that is no message is refused before all else: a type that no client sends is unknown, all
-- else is bad.
abbrev pub action_on : State → Result PlainMessage WireErr → Action
action_on s (Ok message) = action_of s message.body
action_on s (Err (Kind kind)) = refuses texts.unknown_message s
action_on s (Err fault) = refuses texts.bad_message s

abbrev pub outcome_on : State → Result PlainMessage WireErr → Asked → Option Outcome
outcome_on s (Ok message) entry = outcome_of s message.body entry.reply entry.bytes
outcome_on s (Err fault) entry = None

-- an action is done at a second, after at most one request
abbrev pub IsDone : Action → State → Result PlainMessage WireErr → ℕ → Option Asked → PlainRMessage → State → Type 0
IsDone (says said after) s given second asked answer next = (asked ≡ None) × (answer ≡ said) × (next ≡ after)
IsDone (asks request) s given second asked answer next =
    (entry : Asked) × (asked ≡ Some entry) × (entry.request ≡ request) × (entry.second ≡ second)
    × (outcome_on s given entry ≡ outcome answer next)

-- the tag of a frame
abbrev pub tag_at : List ℕ → ℕ
tag_at frame = little_number 2 (drop 5 frame)

-- A frame is answered at a second by these bytes, which are one R-message of at most the agreed size with the frame's own tag, after at
-- most one request, and the session is the next.
pub record Exchanged (s : State) (frame : List ℕ) (second : ℕ) (asked : Option Asked) (out : List ℕ) (next : State) : Type 0 where
  pub answer : PlainRMessage
  pub formed : IsRMessage (tag_at frame) answer
  pub spelled : out ≡ spelled_r (tag_at frame) answer
  pub fits : length out ≤ limit next
  pub is_done : IsDone (action_on s (message_in frame)) s (message_in frame) second asked answer next

-- what a session has done on a frame, and what it asked an object for it
pub record HasAnswered {B : Type 0} (stands : B → B → List Asked → Type 0) (old new : State) (object : B) (object' : B) (frame : List ℕ) (second : ℕ) (out : List ℕ) : Type 0 where
  pub asked : Option Asked
  pub exchanged : Exchanged old frame second asked out new
  pub extends : Extends stands object object' (option_to_list asked)
