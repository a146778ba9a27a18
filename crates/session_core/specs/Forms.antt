-- What the code does on a message, as the definitions have it, and what keeps it within the agreed size.
use Rattle.std.specs.Prelude.{◌≡◌, ℕ, ◌+◌, ◌≤◌, List, [], length, take, drop, true, Result, Ok, Err, IfSome, ⊤}
use Rattle.std.specs.FinMap as map
use Rattle.tree_model.specs.declared.request.Request.{Request}
use Rattle.tree_model.specs.declared.stat.Qid.{Qid}
use Rattle.tree_model.specs.Wire.{stat_limit}
use Rattle.tree_model.specs.Asked as asked
use Rattle.tree_model.specs.Asked.{PlainRequest, PlainReply, qid, walked, count, stat, done, refused, plain_request, bytes_put, count_limit, CanAsk, AreStats, IsReplyTo}
use Rattle.ninep_wire.specs.TMessage as t
use Rattle.ninep_wire.specs.TMessage.{PlainTMessage}
use Rattle.ninep_wire.specs.declared.r_message.RMessage.{RMessage}
use Rattle.ninep_wire.specs.Plain.{plain_r}
use Rattle.ninep_wire.specs.Writing.{HasForm, r_size}
use Rattle.session_core.specs.declared.action.Action.{Action}
use Rattle.session_core.specs.declared.action.Action.TheVariants as actions
use Rattle.session_core.specs.declared.change.Change.{Change}
use Rattle.session_core.specs.declared.texts.Denial.{Denial}
use Rattle.session_core.specs.declared.exchange.TheConstants.{READ_OFFSET, STAT_OFFSET}
use Rattle.session_core.specs.Denial.{denial_text}
use Rattle.session_core.specs.State.{State, least_message, header_room, limit}
use Rattle.session_core.specs.Action as session
use Rattle.session_core.specs.Action.{says, asks, refuses}
use Rattle.session_core.specs.Outcome.{walk_outcome, outcome, outcome_of}
use Rattle.session_core.specs.Change.{changed, size_after, CanSet, CanChange}

-- an action of the code, if an answer is written into these bytes
abbrev pub plain_action : List ℕ → State → Action → session.Action
plain_action old s (actions.Say answer change) = says (plain_r answer old) (changed s change [])
plain_action old s (actions.Ask request) = asks (plain_request request)

-- what a function made of a message is what the session does on it: a request, or a refusal that changes nothing
abbrev pub IsRequestOf : State → session.Action → Result Request Denial → Type 0
IsRequestOf s action (Ok request) = action ≡ asks (plain_request request)
IsRequestOf s action (Err denial) = action ≡ refuses (denial_text denial) s

abbrev pub IsActionOf : State → session.Action → Result Action Denial → Type 0
IsActionOf s action (Ok made) = (old : List ℕ) → plain_action old s made ≡ action
IsActionOf s action (Err denial) = action ≡ refuses (denial_text denial) s

-- a reply that can be answered to a message, within the agreed size
abbrev pub IsSuited : State → PlainTMessage → PlainReply → List ℕ → Type 0
IsSuited s message (refused refusal) bytes = ⊤
IsSuited s (t.attach f afid uname aname) (qid q) bytes = CanSet s f
IsSuited s (t.walk f newfid names) (walked qids) bytes = CanSet s newfid
IsSuited s (t.open_fid f mode) (qid q) bytes = CanSet s f
IsSuited s (t.create f name perm mode) (qid q) bytes = CanSet s f
IsSuited s (t.read f offset most) (count n) bytes =
    (n + header_room ≤ limit s) × (length bytes ≡ n) × IfSome (map.get s.fids f) (λ fid. fid.is_dir ≡ true → AreStats n bytes)
IsSuited s (t.write f offset given) (count n) bytes = ⊤
IsSuited s (t.remove f) done bytes = ⊤
IsSuited s (t.stat f) (stat n) bytes = (n ≤ stat_limit) × (length bytes ≡ n)
IsSuited s (t.wstat f c) done bytes = ⊤
IsSuited s message reply bytes = ⊥

-- where the bytes of a reply are in the R-message: a stat's after its n[2], others after their count[4]
abbrev pub bytes_offset : PlainRequest → ℕ
bytes_offset (asked.look n) = READ_OFFSET
bytes_offset (asked.walk n names) = READ_OFFSET
bytes_offset (asked.open_node n mode) = READ_OFFSET
bytes_offset (asked.create n name is_dir mode) = READ_OFFSET
bytes_offset (asked.read n at most) = READ_OFFSET
bytes_offset (asked.list n after most) = READ_OFFSET
bytes_offset (asked.write n at bytes) = READ_OFFSET
bytes_offset (asked.remove n) = READ_OFFSET
bytes_offset (asked.stat_of n) = STAT_OFFSET
bytes_offset (asked.change n c) = READ_OFFSET
bytes_offset (asked.sync n) = READ_OFFSET

-- the bytes of a reply are at their place in an R-message
abbrev pub AreInPlace : PlainTMessage → PlainReply → List ℕ → List ℕ → Type 0
AreInPlace (t.read f offset most) (count n) out bytes = bytes ≡ take n (drop READ_OFFSET out)
AreInPlace (t.stat f) (stat n) out bytes = bytes ≡ take n (drop STAT_OFFSET out)
AreInPlace message reply out bytes = ⊤

-- what an object may be asked; each of its replies can be answered, and its bytes are put to their place
pub record IsAskable (s : State) (message : PlainTMessage) (request : Request) : Type 0 where
  pub can : (n : ℕ) → count_limit ≤ n → CanAsk request n
  pub suited : (reply : PlainReply) (bytes : List ℕ) → IsReplyTo (plain_request request) reply bytes → IsSuited s message reply bytes
  pub in_place : (reply : PlainReply) (bytes out : List ℕ) → IsReplyTo (plain_request request) reply bytes
      → AreInPlace message reply out (bytes_put (plain_request request) reply (drop (bytes_offset (plain_request request)) out))

-- a reply that can be answered with these bytes, which are in a buffer
pub record IsAnswerable (s : State) (message : PlainTMessage) (reply : PlainReply) (out bytes : List ℕ) : Type 0 where
  pub suited : IsSuited s message reply bytes
  pub in_place : AreInPlace message reply out bytes

-- an R-message that has a spelling of at most so many bytes, and a change that can be made if these bytes were read
pub record IsSayable (s : State) (most : ℕ) (answer : RMessage) (change : Change) (bytes : List ℕ) : Type 0 where
  pub form : HasForm answer
  pub size : r_size answer ≤ most
  pub can : CanChange s change bytes

abbrev pub IsFormed : State → PlainTMessage → Action → Type 0
IsFormed s message (actions.Say answer change) = IsSayable s least_message answer change []
IsFormed s message (actions.Ask request) = IsAskable s message request

-- what the code answers to a reply, and changes then, is what the session does
pub record IsOutcome (s : State) (message : PlainTMessage) (reply : PlainReply) (out bytes : List ℕ) (answer : RMessage) (change : Change) : Type 0 where
  pub is : outcome_of s message reply bytes ≡ outcome (plain_r answer out) (changed s change (drop READ_OFFSET out))
  pub sayable : IsSayable s (limit s) answer change (drop READ_OFFSET out)
  pub keeps : size_after s change ≡ s.size

-- and so for all bytes that a reply can have put there
abbrev pub AnswersTo : State → PlainTMessage → PlainReply → RMessage → Change → Type 0
AnswersTo s message reply answer change =
    (out bytes : List ℕ) → IsAnswerable s message reply out bytes → IsOutcome s message reply out bytes answer change

-- a reply that can be answered, whatever bytes it has put
abbrev pub HasSuited : State → PlainTMessage → PlainReply → Type 0
HasSuited s message reply = (bytes : List ℕ) × IsSuited s message reply bytes

-- what a walk along so many names changes, in any session
abbrev pub IsWalkChange : ℕ → ℕ → List Qid → Change → Type 0
IsWalkChange newfid n qids change =
    (s : State) (names : List (List ℕ)) (bytes : List ℕ) → length names ≡ n → CanSet s newfid
    → (changed s change bytes ≡ walk_outcome s newfid names qids) × CanChange s change bytes × (size_after s change ≡ s.size)
