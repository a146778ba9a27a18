-- The whole talk of a client on a link: what it sent and read, and how it ended.
use Rattle.std.specs.Prelude.{◌≡◌, ◌⊎◌, ℕ, ◌<◌, ◌≤◌, List, [], ◌∷◌, ◌++◌, length, Result, Ok, Err, IfErr, IsErrOf, ⊤}
use Rattle.std.specs.List.{concat, flat_map}
use Rattle.byteorder.specs.Endian.{little_number}
use Rattle.outside.specs.Calls.{Rose, Changes, Extends}
use Rattle.outside.specs.Views.{LinkView}
use Rattle.ninep_wire.specs.TMessage.{PlainMessage, spelled_t}
use Rattle.ninep_wire.specs.Reading.{IsFrame}
use Rattle.sync_client.specs.declared.sync_err.SyncErr.{SyncErr}
use Rattle.sync_client.specs.declared.sync_err.SyncErr.TheVariants as errs
use Rattle.sync_client.specs.Messages.{most_message}
use Rattle.sync_client.specs.Replies.{IsAnswer, IsRefusal}

-- a size that a reply may have
abbrev pub IsSize : ℕ → Type 0
IsSize size = (7 ≤ size) × (size ≤ most_message)

-- the size that a message opens with, once its 4 bytes are there
abbrev pub size_of : List ℕ → ℕ
size_of bytes = little_number 4 bytes

-- less than a whole reply: fewer than 4 bytes, or a good size and fewer bytes than it says
abbrev pub IsPart : List ℕ → Type 0
IsPart bytes = (length bytes < 4) ⊎ ((4 ≤ length bytes) × IsSize (size_of bytes) × (length bytes < size_of bytes))

-- a size that no reply may have, after which nothing was read
pub record IsBadSize (bytes : List ℕ) : Type 0 where
  pub size : length bytes ≡ 4
  pub bad : ¬ IsSize (size_of bytes)

-- a whole message, but neither the one that was asked for nor a refusal
pub record IsOtherMessage (asked : PlainMessage) (bytes : List ℕ) : Type 0 where
  pub framed : IsFrame bytes
  pub fits : length bytes ≤ most_message
  pub no_answer : ¬ IsAnswer asked bytes
  pub no_refusal : ¬ IsRefusal asked bytes

-- the link took a part from the front of a message, and not all of it
pub record IsCutShort (message taken : List ℕ) : Type 0 where
  pub lost : List ℕ
  pub some : 0 < length lost
  pub message_is : message ≡ taken ++ lost

-- how a talk stops at a message, by what was sent of it and read after it
abbrev pub StopsAt : PlainMessage → List ℕ → List ℕ → SyncErr → Type 0
StopsAt asked sent read errs.Refused = (sent ≡ spelled_t asked) × IsRefusal asked read
StopsAt asked sent read errs.NotNinep = (sent ≡ spelled_t asked) × (IsBadSize read ⊎ IsOtherMessage asked read)
StopsAt asked sent read errs.Ended = (sent ≡ spelled_t asked) × IsPart read
StopsAt asked sent read errs.Fault = (IsCutShort (spelled_t asked) sent × (read ≡ [])) ⊎ ((sent ≡ spelled_t asked) × IsPart read)

-- how it ends, by the messages that were not answered: it is done if there are none, or else stops at the first
abbrev pub EndsAt : {U : Type 0} → List PlainMessage → List ℕ → List ℕ → Result U SyncErr → Type 0
EndsAt [] sent read (Ok x) = (sent ≡ []) × (read ≡ [])
EndsAt [] sent read (Err err) = ⊥
EndsAt (asked ∷ others) sent read (Ok x) = ⊥
EndsAt (asked ∷ others) sent read (Err err) = StopsAt asked sent read err

-- each message has its reply, in order
abbrev pub AreAnswered : List PlainMessage → List (List ℕ) → Type 0
AreAnswered [] [] = ⊤
AreAnswered [] (reply ∷ replies) = ⊥
AreAnswered (asked ∷ others) [] = ⊥
AreAnswered (asked ∷ others) (reply ∷ replies) = IsAnswer asked reply × AreAnswered others replies

-- A talk about some messages. Those that were answered come first, and what was sent and read is theirs and what the end says.
pub record Talk {U : Type 0} (messages : List PlainMessage) (sent read : List ℕ) (result : Result U SyncErr) : Type 0 where
  pub answered : List PlainMessage
  pub others : List PlainMessage
  pub messages_are : messages ≡ answered ++ others
  pub replies : List (List ℕ)
  pub each : AreAnswered answered replies
  pub last_sent : List ℕ
  pub sent_is : sent ≡ flat_map spelled_t answered ++ last_sent
  pub last_read : List ℕ
  pub read_is : read ≡ concat replies ++ last_read
  pub ends : EndsAt others last_sent last_read result

-- the input ended only if nothing is left to read
abbrev pub IsReadUp : SyncErr → List ℕ → Type 0
IsReadUp errs.Ended left = left ≡ []
IsReadUp err left = ⊤

-- what was sent and read on a link until a result, of which Said holds; only a fault needs a count that rose
pub record SaidOn {U : Type 0} (Said : List ℕ → List ℕ → Result U SyncErr → Type 0) (before after : LinkView) (result : Result U SyncErr) : Type 0 where
  pub sent : List ℕ
  pub read : List ℕ
  pub said : Said sent read result
  pub sent_is : Extends before.taken after.taken sent
  pub read_is : Changes before.left after.left (λ old new. (old ≡ read ++ new) × IfErr result (λ err. IsReadUp err new))
  pub read_later : before.read_faults ≤ after.read_faults
  pub write_later : before.write_faults ≤ after.write_faults
  pub fault : IsErrOf result errs.Fault → Rose before.read_faults after.read_faults ⊎ Rose before.write_faults after.write_faults

-- a client talked on a link about some messages
abbrev pub HasTalked : {U : Type 0} → List PlainMessage → LinkView → LinkView → Result U SyncErr → Type 0
HasTalked messages before after result = SaidOn (Talk messages) before after result

-- a talk that is done: all messages were sent, and each was answered
pub record IsDone (messages : List PlainMessage) (sent read : List ℕ) : Type 0 where
  pub replies : List (List ℕ)
  pub each : AreAnswered messages replies
  pub sent_is : sent ≡ flat_map spelled_t messages
  pub read_is : read ≡ concat replies

abbrev pub done : Result (Unit {0}) SyncErr
done = Ok tt

abbrev pub DoneIsAnswered : Type 0
DoneIsAnswered = (messages : List PlainMessage) (sent read : List ℕ) → Talk messages sent read done → IsDone messages sent read
