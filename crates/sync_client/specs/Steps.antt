-- One message and its reply, and where the reading and writing of them stop.
use Rattle.std.specs.Prelude.{◌≡◌, ℕ, ◌<◌, List, ◌++◌, length, Option, Result, Ok, Err}
use Rattle.outside.specs.Calls.{Changes, Extends}
use Rattle.outside.specs.Views.{LinkView}
use Rattle.ninep_wire.specs.TMessage.{PlainMessage, spelled_t}
use Rattle.sync_client.specs.declared.sync_err.SyncErr.{SyncErr}
use Rattle.sync_client.specs.declared.sync_err.SyncErr.TheVariants as errs
use Rattle.sync_client.specs.declared.question.Question.{Question}
use Rattle.sync_client.specs.declared.question.Question.TheVariants as questions
use Rattle.sync_client.specs.Messages.{version_message, attach_message, sync_message}
use Rattle.sync_client.specs.Replies.{IsAnswer}
use Rattle.sync_client.specs.Talk.{IsPart, IsBadSize, IsCutShort, StopsAt, IsReadUp, SaidOn}

-- the message of a question
abbrev pub message_of : Question → PlainMessage
message_of questions.Version = version_message
message_of questions.Attach = attach_message
message_of questions.Sync = sync_message

-- these bytes were read before it stopped, and Stop says of them and the error why
pub record StopsReading (Stop : List ℕ → SyncErr → Type 0) (left left' : Option (List ℕ)) (err : SyncErr) : Type 0 where
  pub part : List ℕ
  pub read : Changes left left' (λ old new. (old ≡ part ++ new) × IsReadUp err new)
  pub stop : Stop part err

-- fewer bytes than n were read, as the input ended or the link failed
abbrev pub IsShort : ℕ → List ℕ → SyncErr → Type 0
IsShort n part errs.Ended = length part < n
IsShort n part errs.Fault = length part < n
IsShort n part err = ⊥

-- how the reading of a reply stops
abbrev pub IsNoReply : List ℕ → SyncErr → Type 0
IsNoReply part errs.Ended = IsPart part
IsNoReply part errs.Fault = IsPart part
IsNoReply part errs.NotNinep = IsBadSize part
IsNoReply part errs.Refused = ⊥

-- a part of a message was written
pub record WritesPart (message : List ℕ) (taken taken' : Option (List ℕ)) : Type 0 where
  pub part : List ℕ
  pub cut : IsCutShort message part
  pub wrote : Extends taken taken' part

-- what was sent and read for one message: it and its answer, or where that stopped
abbrev pub Asks : {U : Type 0} → PlainMessage → List ℕ → List ℕ → Result U SyncErr → Type 0
Asks asked sent read (Ok done) = (sent ≡ spelled_t asked) × IsAnswer asked read
Asks asked sent read (Err err) = StopsAt asked sent read err

abbrev pub HasAsked : {U : Type 0} → PlainMessage → LinkView → LinkView → Result U SyncErr → Type 0
HasAsked asked before after result = SaidOn (Asks asked) before after result
