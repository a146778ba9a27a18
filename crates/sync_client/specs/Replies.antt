-- The replies to a client's messages (version(5), attach(5), stat(5), error(5)).
use Rattle.std.specs.Prelude.{◌≡◌, ℕ, ◌≤◌, List, ◌++◌, length, ⊤}
use Rattle.tree_model.specs.Wire.{number, string, IsString}
use Rattle.ninep_wire.specs.TMessage as t
use Rattle.ninep_wire.specs.TMessage.{PlainTMessage, PlainMessage, spelled_t}
use Rattle.ninep_wire.specs.RMessage as r
use Rattle.ninep_wire.specs.RMessage.{PlainRMessage, spelled_r, IsRMessage}
use Rattle.sync_client.specs.Messages.{sync_message, protocol, most_message}

-- the bytes of the longest of the client's messages
abbrev pub longest : ℕ
longest = length (spelled_t sync_message)

-- a version is agreed to by the same protocol, and a size that is no larger (version(5)) and in which the messages after it have room
pub record Agrees (msize : ℕ) (text : List ℕ) (agreed : ℕ) (agreed_text : List ℕ) : Type 0 where
  pub no_larger : agreed ≤ msize
  pub room : longest ≤ agreed
  pub same : agreed_text ≡ text

-- the reply that a message asks for
abbrev pub Answers : PlainTMessage → PlainRMessage → Type 0
Answers (t.version msize text) (r.version agreed agreed_text) = Agrees msize text agreed agreed_text
Answers (t.attach fid afid uname aname) (r.attach root) = ⊤
Answers (t.wstat fid change) r.wstat = ⊤
Answers message reply = ⊥

-- bytes are this reply to a message, with its tag
pub record IsReply (asked : PlainMessage) (reply : PlainRMessage) (bytes : List ℕ) : Type 0 where
  pub formed : IsRMessage asked.tag reply
  pub spelled : bytes ≡ spelled_r asked.tag reply

-- bytes are the reply that a message asks for
pub record IsAnswer (asked : PlainMessage) (bytes : List ℕ) : Type 0 where
  pub reply : PlainRMessage
  pub is : IsReply asked reply bytes
  pub answers : Answers asked.body reply

-- bytes refuse a message
pub record IsRefusal (asked : PlainMessage) (bytes : List ℕ) : Type 0 where
  pub text : List ℕ
  pub is : IsReply asked (r.error text) bytes

-- ---- fields of replies

-- those of a version's reply that the client can use
pub record IsAgreement (fields : List ℕ) : Type 0 where
  pub agreed : ℕ
  pub low : longest ≤ agreed
  pub high : agreed ≤ most_message
  pub spelled : fields ≡ number 4 agreed ++ string protocol

-- the bytes of those of an Rattach: one qid's (intro(5))
abbrev pub qid_size : ℕ
qid_size = 13

-- those of an Rerror
pub record IsText (fields : List ℕ) : Type 0 where
  pub text : List ℕ
  pub formed : IsString text
  pub spelled : fields ≡ string text
