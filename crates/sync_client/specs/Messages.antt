-- The messages of a client that asks for one sync, in order (section 5 of the Plan 9 manual).
use Rattle.std.specs.Prelude.{ℕ, List, [], ◌∷◌, None, codes}
use Rattle.tree_model.specs.Asked.{PlainChange}
use Rattle.ninep_wire.specs.TMessage.{PlainMessage, version, attach, wstat}

-- the protocol (version(5))
abbrev pub protocol : List ℕ
protocol = codes "9P2000"

-- the tag of a version message: none (NOTAG, version(5))
abbrev pub no_tag : ℕ
no_tag = 0xFFFF

-- the tag of the others, each of which waits for the reply to the one before
abbrev pub one_tag : ℕ
one_tag = 1

-- the fid that the root is attached to, and no fid (NOFID, attach(5))
abbrev pub root_fid : ℕ
root_fid = 0

abbrev pub no_fid : ℕ
no_fid = 0xFFFFFFFF

-- the most bytes of a message that the client takes
abbrev pub most_message : ℕ
most_message = 8192

-- a stat that touches nothing: a wstat by it asks that the contents be on stable storage before the reply (stat(5))
abbrev pub untouched : PlainChange
untouched = record {
  kind = None;
  device = None;
  qid = None;
  mode = None;
  accessed = None;
  modified = None;
  length = None;
  name = None;
  owner = None;
  group = None;
  modifier = None;
}

-- a session begins by a version
abbrev pub version_message : PlainMessage
version_message = record { tag = no_tag; body = version most_message protocol }

-- the root is attached, without authentication
abbrev pub attach_message : PlainMessage
attach_message = record { tag = one_tag; body = attach root_fid no_fid (codes "vault") [] }

-- its stat is written, and touches nothing
abbrev pub sync_message : PlainMessage
sync_message = record { tag = one_tag; body = wstat root_fid untouched }

abbrev pub sync_messages : List PlainMessage
sync_messages = version_message ∷ attach_message ∷ sync_message ∷ []
