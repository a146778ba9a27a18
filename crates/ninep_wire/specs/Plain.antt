-- Messages, leaving out where their names and bytes lie in memory.
use Rattle.std.specs.Prelude.{ℕ, List, take, drop, ⊤}
use Rattle.tree_model.specs.Asked.{plain_change}
use Rattle.tree_model.specs.Names.{names_in, IsWalk}
use Rattle.ninep_wire.specs.declared.t_message.TMessage.{TMessage}
use Rattle.ninep_wire.specs.declared.t_message.TMessage.TheVariants as sent
use Rattle.ninep_wire.specs.declared.t_message.Message.{Message}
use Rattle.ninep_wire.specs.declared.r_message.RMessage.{RMessage}
use Rattle.ninep_wire.specs.declared.r_message.RMessage.TheVariants as answered
use Rattle.ninep_wire.specs.TMessage as t
use Rattle.ninep_wire.specs.TMessage.{PlainTMessage, PlainMessage}
use Rattle.ninep_wire.specs.RMessage as r
use Rattle.ninep_wire.specs.RMessage.{PlainRMessage}

abbrev pub plain_t : TMessage → PlainTMessage
plain_t (sent.Version msize text) = t.version msize text.now
plain_t (sent.Auth afid uname aname) = t.auth afid uname.now aname.now
plain_t (sent.Attach fid afid uname aname) = t.attach fid afid uname.now aname.now
plain_t (sent.Flush oldtag) = t.flush oldtag
plain_t (sent.Walk fid newfid names) = t.walk fid newfid (names_in names.count names.bytes.now)
plain_t (sent.Open fid mode) = t.open_fid fid mode
plain_t (sent.Create fid name perm mode) = t.create fid name.now perm mode
plain_t (sent.Read fid offset count) = t.read fid offset count
plain_t (sent.Write fid offset bytes) = t.write fid offset bytes.now
plain_t (sent.Clunk fid) = t.clunk fid
plain_t (sent.Remove fid) = t.remove fid
plain_t (sent.Stat fid) = t.stat fid
plain_t (sent.Wstat fid change) = t.wstat fid (plain_change change)

abbrev pub plain_message : Message → PlainMessage
plain_message m = record { tag = m.tag; body = plain_t m.body }

-- the names of a walk have the form that a request wants
abbrev pub HasNames : TMessage → Type 0
HasNames (sent.Walk fid newfid names) = IsWalk names.count names.bytes.now
HasNames message = ⊤

-- an R-message that is written into these bytes: those of a read and of a stat are in them already
abbrev pub plain_r : RMessage → List ℕ → PlainRMessage
plain_r (answered.Version msize text) old = r.version msize text.now
plain_r (answered.Attach q) old = r.attach q
plain_r (answered.Error text) old = r.error text.now
plain_r answered.Flush old = r.flush
plain_r (answered.Walk count qids) old = r.walk (take count qids.now)
plain_r (answered.Open q iounit) old = r.open_fid q iounit
plain_r (answered.Create q iounit) old = r.create q iounit
plain_r (answered.Read count) old = r.read (take count (drop 11 old))
plain_r (answered.Write count) old = r.write count
plain_r answered.Clunk old = r.clunk
plain_r answered.Remove old = r.remove
plain_r (answered.Stat count) old = r.stat (take count (drop 9 old))
plain_r answered.Wstat old = r.wstat
