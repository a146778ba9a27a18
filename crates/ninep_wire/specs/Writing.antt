-- What an R-message and a stat need to be written, and what a write leaves.
use Rattle.std.specs.Prelude.{◌≡◌, ℕ, ◌+◌, ◌*◌, ◌<◌, ◌≤◌, ◌^◌, List, ◌++◌, length, take, drop, ⊤}
use Rattle.tree_model.specs.declared.stat.Stat.{Stat}
use Rattle.tree_model.specs.Names.{walk_limit}
use Rattle.ninep_wire.specs.declared.r_message.RMessage.{RMessage}
use Rattle.ninep_wire.specs.declared.r_message.RMessage.TheVariants as messages

-- an R-message that has a spelling: a text below 2^16 bytes, at most walk_limit qids, a size below 2^32
abbrev pub HasForm : RMessage → Type 0
HasForm (messages.Version msize text) = length text.now < 2 ^ 16
HasForm (messages.Error text) = length text.now < 2 ^ 16
HasForm (messages.Walk count qids) = (count ≤ walk_limit) × (count ≤ length qids.now)
HasForm (messages.Read count) = count + 11 < 2 ^ 32
HasForm message = ⊤

-- how many bytes an R-message has
abbrev pub r_size : RMessage → ℕ
r_size (messages.Version msize text) = 13 + length text.now
r_size (messages.Attach q) = 20
r_size (messages.Error text) = 9 + length text.now
r_size messages.Flush = 7
r_size (messages.Walk count qids) = 9 + 13 * count
r_size (messages.Open q iounit) = 24
r_size (messages.Create q iounit) = 24
r_size (messages.Read count) = 11 + count
r_size (messages.Write count) = 11
r_size messages.Clunk = 7
r_size messages.Remove = 7
r_size (messages.Stat count) = 9 + count
r_size messages.Wstat = 7

-- how many bytes a stat has after its size
abbrev pub stat_size : Stat → ℕ
stat_size s = 47 + length s.name.now + length s.owner.now + length s.group.now + length s.modifier.now

-- new is old with the text in place of the bytes from one place up to another
pub record Wrote (old new : List ℕ) (from to : ℕ) (text : List ℕ) : Type 0 where
  pub end : to ≡ from + length text
  pub fits : to ≤ length old
  pub is : new ≡ take from old ++ text ++ drop to old
