-- Messages that a session takes whatever size was agreed.
use Rattle.std.specs.Prelude.{ℕ, ◌+◌, ◌*◌, ◌≤◌, List, length}
use Rattle.std.specs.List.{AllByRecursion}
use Rattle.ninep_wire.specs.TMessage.{PlainMessage, IsMessage, spelled_t}
use Rattle.ninep_wire.specs.Reading.{IsFrame}

-- a message that has a spelling, of at most 2,048 bytes: no session agrees to a smaller size
pub record IsSmall (m : PlainMessage) : Type 0 where
  pub message : IsMessage m
  pub framed : IsFrame (spelled_t m)
  pub fits : length (spelled_t m) ≤ 2048

-- at most four messages a request besides two, each of them small
pub record AreSmall (requests : ℕ) (messages : List PlainMessage) : Type 0 where
  pub few : length messages ≤ 4 * requests + 2
  pub each : AllByRecursion IsSmall messages
