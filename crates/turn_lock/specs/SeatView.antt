-- A seat and a lock as contracts see them.
use Rattle.std.specs.Prelude.{ℕ, Bool, List, Option}
use Rattle.atomic_table.specs.Seated.{TableId}
use Rattle.turn_lock.specs.declared.history.Ended.{Ended}

-- `ticket` is the one that it holds: in a turn, or from 2 ^ 62 on; `drawn` counts all that it drew, `seen` are the turns that it has seen
pub record SeatView (E : Type 0) : Type 0 where
  pub lock : TableId
  pub number : ℕ
  pub ticket : Option ℕ
  pub in_turn : Bool
  pub drawn : ℕ
  pub seen : List (Ended E)

-- which lock it is, and how many seats were made for it
pub record LockView : Type 0 where
  pub id : TableId
  pub seats : ℕ
