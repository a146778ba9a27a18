use Rattle.std.proofs.Common.{◌≡◌, List, None, length}
use Rattle.std.specs.List.{All}
use Rattle.turn_lock.specs.declared.rule.View.{View}
use Rattle.turn_lock.specs.Steps.{IsResting}
use Rattle.turn_lock.specs.Seats.{IsIdle}
use Rattle.turn_lock.proofs.SeatLists.{AreGathered}
use Rattle.turn_lock.proofs.turnstile.Turnstile.gather.Given as goal

abbrev pub invariant-loop-seat : goal.invariant-loop-seat
invariant-loop-seat g l = record {
  lock : l.all.table_id ≡ l.self.table.shared.table_id;
  rests : IsResting l.all.me;
  nameless : l.all.me.0.number ≡ None;
  idle : All (IsIdle l.self.table.shared.table_id) l.seats.items;
  knows : (ws : List (View g.row.V-Entry.Denot)) × AreGathered l.self.table.shared.table_id l.fn.seats.items l.seats.items l.all.me.0 ws;
}

abbrev pub decreases-loop-seat : goal.decreases-loop-seat
decreases-loop-seat g l = length l.seats.items
