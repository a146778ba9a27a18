use Rattle.std.proofs.Common.{◌≡◌, ℕ, suc, ◌≤◌, [], vec_capacity}
use Rattle.turn_lock.specs.Views.{maker}
use Rattle.turn_lock.specs.Seats.{new_seats}
use Rattle.turn_lock.proofs.turnstile.Turnstile.fill.Given as goal

abbrev pub invariant-loop-made : goal.invariant-loop-made
invariant-loop-made g l = record {
  lock : l.first.table_id ≡ l.initial.first.table_id;
  makes : l.first.me ≡ (maker l.seats l.made, []);
  count : ℕ;
  made : l.made ≡ suc count;
  new : l.all.items ≡ new_seats l.initial.first.table_id 1 count;
  room : l.seats ≤ vec_capacity l.all;
}
