use Rattle.std.proofs.Common.{◌≡◌, ◌++◌}
use Rattle.std.specs.Vec.Iter.{into_iter_items}
use Rattle.journal_mending.proofs.Orders.{AreSorted}
use Rattle.journal_mending.proofs.order.in_order.Given as goal

abbrev pub invariant-loop-deed : goal.invariant-loop-deed
invariant-loop-deed l = record {
  split : l.yielded ++ into_iter_items l.deed-iterator ≡ l.fn.deeds.items;
  sorted : AreSorted l.yielded l.makes.items l.moves.items l.removes.items;
}
