use Rattle.std.proofs.Common.{sym, subst, arith}
use Rattle.session_core.specs.Entries.{Entries, IsStrictlySorted}
use Rattle.session_core.proofs.Place.{sorted_nil}
use Rattle.session_core.proofs.fids.FidTable.new.Goals as goal

pub invariant_of-result : goal.invariant_of-result
invariant_of-result c = record {
  sorted = subst (λ (l : Entries). IsStrictlySorted l) (sym c.in_ok-used.ensures.items) sorted_nil;
  all = omega (arith, c.in_ok-used.ensures.len, c.loop.invariant.0, c.loop-test.false, c.loop.auto.counter-end);
  used_room = c.in_ok-used.ensures.capacity;
  spare_room = c.loop.invariant.1;
}
