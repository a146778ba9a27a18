use Rattle.std.proofs.Common.{◌≡◌, ◌++◌}
use Rattle.journal_mending.proofs.order.add_all.Given as goal

abbrev pub invariant-loop-deed : goal.invariant-loop-deed
invariant-loop-deed l = l.to.items ≡ l.fn.to.items ++ l.yielded
