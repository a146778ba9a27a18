use Rattle.std.proofs.Common.{sym, ap, subst, ◌∙◌}
use Rattle.deeds.specs.Deeds.{in_order}
use Rattle.deeds.specs.Grammar.{IsBatch}
use Rattle.deeds.specs.Repeatable.{IsRepeatable}
use Rattle.pending_files.proofs.Batched.{is_batch, is_repeatable}
use Rattle.pending_files.proofs.Doing.{order_is}
use Rattle.deeds.specs.Plain.{plains}
use Rattle.pending_files.proofs.pending.Pending.deeds.Goals as goal

pub returns-clause-batch : goal.returns-clause-batch
returns-clause-batch c = subst IsBatch c.self.view_is (is_batch (plains c.self.inside.deeds.items) c.self.invariant.pending)

pub returns-clause-repeatable : goal.returns-clause-repeatable
returns-clause-repeatable c = subst IsRepeatable c.self.view_is (is_repeatable (plains c.self.inside.deeds.items) c.self.invariant.pending)

pub returns-clause-order : goal.returns-clause-order
returns-clause-order c = ap in_order (sym c.self.view_is) ∙ order_is (plains c.self.inside.deeds.items) c.self.invariant.pending.each ∙ c.self.view_is
