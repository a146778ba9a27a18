use Rattle.std.proofs.Common.{true≢false, sym, ◌∙◌}
use Rattle.mem_host.proofs.Pendings.{one_flushed, one_stays}
use Rattle.mem_host.proofs.step.flush_one.Goals as goal

pub returns-then-is_left : goal.returns-then-is_left
returns-then-is_left c = one_flushed c.args.left.now c.args.folder.now (c.is_left.ensures.0 c.if-is_left.true)

pub returns-else-is_left : goal.returns-else-is_left
returns-else-is_left c = one_stays c.args.left.now c.args.folder.now (λ e. true≢false (sym (c.is_left.ensures.1 e) ∙ c.if-is_left.false))
