use Rattle.std.proofs.Common.{true≢false, sym, ap, ◌∙◌, [], ◌∷◌}
use Rattle.outside.specs.Disk.{Path}
use Rattle.mem_host.proofs.Pendings.{one_lost, one_there}
use Rattle.mem_host.proofs.step.lose_one.Goals as goal

pub returns-then-is_left : goal.returns-then-is_left
returns-then-is_left c = ap (λ (q : Path). q ∷ []) c.parent.ensures ∙ one_lost c.args.left.now c.args.folder.now (c.is_left.ensures.0 c.if-is_left.true)

pub returns-else-is_left : goal.returns-else-is_left
returns-else-is_left c = one_there c.args.left.now c.args.folder.now (λ e. true≢false (sym (c.is_left.ensures.1 e) ∙ c.if-is_left.false))
