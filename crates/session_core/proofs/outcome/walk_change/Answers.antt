use Rattle.std.proofs.Common.{arith, ◌∙◌}
use Rattle.session_core.proofs.Walks.{walked_all}
use Rattle.session_core.proofs.outcome.walk_change.Goals as goal

pub returns : goal.returns
returns c =
    walked_all c.args.newfid c.args.names c.args.count c.args.qids.now _ c.closed_at.result c.if-count-eq0.false (c.if-count-from.false ∙ c.from.ensures) (omega (arith, c.told-qids, c.requires)) c.closed_at.ensures
