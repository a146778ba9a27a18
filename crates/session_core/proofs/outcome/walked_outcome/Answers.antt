use Rattle.std.proofs.Common.{subst, arith}
use Rattle.ninep_wire.specs.declared.t_message.TMessage.{TMessage}
use Rattle.ninep_wire.specs.Plain.{HasNames}
use Rattle.session_core.proofs.Walks.{walk_answered}
use Rattle.session_core.proofs.outcome.walked_outcome.Goals as goal

pub returns : goal.returns
returns c =
    let walk = subst (λ (m : TMessage). HasNames m) c.in-Walk.is c.requires.names in
    rw c.in-Walk.is (walk_answered c.args.session.now c.in-Walk.fid c.in-Walk.newfid c.in-Walk.names c.args.count _ c.walk_change-change.result c.requires.good walk c.requires.count (omega (arith, c.told-qids, c.requires.count)) c.walk_change-change.ensures)
