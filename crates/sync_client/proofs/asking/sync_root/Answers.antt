use Rattle.std.proofs.lemmas.Result.{err_from_is_err_and}
use Rattle.sync_client.proofs.Talks.{stopped, went_on, came_last}
use Rattle.sync_client.proofs.asking.sync_root.Goals as goal

pub returns-in_err-ask : goal.returns-in_err-ask
returns-in_err-ask g c =
    let p = err_from_is_err_and c.from_residual.result c.from_residual.ensures.1 in
    rw (p.1, p.2) (stopped _ _ _ _ _ c.in_err-ask.ensures)

pub returns-in_err-ask-2 : goal.returns-in_err-ask-2
returns-in_err-ask-2 g c =
    let p = err_from_is_err_and c.from_residual-in_err-ask-2.result c.from_residual-in_err-ask-2.ensures.1 in
    rw (p.1, p.2) (went_on _ _ _ _ _ _ _ c.in_ok-ask.ensures (stopped _ _ _ _ _ c.in_err-ask-2.ensures))

pub returns : goal.returns
returns g c = went_on _ _ _ _ _ _ _ c.in_ok-ask.ensures (went_on _ _ _ _ _ _ _ c.in_ok-ask-2.ensures (came_last _ _ _ _ c.ask-3.ensures))
