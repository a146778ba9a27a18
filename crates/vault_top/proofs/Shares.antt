-- Shares of which more may have kept a worker.
use Rattle.std.proofs.Common.{ℕ, suc, List, [], ◌∷◌, Result, Ok, Err}
use Rattle.std.specs.Prelude.{IsErr, OnErr}
use Rattle.outside.specs.declared.stream.Failed.{Failed}
use Rattle.outside.specs.Views.{LinkView}
use Rattle.session_server.specs.declared.counts.SessionCounts.{SessionCounts}
use Rattle.session_server.proofs.Sharing.{gave_as}
use Rattle.session_server.specs.Workers.{MayStop, ListenerFailed}
use Rattle.vault_top.specs.Span.{WorkerSpan}
use Rattle.vault_top.specs.Served.{Share, AreShares}

pub shares_as : {C : Type 0} (link : C → LinkView) (P Q : WorkerSpan C → Type 0) (n m j : ℕ) (workers : List (WorkerSpan C)) (shares : List (Share C)) → ((worker : WorkerSpan C) → P worker → Q worker)
    → AreShares link P n m j workers shares → AreShares link Q n m j workers shares
shares_as link P Q n m j [] [] only h = tt
shares_as link P Q n m j [] (share ∷ shares) only h = absurd h
shares_as link P Q n m j (worker ∷ workers) [] only h = absurd h
shares_as link P Q n m j (worker ∷ workers) (share ∷ shares) only h = (
  record {
    gave = gave_as _ (P worker) (Q worker) worker.listener.before worker.listener.after share.links (only worker) h.0.gave;
    talked = h.0.talked;
  },
  shares_as link P Q n m (suc j) workers shares only h.1,
)

-- whatever kept a worker from its share, its listener failed
pub may_stop : {C : Type 0} (counts : Result SessionCounts Failed) (worker : WorkerSpan C) → MayStop counts worker → ListenerFailed worker
may_stop (Ok c) worker h = absurd h
may_stop (Err f) worker h = h

pub on_error : (counts : Result SessionCounts Failed) (P : Type 0) → IsErr counts → OnErr counts P → P
on_error (Ok c) P is h = absurd cc
on_error (Err f) P is h = h
