-- One history of all that workers' sessions asked of a shared tree.
use Rattle.std.specs.Prelude.{◌≡◌, ◌⊎◌, ℕ, ◌+◌, ◌*◌, ◌<◌, ◌≤◌, List, [], ◌∷◌, length, map, flat_map, Option, Result, IfOk, OnErr, ⊤}
use Rattle.outside.specs.declared.stream.Failed.{Failed}
use Rattle.outside.specs.Views.{ListenerView, EntropyView, LinkView}
use Rattle.tree_model.specs.Asked.{Asked, entered}
use Rattle.tree_model.specs.Rows.{Rows}
use Rattle.tree_model.specs.History.{Made, Entry, Origin, entries_of, tally_of}
use Rattle.turn_lock.specs.Limits.{turn_limit}
use Rattle.turn_lock.specs.SeatView.{SeatView}
use Rattle.session_server.specs.declared.counts.SessionCounts.{SessionCounts}
use Rattle.session_server.specs.declared.crew.Crew.{Crew}
use Rattle.session_server.specs.Ends.{AreCounts}
use Rattle.session_server.specs.Shares.{WorkerSpan, Share, AreShares, all_ends}
use Rattle.session_server.specs.Workers.{MayStop, SomeFailed, HaveServed}
use Rattle.shared_tree.specs.Limits.{most_tickets}
use Rattle.shared_tree.specs.Clients.{ClientView, AreDrawnFor, HasAsked}
use Rattle.shared_tree.specs.Workers.{AreCrewsOf, AreReady, worker_spans}
use Rattle.shared_tree.specs.declared.workers.Worker.{Worker}

-- no random source of workers, from number j on, has fewer faults than where the history begins
abbrev pub AreSince : {N E K : Type 0} → (E → ℕ) → Origin → ℕ → List (Worker N E K) → Type 0
AreSince faults_of origin j [] = ⊤
AreSince faults_of origin j (worker ∷ workers) = (origin.entropy_faults j ≤ faults_of worker.entropy) × AreSince faults_of origin (j + 1) workers

-- what caller j has in a history: what was asked in its worker's share, in order, but for requests for which no turn was left; for which its
-- random source gave what was drawn, and has no fewer faults than they record
pub record IsCaller {C : Type 0} (draws : Option (List ℕ) → Option (List ℕ) → Made → Type 0) (origin : Origin) (entries : List Entry) (j : ℕ) (worker : WorkerSpan C) (share : Share C) : Type 0 where
  pub asked : map (λ entry. entry.made.asked) (entries_of j entries) ≡ entered share.asked
  pub drawn : AreDrawnFor draws worker.entropy.before worker.entropy.after (map (λ entry. entry.made) (entries_of j entries))
  pub faults : (tally_of origin entries).entropy_faults j ≤ worker.entropy.after.faults

-- the callers from number j on, each with its worker and its share
abbrev pub AreCallers : {C : Type 0} → (Option (List ℕ) → Option (List ℕ) → Made → Type 0) → Origin → List Entry → ℕ → List (WorkerSpan C) → List (Share C) → Type 0
AreCallers draws origin entries j [] [] = ⊤
AreCallers draws origin entries j (worker ∷ workers) (share ∷ shares) = IsCaller draws origin entries j worker share × AreCallers draws origin entries (j + 1) workers shares
AreCallers draws origin entries j workers shares = ⊥

-- all that was asked, worker after worker
abbrev pub all_asked : {C : Type 0} → List (Share C) → List Asked
all_asked shares = flat_map (λ share. share.asked) shares

-- All workers are back. Each served its share of the sessions, by its clock, and their ends were counted, or some listener failed. The tree stands for one history, in which
-- each caller has what was asked in its worker's share, and nobody else has anything. A request has no turn left only if the most tickets that all requests
-- may take are more than there are turns.
pub record IsJoined {T N E K C : Type 0} (stands : T → Rows → Origin → List Entry → Type 0) (draws : Option (List ℕ) → Option (List ℕ) → Made → Type 0) (listener : N → ListenerView C) (entropy : E → EntropyView) (link : C → LinkView) (clock : K → Option (ℕ → ℕ))
    (sessions at_once : ℕ) (rows : Rows) (origin : Origin) (tree : T) (olds news : List (Worker N E K)) (counts : Result SessionCounts Failed) : Type 0 where
  pub count : length news ≡ length olds
  pub entries : List Entry
  pub right : stands tree rows origin entries
  pub shares : List (Share C)
  pub are : AreShares link (MayStop counts) sessions at_once 0 (worker_spans listener entropy clock olds news) shares
  pub counted : IfOk counts (λ c. AreCounts c (all_ends shares))
  pub failed : OnErr counts (SomeFailed (worker_spans listener entropy clock olds news))
  pub callers : AreCallers draws origin entries 0 (worker_spans listener entropy clock olds news) shares
  pub no_others : (j : ℕ) → length olds ≤ j → entries_of j entries ≡ []
  pub in_time : (entered (all_asked shares) ≡ all_asked shares) ⊎ (turn_limit < most_tickets * length (all_asked shares))

-- seats and workers were made crews of, the crews served, and their seats and workers are back
pub record HaveWorked {N E K C : Type 0} (start : Rows → Origin → Type 0) (draws : Option (List ℕ) → Option (List ℕ) → Made → Type 0) (listener : N → ListenerView C) (entropy : E → EntropyView) (link : C → LinkView) (clock : K → Option (ℕ → ℕ))
    (sessions at_once : ℕ) (seats : List (SeatView Made)) (olds : List (Worker N E K)) (seats' : List (SeatView Made)) (news : List (Worker N E K)) (counts : Result SessionCounts Failed) : Type 0 where
  pub crews : List (Crew N (ClientView E) K)
  pub after : List (Crew N (ClientView E) K)
  pub hired : AreCrewsOf seats olds crews
  pub served : HaveServed (λ now start asked. HasAsked draws entropy start now asked) listener link clock sessions at_once crews after counts
  pub dismissed : AreCrewsOf seats' news after
  pub ready : AreReady start (λ e. (entropy e).faults) seats' news
