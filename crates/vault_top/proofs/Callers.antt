-- What each caller has in the one history of all workers' sessions.
use Rattle.std.proofs.Common.{◌≡◌, ℕ, zero, suc, ◌+◌, ◌≤◌, Bool, true, false, eqb, cond, List, [], ◌∷◌, length, map, Result, refl, sym, ap, subst, ◌∙◌, arith}
use Rattle.outside.specs.declared.stream.Failed.{Failed}
use Rattle.outside.specs.Views.{LinkView}
use Rattle.tree_model.specs.Rows.{Rows}
use Rattle.tree_model.specs.Asked.{entered}
use Rattle.tree_model.specs.History.{Entry, entries_of, Tally, next, after, Origin, tally_at, tally_of}
use Rattle.session_server.specs.declared.counts.SessionCounts.{SessionCounts}
use Rattle.session_server.specs.Workers.{MayStop}
use Rattle.session_server.specs.Timed.{IsTimed}
use Rattle.session_server.proofs.Timed.{timed_on_each, timed_entered}
use Rattle.shared_tree.specs.Clients.{AreDrawnFor}
use Rattle.shared_tree.specs.Joined.{AreSince, AreCallers, IsJoined}
use Rattle.shared_tree.specs.declared.workers.Worker.{Worker}
use Rattle.vault_top.specs.Span.{Views, WorkerSpan, worker_spans}
use Rattle.store_laws.specs.Turns.{draws_for}
use Rattle.vault_top.specs.Served.{Share, AreShares, AreAllDrawn, AreAllTimed, asked_by, entropy_before, entropy_after}

-- ---- one caller

eqb_sym : (m n : ℕ) → eqb m n ≡ eqb n m
eqb_sym m n = grind arith

not_own : (j : ℕ) (entry : Entry) (entries : List Entry) (own : Bool) → eqb entry.caller j ≡ own → entries_of j (entry ∷ entries) ≡ [] → (eqb entry.caller j ≡ false) × (entries_of j entries ≡ [])
not_own j entry entries true is none =
    let e : entry ∷ entries_of j entries ≡ [] = sym (ap (λ (b : Bool). cond b (entry ∷ entries_of j entries) (entries_of j entries)) is) ∙ none in absurd cc
not_own j entry entries false is none = (is, sym (ap (λ (b : Bool). cond b (entry ∷ entries_of j entries) (entries_of j entries)) is) ∙ none)

-- the random source of one who has no entries is where it was
faults_stay : (j : ℕ) (tally : Tally) (entries : List Entry) → entries_of j entries ≡ [] → (after tally entries).entropy_faults j ≡ tally.entropy_faults j
faults_stay j tally [] none = refl
faults_stay j tally (entry ∷ entries) none =
    let other = not_own j entry entries (eqb entry.caller j) refl none in
    faults_stay j (next tally entry) entries other.1 ∙ ap (λ (b : Bool). cond b entry.made.entropy.after (tally.entropy_faults j)) (eqb_sym j entry.caller ∙ other.0)

-- ---- all callers

module _ {C : Type 0} (origin : Origin) (entries : List Entry) where
  -- each one's random source gave what its entries drew
  all_drawn : (k n : ℕ) (workers : List (WorkerSpan C)) (shares : List (Share C)) → k ≡ n → AreCallers draws_for origin entries k workers shares → AreAllDrawn entries n workers
  all_drawn k n [] shares same h = tt
  all_drawn k n (worker ∷ workers) [] same h = absurd h
  all_drawn k n (worker ∷ workers) (share ∷ shares) same h = (
    subst (λ (m : ℕ). AreDrawnFor draws_for worker.entropy.before worker.entropy.after (map (λ entry. entry.made) (entries_of m entries))) same h.0.drawn,
    all_drawn (k + 1) (suc n) workers shares (omega arith) h.1,
  )

  -- and its requests were made at seconds that its clock gave
  all_timed : (link : C → LinkView) (MayStop : WorkerSpan C → Type 0) (sessions sharing k n : ℕ) (workers : List (WorkerSpan C)) (shares : List (Share C)) → k ≡ n → AreShares link MayStop sessions sharing n workers shares
      → AreCallers draws_for origin entries k workers shares → AreAllTimed entries n workers
  all_timed link MayStop sessions sharing k n [] shares same are h = tt
  all_timed link MayStop sessions sharing k n (worker ∷ workers) [] same are h = absurd h
  all_timed link MayStop sessions sharing k n (worker ∷ workers) (share ∷ shares) same are h =
      let own : map (λ (entry : Entry). entry.made.asked) (entries_of n entries) ≡ entered share.asked = subst (λ (m : ℕ). map (λ (entry : Entry). entry.made.asked) (entries_of m entries) ≡ entered share.asked) same h.0.asked in
      let timed = timed_entered worker.clock.before worker.clock.after share.asked (timed_on_each link worker.clock.before worker.clock.after share.links share.asked are.0.talked) in (
        subst (IsTimed worker.clock.before worker.clock.after) (sym own) timed,
        all_timed link MayStop sessions sharing (k + 1) (suc n) workers shares (omega arith) are.1 h.1,
      )

  -- what the caller of a number was asked, if none past the last was asked anything
  callers_at : (n k i : ℕ) (workers : List (WorkerSpan C)) (shares : List (Share C)) → n ≡ k + i → AreCallers draws_for origin entries k workers shares
      → ((j : ℕ) → k + length workers ≤ j → entries_of j entries ≡ []) → map (λ entry. entry.made.asked) (entries_of n entries) ≡ entered (asked_by shares i)
  callers_at n k i [] [] is h none = ap (λ (es : List Entry). map (λ entry. entry.made.asked) es) (none n (omega arith))
  callers_at n k i [] (share ∷ shares) is h none = absurd h
  callers_at n k i (worker ∷ workers) [] is h none = absurd h
  callers_at n k zero (worker ∷ workers) (share ∷ shares) is h none =
      let e : n ≡ k = omega arith in ap (λ (m : ℕ). map (λ (entry : Entry). entry.made.asked) (entries_of m entries)) e ∙ h.0.asked
  callers_at n k (suc i) (worker ∷ workers) (share ∷ shares) is h none = callers_at n (k + 1) i workers shares (omega arith) h.1 (λ j past. none j (omega arith))

  -- the faults of its random source, if past the last there are none
  faults_at : (n k i : ℕ) (workers : List (WorkerSpan C)) (shares : List (Share C)) → n ≡ k + i → AreCallers draws_for origin entries k workers shares
      → ((j : ℕ) → k + length workers ≤ j → (tally_of origin entries).entropy_faults j ≤ 0) → (tally_of origin entries).entropy_faults n ≤ entropy_after workers i
  faults_at n k i [] [] is h none = none n (omega arith)
  faults_at n k i [] (share ∷ shares) is h none = absurd h
  faults_at n k i (worker ∷ workers) [] is h none = absurd h
  faults_at n k zero (worker ∷ workers) (share ∷ shares) is h none =
      let e : k ≡ n = omega arith in subst (λ (m : ℕ). (tally_of origin entries).entropy_faults m ≤ worker.entropy.after.faults) e h.0.faults
  faults_at n k (suc i) (worker ∷ workers) (share ∷ shares) is h none = faults_at n (k + 1) i workers shares (omega arith) h.1 (λ j past. none j (omega arith))

-- ---- as the run began

pub spans_count : {D N C E K : Type 0} (views : Views D N C E K) (workers workers' : List (Worker N E K)) → length workers' ≡ length workers → length (worker_spans views workers workers') ≡ length workers
spans_count views [] workers' same = refl
spans_count views (w ∷ workers) [] same = absurd (omega arith)
spans_count views (w ∷ workers) (v ∷ workers') same = ap suc (spans_count views workers workers' (omega arith))

before_same : {D N C E K : Type 0} (views : Views D N C E K) (workers workers' : List (Worker N E K)) (j : ℕ) → length workers' ≡ length workers
    → entropy_before (worker_spans views workers workers') j ≡ entropy_before (worker_spans views workers workers) j
before_same views [] workers' j same = refl
before_same views (w ∷ workers) [] j same = absurd (omega arith)
before_same views (w ∷ workers) (v ∷ workers') zero same = refl
before_same views (w ∷ workers) (v ∷ workers') (suc j) same = before_same views workers workers' j (omega arith)

none_past : {C : Type 0} (workers : List (WorkerSpan C)) (j : ℕ) → length workers ≤ j → entropy_before workers j ≡ 0
none_past [] j past = refl
none_past (worker ∷ workers) zero past = absurd (omega arith)
none_past (worker ∷ workers) (suc j) past = none_past workers j (omega arith)

pub since_at : {D N C E K : Type 0} (views : Views D N C E K) (origin : Origin) (k : ℕ) (workers : List (Worker N E K)) → ((n i : ℕ) → n ≡ k + i → origin.entropy_faults n ≡ entropy_before (worker_spans views workers workers) i)
    → AreSince (λ (e : E). (views.entropy e).faults) origin k workers
since_at views origin k [] same = tt
since_at views origin k (w ∷ workers) same =
    (let e = same k 0 (omega arith) in omega arith, since_at views origin (k + 1) workers (λ n i is. same n (suc i) (omega arith)))

-- ---- of a tree that was served, whatever it stands for

-- what callers have in a history, and the faults of their random sources at both ends of it
pub record HaveAsked {C : Type 0} (workers : List (WorkerSpan C)) (origin : Origin) (entries : List Entry) (shares : List (Share C)) : Type 0 where
  pub callers : (j : ℕ) → map (λ entry. entry.made.asked) (entries_of j entries) ≡ entered (asked_by shares j)
  pub drawn : AreAllDrawn entries 0 workers
  pub timed : AreAllTimed entries 0 workers
  pub since : (j : ℕ) → entropy_before workers j ≤ origin.entropy_faults j
  pub up_to : (j : ℕ) → (tally_of origin entries).entropy_faults j ≤ entropy_after workers j

pub have_asked : {T D N C E K : Type 0} {stands : T → Rows → Origin → List Entry → Type 0} (views : Views D N C E K) {sessions at_once : ℕ} {rows : Rows} {origin : Origin} {tree : T} {workers workers' : List (Worker N E K)} {counts : Result SessionCounts Failed}
    → origin.entropy_faults ≡ entropy_before (worker_spans views workers workers)
    → (joined : IsJoined stands draws_for views.listener views.entropy views.link views.clock sessions at_once rows origin tree workers workers' counts)
    → HaveAsked (worker_spans views workers workers') origin joined.entries joined.shares
have_asked views {sessions = sessions} {at_once = at_once} {origin = origin} {workers = workers} {workers' = workers'} {counts = counts} begins joined =
    let spans = worker_spans views workers workers' in
    let many : length spans ≡ length workers = spans_count views workers workers' joined.count in
    let many' : length (worker_spans views workers workers) ≡ length workers = spans_count views workers workers refl in
    record {
      callers = λ j. callers_at origin joined.entries j 0 j spans joined.shares (omega arith) joined.callers (λ i past. joined.no_others i (omega arith));
      drawn = all_drawn origin joined.entries 0 0 spans joined.shares refl joined.callers;
      timed = all_timed origin joined.entries views.link (MayStop counts) sessions at_once 0 0 spans joined.shares refl joined.are joined.callers;
      since = λ j. (let e = ap (λ (faults : ℕ → ℕ). faults j) begins in let b = before_same views workers workers' j joined.count in omega arith);
      up_to = λ j. faults_at origin joined.entries j 0 j spans joined.shares (omega arith) joined.callers (λ i past.
          let stays = faults_stay i (tally_at origin) joined.entries (joined.no_others i (omega arith)) in
          let e = ap (λ (faults : ℕ → ℕ). faults i) begins in
          let none = none_past (worker_spans views workers workers) i (omega arith) in omega arith);
    }
