-- What workers have done.
use Rattle.std.specs.Prelude.{◌≡◌, ◌⊎◌, ℕ, suc, List, [], ◌∷◌, Option, Result, Ok, Err, IfOk, OnErr, true, false, ⊤}
use Rattle.outside.specs.declared.stream.Failed.{Failed}
use Rattle.outside.specs.Calls.{Rose, HasCause}
use Rattle.outside.specs.Views.{EntropyView, ListenerView, LinkView}
use Rattle.tree_model.specs.Asked.{Asked, Extends}
use Rattle.session_server.specs.Served.{TalkedOnEach, GaveBack}
use Rattle.session_server.specs.declared.counts.SessionCounts.{SessionCounts}
use Rattle.session_server.specs.declared.crew.Crew.{Crew}
use Rattle.session_server.specs.Ends.{AreCounts}
use Rattle.session_server.specs.Shares.{course, WorkerSpan, share_of, Share, AreShares, ends_of, all_ends}

-- ---- one crew

-- A crew served a share of so many sessions over its object, by its clock. What was asked on its links, in order, is what the object stands for from then
-- on; how they ended is counted; and its listener failed only if its count of faults rose.
pub record IsServedBy {N B K C : Type 0} (stands : B → B → List Asked → Type 0) (listener : N → ListenerView C) (link : C → LinkView) (clock : K → Option (ℕ → ℕ)) (sessions : ℕ) (old new : Crew N B K) (share : Share C) : Type 0 where
  pub gave : GaveBack sessions (new.failed ≡ true) (listener old.listener) (listener new.listener) share.links
  pub talked : TalkedOnEach link (clock old.clock) (clock new.clock) share.links share.asked
  pub extends : Extends stands old.object new.object share.asked
  pub counted : AreCounts new.counts (ends_of share)
  pub cause : HasCause (listener old.listener).faults (listener new.listener).faults (new.failed ≡ true)

-- it served some share of so many
pub record HasServedShare {N B K C : Type 0} (stands : B → B → List Asked → Type 0) (listener : N → ListenerView C) (link : C → LinkView) (clock : K → Option (ℕ → ℕ)) (sessions : ℕ) (old new : Crew N B K) : Type 0 where
  pub share : Share C
  pub served : IsServedBy stands listener link clock sessions old new share

-- ---- all crews

-- each crew from number j on served its share of n sessions, if m workers share them
abbrev pub AreServedBy : {N B K C : Type 0} → (B → B → List Asked → Type 0) → (N → ListenerView C) → (C → LinkView) → (K → Option (ℕ → ℕ)) → ℕ → ℕ → ℕ
    → List (Crew N B K) → List (Crew N B K) → List (Share C) → Type 0
AreServedBy stands listener link clock n m j [] [] [] = ⊤
AreServedBy stands listener link clock n m j (old ∷ olds) (new ∷ news) (share ∷ shares) =
    IsServedBy stands listener link clock (share_of n m j) old new share × AreServedBy stands listener link clock n m (suc j) olds news shares
AreServedBy stands listener link clock n m j olds news shares = ⊥

abbrev pub NoneFailed : {N B K : Type 0} → List (Crew N B K) → Type 0
NoneFailed [] = ⊤
NoneFailed (crew ∷ crews) = (crew.failed ≡ false) × NoneFailed crews

abbrev pub AnyFailed : {N B K : Type 0} → List (Crew N B K) → Type 0
AnyFailed [] = ⊥
AnyFailed (crew ∷ crews) = (crew.failed ≡ true) ⊎ AnyFailed crews

-- each crew's counts are those of the ends of its share
abbrev pub AreCountsOf : {N B K C : Type 0} → List (Crew N B K) → List (Share C) → Type 0
AreCountsOf [] [] = ⊤
AreCountsOf (crew ∷ crews) (share ∷ shares) = AreCounts crew.counts (ends_of share) × AreCountsOf crews shares
AreCountsOf crews shares = ⊥

-- a crew as a worker, by what its object tells of a random source
abbrev pub span_of : {N B K C : Type 0} → (N → ListenerView C) → (B → EntropyView) → (K → Option (ℕ → ℕ)) → Crew N B K → Crew N B K → WorkerSpan C
span_of listener entropy clock old new = record {
  listener = course listener old.listener new.listener;
  entropy = course entropy old.object new.object;
  clock = course clock old.clock new.clock;
}

abbrev pub spans_of : {N B K C : Type 0} → (N → ListenerView C) → (B → EntropyView) → (K → Option (ℕ → ℕ)) → List (Crew N B K) → List (Crew N B K) → List (WorkerSpan C)
spans_of listener entropy clock [] news = []
spans_of listener entropy clock (old ∷ olds) [] = []
spans_of listener entropy clock (old ∷ olds) (new ∷ news) = span_of listener entropy clock old new ∷ spans_of listener entropy clock olds news

-- each crew's object stands for what was asked on the links of its share
abbrev pub AreExtended : {N B K C : Type 0} → (B → B → List Asked → Type 0) → List (Crew N B K) → List (Crew N B K) → List (Share C) → Type 0
AreExtended stands [] [] [] = ⊤
AreExtended stands (old ∷ olds) (new ∷ news) (share ∷ shares) = Extends stands old.object new.object share.asked × AreExtended stands olds news shares
AreExtended stands olds news shares = ⊥

-- a worker's listener failed
abbrev pub ListenerFailed : {C : Type 0} → WorkerSpan C → Type 0
ListenerFailed worker = Rose worker.listener.before.faults worker.listener.after.faults

-- some worker's did
abbrev pub SomeFailed : {C : Type 0} → List (WorkerSpan C) → Type 0
SomeFailed [] = ⊥
SomeFailed (worker ∷ workers) = ListenerFailed worker ⊎ SomeFailed workers

-- what may have kept a worker from its share: if the sessions' ends were counted, nothing
abbrev pub MayStop : {C : Type 0} → Result SessionCounts Failed → WorkerSpan C → Type 0
MayStop (Ok counts) worker = ⊥
MayStop (Err failed) worker = ListenerFailed worker

-- Each crew served its share of so many sessions, which so many workers share; what was asked in it is what its object stands for from then
-- on; and the ends of all sessions were counted, or some listener failed. `entropy` is whatever an object tells of a random source.
pub record HaveServed {N B K C : Type 0} (stands : B → B → List Asked → Type 0) (listener : N → ListenerView C) (link : C → LinkView) (clock : K → Option (ℕ → ℕ))
    (sessions at_once : ℕ) (olds news : List (Crew N B K)) (result : Result SessionCounts Failed) : Type 0 where
  pub shares : List (Share C)
  pub are : (entropy : B → EntropyView) → AreShares link (MayStop result) sessions at_once 0 (spans_of listener entropy clock olds news) shares
  pub extended : AreExtended stands olds news shares
  pub counted : IfOk result (λ counts. AreCounts counts (all_ends shares))
  pub failed : OnErr result ((entropy : B → EntropyView) → SomeFailed (spans_of listener entropy clock olds news))
