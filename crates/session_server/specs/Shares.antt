-- How workers share the sessions, and that each served its share.
use Rattle.std.specs.Prelude.{ℕ, suc, ◌+◌, ◌/◌, ◌%◌, List, [], ◌∷◌, map, flat_map, nat_lt, if◌then◌else◌, Option, ⊤}
use Rattle.outside.specs.Views.{EntropyView, ListenerView, LinkView}
use Rattle.tree_model.specs.Asked.{Asked}
use Rattle.session_server.specs.declared.ending.SessionEnd.{SessionEnd}
use Rattle.session_server.specs.Served.{ServedLink, TalkedOnEach, GaveBack}

-- something before and after
pub record Course (X : Type 0) : Type 0 where
  pub before : X
  pub after : X

abbrev pub course : {X Y : Type 0} → (X → Y) → X → X → Course Y
course view before after = record { before = view before; after = view after }

-- a worker's listener, random source and clock
pub record WorkerSpan (C : Type 0) : Type 0 where
  pub listener : Course (ListenerView C)
  pub entropy : Course EntropyView
  pub clock : Course (Option (ℕ → ℕ))

-- how many of n sessions worker j serves, if m workers share them: the first n % m serve one more than the others
abbrev pub share_of : ℕ → ℕ → ℕ → ℕ
share_of n m j = if nat_lt j m then n / m + (if nat_lt j (n % m) then 1 else 0) else 0

-- the links that a worker served, and what was asked on them
pub record Share (C : Type 0) : Type 0 where
  pub links : List (ServedLink C)
  pub asked : List Asked

-- a worker served this share of so many sessions, by its own clock; if fewer links came, the listener had no more, or what may stop it did
pub record IsShare {C : Type 0} (link : C → LinkView) (MayStop : WorkerSpan C → Type 0) (sessions : ℕ) (worker : WorkerSpan C) (share : Share C) : Type 0 where
  pub gave : GaveBack sessions (MayStop worker) worker.listener.before worker.listener.after share.links
  pub talked : TalkedOnEach link worker.clock.before worker.clock.after share.links share.asked

-- each worker from number j on served its share of n sessions
abbrev pub AreShares : {C : Type 0} → (C → LinkView) → (WorkerSpan C → Type 0) → ℕ → ℕ → ℕ → List (WorkerSpan C) → List (Share C) → Type 0
AreShares link MayStop n m j [] [] = ⊤
AreShares link MayStop n m j [] (share ∷ shares) = ⊥
AreShares link MayStop n m j (worker ∷ workers) [] = ⊥
AreShares link MayStop n m j (worker ∷ workers) (share ∷ shares) =
    IsShare link MayStop (share_of n m j) worker share × AreShares link MayStop n m (suc j) workers shares

-- how the sessions of a share ended, and those of all shares, one after the other
abbrev pub ends_of : {C : Type 0} → Share C → List SessionEnd
ends_of share = map (λ link. link.end) share.links

abbrev pub all_ends : {C : Type 0} → List (Share C) → List SessionEnd
all_ends shares = flat_map (λ share. ends_of share) shares
