-- What all crews did, and that their shares are no more than all sessions.
use Rattle.std.proofs.Common.{◌≡◌, ◌⊎◌, ℕ, zero, suc, ◌+◌, ◌*◌, ◌/◌, ◌%◌, ◌<◌, ◌≤◌, Bool, true, false, true≢false, ltb, if◌then◌else◌, List, [], ◌∷◌, ◌++◌, length, take, map, get_or, Option, Result, Ok, Err, refl, sym, ap, subst, ◌∙◌, inl, inr, arith, append_assoc, append-nil, length-append}
use Rattle.std.specs.Prelude.{OnOk, OnErr, IfOk}
use Rattle.std.proofs.lemmas.Bool.{lt-ltb, le-ltb, ltb-true, ltb-false}
use Rattle.std.proofs.Math.Nat.{mul-le-mul_left, mul_comm, suc-mul}
use Rattle.std.proofs.lemmas.Nat.{div-add-mod'}
use Rattle.outside.specs.declared.stream.Failed.{Failed}
use Rattle.outside.specs.Views.{EntropyView, ListenerView, LinkView}
use Rattle.outside.proofs.Told.{changed_by}
use Rattle.tree_model.specs.Asked.{Asked}
use Rattle.session_server.specs.Served.{ServedLink, GaveBack}
use Rattle.session_server.specs.declared.counts.SessionCounts.{SessionCounts}
use Rattle.session_server.specs.declared.crew.Crew.{Crew}
use Rattle.session_server.specs.Ends.{AreCounts}
use Rattle.session_server.specs.Shares.{share_of, Share, AreShares, ends_of, all_ends}
use Rattle.session_server.specs.Workers.{HasServedShare, AreServedBy, NoneFailed, AnyFailed, AreCountsOf, spans_of, AreExtended, ListenerFailed, SomeFailed, HaveServed}

-- ---- how many sessions are shared

-- the shares of the first j workers
abbrev shared : ℕ → ℕ → ℕ → ℕ
shared n m zero = 0
shared n m (suc j) = shared n m j + share_of n m j

-- a share is even, or one more for the first
share-none : (n m j : ℕ) → m ≤ j → share_of n m j ≡ 0
share-none n m j past = ap (λ (b : Bool). if b then n / m + (if ltb j (n % m) then 1 else 0) else 0) (le-ltb j m past)

share-most : (n m j : ℕ) → j < m → share_of n m j ≤ n / m + 1
share-most n m j early =
    let is : share_of n m j ≡ n / m + (if ltb j (n % m) then 1 else 0) = ap (λ (b : Bool). if b then n / m + (if ltb j (n % m) then 1 else 0) else 0) (lt-ltb j m early) in
    elim (ltb j (n % m)) as (λ (b : Bool). share_of n m j ≡ n / m + (if b then 1 else 0) → share_of n m j ≤ n / m + 1) [ true ↦ (λ e. omega arith) | false ↦ (λ e. omega arith) ] is

share-even : (n m j : ℕ) → j < m → n % m ≤ j → share_of n m j ≡ n / m
share-even n m j early past =
    let is : share_of n m j ≡ n / m + (if ltb j (n % m) then 1 else 0) = ap (λ (b : Bool). if b then n / m + (if ltb j (n % m) then 1 else 0) else 0) (lt-ltb j m early) in
    let even : n / m + (if ltb j (n % m) then 1 else 0) ≡ n / m + 0 = ap (λ (b : Bool). n / m + (if b then 1 else 0)) (le-ltb j (n % m) past) in
    omega (arith, is, even)

-- of the first j of m workers
pub record AreShared (n m j : ℕ) : Type 0 where
  pub each : shared n m j ≤ j * (n / m) + j
  pub rest : shared n m j ≤ j * (n / m) + n % m

are_shared : (n m j : ℕ) → j ≤ m → AreShared n m j
are_shared n m zero le = record { each = omega arith; rest = omega arith }
are_shared n m (suc j) le =
    let before = are_shared n m j (omega arith) in
    let each = before.each in
    let rest = before.rest in
    let most = share-most n m j (omega arith) in
    let more : suc j * (n / m) ≡ j * (n / m) + n / m = suc-mul j (n / m) in
    let each' : shared n m (suc j) ≤ suc j * (n / m) + suc j = omega arith in
    let early : ltb j (n % m) ≡ true → shared n m (suc j) ≤ suc j * (n / m) + n % m = λ e. let lt = ltb-true j (n % m) e in omega arith in
    let late : ltb j (n % m) ≡ false → shared n m (suc j) ≤ suc j * (n / m) + n % m = λ e. let even = share-even n m j (omega arith) (ltb-false j (n % m) e) in omega arith in
    record {
      each = each';
      rest = elim (ltb j (n % m)) as (λ (b : Bool). ltb j (n % m) ≡ b → shared n m (suc j) ≤ suc j * (n / m) + n % m) [ true ↦ early | false ↦ late ] refl;
    }

-- they are no more than all
pub shared-le : (n m j : ℕ) → shared n m j ≤ n
shared-le n m zero = omega arith
shared-le n m (suc j) =
    let early : ltb j m ≡ true → shared n m (suc j) ≤ n = λ e.
    let lt = ltb-true j m e in
    let all = (are_shared n m (suc j) (omega arith)).rest in
    let most : (n / m) * suc j ≤ (n / m) * m = mul-le-mul_left (n / m) (omega arith) in
    let turned : (n / m) * suc j ≡ suc j * (n / m) = mul_comm (n / m) (suc j) in
    let whole : (n / m) * m + n % m ≡ n = div-add-mod' n m in
    omega (arith, all, most, turned, whole)
    in
    let late : ltb j m ≡ false → shared n m (suc j) ≤ n = λ e. let before = shared-le n m j in let none = share-none n m j (ltb-false j m e) in omega arith in
    elim (ltb j m) as (λ (b : Bool). ltb j m ≡ b → shared n m (suc j) ≤ n) [ true ↦ early | false ↦ late ] refl

-- ---- counts

-- each link that was served has one end
pub ends_of-length : {C : Type 0} (links : List (ServedLink C)) → length (map (λ (l : ServedLink C). l.end) links) ≡ length links
ends_of-length [] = refl
ends_of-length (x ∷ links) = ap suc (ends_of-length links)

-- the first ends are no more than all
pub all_ends-take : {C : Type 0} (i : ℕ) (shares : List (Share C)) → length (all_ends (take i shares)) ≤ length (all_ends shares)
all_ends-take zero shares = omega arith
all_ends-take (suc i) [] = omega arith
all_ends-take (suc i) (share ∷ shares) =
    let rest = all_ends-take i shares in
    let a = length-append (ends_of share) (all_ends (take i shares)) in
    let b = length-append (ends_of share) (all_ends shares) in
    omega arith

-- the counts of one crew more
pub record OneMore {N B K C : Type 0} (crew : Crew N B K) (shares : List (Share C)) (i : ℕ) : Type 0 where
  pub share : Share C
  pub counted : AreCounts crew.counts (ends_of share)
  pub more : all_ends (take (suc i) shares) ≡ all_ends (take i shares) ++ ends_of share

pub one_more : {N B K C : Type 0} (crews : List (Crew N B K)) (shares : List (Share C)) (i : ℕ) (d : Crew N B K) → i < length crews → AreCountsOf crews shares → OneMore (get_or crews i d) shares i
one_more [] [] i d lt h = absurd (omega arith)
one_more [] (share ∷ shares) i d lt h = absurd h
one_more (crew ∷ crews) [] i d lt h = absurd h
one_more (crew ∷ crews) (share ∷ shares) zero d lt h = record { share = share; counted = h.0; more = append-nil (ends_of share) }
one_more (crew ∷ crews) (share ∷ shares) (suc i) d lt h =
    let rest = one_more crews shares i d (omega arith) h.1 in
    record {
      share = rest.share;
      counted = rest.counted;
      more = ap (λ ends. ends_of share ++ ends) rest.more ∙ sym (append_assoc (ends_of share) (all_ends (take i shares)) (ends_of rest.share));
    }

-- all of them
pub counts_all : {N B K C : Type 0} (crews : List (Crew N B K)) (shares : List (Share C)) (i : ℕ) → length crews ≤ i → AreCountsOf crews shares → take i shares ≡ shares
counts_all [] [] zero le h = refl
counts_all [] [] (suc i) le h = refl
counts_all [] (share ∷ shares) i le h = absurd h
counts_all (crew ∷ crews) [] i le h = absurd h
counts_all (crew ∷ crews) (share ∷ shares) zero le h = absurd (omega arith)
counts_all (crew ∷ crews) (share ∷ shares) (suc i) le h = ap (λ l. share ∷ l) (counts_all crews shares i (omega arith) h.1)

pub none_more : {N B K : Type 0} (crews : List (Crew N B K)) (i : ℕ) (d : Crew N B K) → i < length crews → NoneFailed (take i crews) → (get_or crews i d).failed ≡ false → NoneFailed (take (suc i) crews)
none_more [] i d lt none fine = absurd (omega arith)
none_more (crew ∷ crews) zero d lt none fine = (fine, tt)
none_more (crew ∷ crews) (suc i) d lt none fine = (none.0, none_more crews i d (omega arith) none.1 fine)

pub any_at : {N B K : Type 0} (crews : List (Crew N B K)) (i : ℕ) (d : Crew N B K) → i < length crews → (get_or crews i d).failed ≡ true → AnyFailed crews
any_at [] i d lt failed = absurd (omega arith)
any_at (crew ∷ crews) zero d lt failed = inl failed
any_at (crew ∷ crews) (suc i) d lt failed = inr (any_at crews i d (omega arith) failed)

-- ---- all crews

-- why a worker served no more, if more may be the cause
stopped_weaker : {C : Type 0} (sessions : ℕ) (F G : Type 0) (links : List (ServedLink C)) (left : List C) → (F → G) → (length links ≡ sessions) ⊎ (left ≡ []) ⊎ F → (length links ≡ sessions) ⊎ (left ≡ []) ⊎ G
stopped_weaker sessions F G links left only (inl h) = inl h
stopped_weaker sessions F G links left only (inr (inl h)) = inr (inl h)
stopped_weaker sessions F G links left only (inr (inr h)) = inr (inr (only h))

-- what was given back, if what may have failed is more
pub gave_as : {C : Type 0} (sessions : ℕ) (F G : Type 0) (before after : ListenerView C) (links : List (ServedLink C)) → (F → G) → GaveBack sessions F before after links → GaveBack sessions G before after links
gave_as sessions F G before after links only h = record {
  few = h.few;
  came = changed_by before.to_come after.to_come _ _ (λ old new k. (k.0, stopped_weaker sessions F G links new only k.1)) h.came;
  given = h.given;
}

module _ {N B K C : Type 0} (stands : B → B → List Asked → Type 0) (listener : N → ListenerView C) (link : C → LinkView) (clock : K → Option (ℕ → ℕ)) (n m : ℕ) where
  -- the crews of a list, from number j on
  pub served_by : (j : ℕ) (olds news : List (Crew N B K)) → length news ≡ length olds
      → ((i : ℕ) (d : Crew N B K) → i < length olds → HasServedShare stands listener link clock (share_of n m (j + i)) (get_or olds i d) (get_or news i d))
      → (shares : List (Share C)) × AreServedBy stands listener link clock n m j olds news shares
  served_by j [] [] same each = ([], tt)
  served_by j [] (new ∷ news) same each = absurd (omega arith)
  served_by j (old ∷ olds) [] same each = absurd (omega arith)
  served_by j (old ∷ olds) (new ∷ news) same each =
      let here : j + 0 ≡ j = omega arith in
      let next : (i : ℕ) → j + suc i ≡ suc j + i = λ i. omega arith in
      let first : HasServedShare stands listener link clock (share_of n m j) old new = subst (λ (k : ℕ). HasServedShare stands listener link clock (share_of n m k) old new) here (each 0 old (omega arith)) in
      let rest = served_by (suc j) olds news (omega arith)
      (λ i d lt. subst (λ (k : ℕ). HasServedShare stands listener link clock (share_of n m k) (get_or olds i d) (get_or news i d)) (next i) (each (suc i) d (omega arith)))
      in
      (first.share ∷ rest.0, (first.served, rest.1))

  pub all_served : (olds news : List (Crew N B K)) → length news ≡ length olds
      → ((i : ℕ) (d : Crew N B K) → i < length olds → HasServedShare stands listener link clock (share_of n m i) (get_or olds i d) (get_or news i d))
      → (shares : List (Share C)) × AreServedBy stands listener link clock n m 0 olds news shares
  all_served olds news same each =
      let from : (i : ℕ) → i ≡ 0 + i = λ i. omega arith in
      served_by 0 olds news same (λ i d lt. subst (λ (k : ℕ). HasServedShare stands listener link clock (share_of n m k) (get_or olds i d) (get_or news i d)) (from i) (each i d lt))

  pub counts_of : (j : ℕ) (olds news : List (Crew N B K)) (shares : List (Share C)) → AreServedBy stands listener link clock n m j olds news shares → AreCountsOf news shares
  counts_of j [] [] [] h = tt
  counts_of j [] [] (share ∷ shares) h = absurd h
  counts_of j [] (new ∷ news) shares h = absurd h
  counts_of j (old ∷ olds) [] shares h = absurd h
  counts_of j (old ∷ olds) (new ∷ news) [] h = absurd h
  counts_of j (old ∷ olds) (new ∷ news) (share ∷ shares) h = (h.0.counted, counts_of (suc j) olds news shares h.1)

  pub extended_of : (j : ℕ) (olds news : List (Crew N B K)) (shares : List (Share C)) → AreServedBy stands listener link clock n m j olds news shares → AreExtended stands olds news shares
  extended_of j [] [] [] h = tt
  extended_of j [] [] (share ∷ shares) h = absurd h
  extended_of j [] (new ∷ news) shares h = absurd h
  extended_of j (old ∷ olds) [] shares h = absurd h
  extended_of j (old ∷ olds) (new ∷ news) [] h = absurd h
  extended_of j (old ∷ olds) (new ∷ news) (share ∷ shares) h = (h.0.extends, extended_of (suc j) olds news shares h.1)

  -- there are no more ends than sessions that are shared
  few_from : (j : ℕ) (olds news : List (Crew N B K)) (shares : List (Share C)) → AreServedBy stands listener link clock n m j olds news shares → length (all_ends shares) + shared n m j ≤ n
  few_from j [] [] [] h = let all = shared-le n m j in omega arith
  few_from j [] [] (share ∷ shares) h = absurd h
  few_from j [] (new ∷ news) shares h = absurd h
  few_from j (old ∷ olds) [] shares h = absurd h
  few_from j (old ∷ olds) (new ∷ news) [] h = absurd h
  few_from j (old ∷ olds) (new ∷ news) (share ∷ shares) h =
      let rest = few_from (suc j) olds news shares h.1 in
      let few = h.0.gave.few in
      let a = ends_of-length share.links in
      let b = length-append (ends_of share) (all_ends shares) in
      omega arith

  pub few_of : (olds news : List (Crew N B K)) (shares : List (Share C)) → AreServedBy stands listener link clock n m 0 olds news shares → length (all_ends shares) ≤ n
  few_of olds news shares h = let all = few_from 0 olds news shares h in omega arith

  -- if none failed each served its share
  shares_whole : (entropy : B → EntropyView) (j : ℕ) (olds news : List (Crew N B K)) (shares : List (Share C)) → AreServedBy stands listener link clock n m j olds news shares → NoneFailed news
      → AreShares link (λ worker. ⊥) n m j (spans_of listener entropy clock olds news) shares
  shares_whole entropy j [] [] [] h none = tt
  shares_whole entropy j [] [] (share ∷ shares) h none = absurd h
  shares_whole entropy j [] (new ∷ news) shares h none = absurd h
  shares_whole entropy j (old ∷ olds) [] shares h none = absurd h
  shares_whole entropy j (old ∷ olds) (new ∷ news) [] h none = absurd h
  shares_whole entropy j (old ∷ olds) (new ∷ news) (share ∷ shares) h none = (
    record { gave = gave_as (share_of n m j) (new.failed ≡ true) ⊥ _ _ share.links (λ failed. true≢false (sym failed ∙ none.0)) h.0.gave; talked = h.0.talked },
    shares_whole entropy (suc j) olds news shares h.1 none.1,
  )

  -- or up to where it failed
  shares_cut : (entropy : B → EntropyView) (j : ℕ) (olds news : List (Crew N B K)) (shares : List (Share C)) → AreServedBy stands listener link clock n m j olds news shares
      → AreShares link ListenerFailed n m j (spans_of listener entropy clock olds news) shares
  shares_cut entropy j [] [] [] h = tt
  shares_cut entropy j [] [] (share ∷ shares) h = absurd h
  shares_cut entropy j [] (new ∷ news) shares h = absurd h
  shares_cut entropy j (old ∷ olds) [] shares h = absurd h
  shares_cut entropy j (old ∷ olds) (new ∷ news) [] h = absurd h
  shares_cut entropy j (old ∷ olds) (new ∷ news) (share ∷ shares) h = (
    record { gave = gave_as (share_of n m j) (new.failed ≡ true) _ _ _ share.links h.0.cause.rose h.0.gave; talked = h.0.talked },
    shares_cut entropy (suc j) olds news shares h.1,
  )

  some_failed : (entropy : B → EntropyView) (j : ℕ) (olds news : List (Crew N B K)) (shares : List (Share C)) → AreServedBy stands listener link clock n m j olds news shares → AnyFailed news
      → SomeFailed (spans_of listener entropy clock olds news)
  some_failed entropy j [] [] [] h any = absurd any
  some_failed entropy j [] [] (share ∷ shares) h any = absurd h
  some_failed entropy j [] (new ∷ news) shares h any = absurd h
  some_failed entropy j (old ∷ olds) [] shares h any = absurd h
  some_failed entropy j (old ∷ olds) (new ∷ news) [] h any = absurd h
  some_failed entropy j (old ∷ olds) (new ∷ news) (share ∷ shares) h (inl failed) = inl (h.0.cause.rose failed)
  some_failed entropy j (old ∷ olds) (new ∷ news) (share ∷ shares) h (inr any) = inr (some_failed entropy (suc j) olds news shares h.1 any)

  pub have_served : (olds news : List (Crew N B K)) (shares : List (Share C)) (result : Result SessionCounts Failed) → AreServedBy stands listener link clock n m 0 olds news shares
      → IfOk result (λ counts. AreCounts counts (all_ends shares)) → OnOk result (NoneFailed news) → OnErr result (AnyFailed news)
      → HaveServed stands listener link clock n m olds news result
  have_served olds news shares (Ok counts) h counted none some = record {
    shares = shares;
    are = λ entropy. shares_whole entropy 0 olds news shares h none;
    extended = extended_of 0 olds news shares h;
    counted = counted;
    failed = tt;
  }
  have_served olds news shares (Err failed) h counted none some = record {
    shares = shares;
    are = λ entropy. shares_cut entropy 0 olds news shares h;
    extended = extended_of 0 olds news shares h;
    counted = tt;
    failed = λ entropy. some_failed entropy 0 olds news shares h some;
  }
