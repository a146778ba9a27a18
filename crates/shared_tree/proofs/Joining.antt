-- The parts that workers have in one history.
use Rattle.std.proofs.Common.{◌≡◌, ◌⊎◌, ℕ, zero, suc, ◌+◌, ◌*◌, ◌<◌, ◌≤◌, List, [], ◌∷◌, ◌++◌, length, map, Option, Result, Ok, Err, refl, sym, ap, subst, ◌∙◌, inl, inr, arith, length-append}
use Rattle.std.specs.Prelude.{OnErr, All, min, not}
use Rattle.std.specs.List.{AllByRecursion}
use Rattle.std.proofs.lemmas.List.Elements.{All-nil, All-cons, All-head, All-tail, filter-append}
use Rattle.std.proofs.lemmas.List.Sums.{sum_by-cons}
use Rattle.atomic_table.specs.Seated.{TableId}
use Rattle.outside.specs.declared.stream.Failed.{Failed}
use Rattle.outside.specs.Views.{EntropyView, ListenerView, LinkView}
use Rattle.tree_model.specs.Asked.{Asked, entered, is_exhausted}
use Rattle.tree_model.specs.Rows.{Rows}
use Rattle.tree_model.specs.History.{Made, Entry, Origin, entries_of, tally_of}
use Rattle.turn_lock.specs.Limits.{turn_limit}
use Rattle.turn_lock.specs.declared.history.Ended.{Ended}
use Rattle.turn_lock.specs.SeatView.{SeatView}
use Rattle.turn_lock.specs.Turns.{turns_by}
use Rattle.turn_lock.specs.Seats.{new_seat, new_seats, IsIdle, IsPartOf, IsWhole, tickets_of}
use Rattle.session_server.specs.declared.counts.SessionCounts.{SessionCounts}
use Rattle.session_server.specs.declared.crew.Crew.{Crew}
use Rattle.session_server.specs.Shares.{WorkerSpan, Share, AreShares}
use Rattle.session_server.specs.Workers.{spans_of, AreExtended, MayStop, SomeFailed}
use Rattle.shared_tree.specs.Limits.{most_tickets}
use Rattle.shared_tree.specs.Turns.{entries_in, StandsFor}
use Rattle.shared_tree.specs.Clients.{ClientView, client_of, made_by, HasAsked, AreDrawnFor}
use Rattle.shared_tree.proofs.Histories.{made_by-follows, made_by-none, faults_same}
use Rattle.shared_tree.proofs.Asking.{asked_none}
use Rattle.shared_tree.specs.Workers.{IsCrewOf, AreCrewsOf, IsReady, AreReady, worker_span, worker_spans}
use Rattle.shared_tree.specs.Joined.{AreSince, IsCaller, AreCallers, all_asked, IsJoined, HaveWorked}
use Rattle.shared_tree.specs.declared.workers.Worker.{Worker}
use Rattle.shared_tree.proofs.Crews.{none_left, crews_of_none, first_crew, crews_pairs}

-- ---- new seats

here : (z : TableId) (n count : ℕ) → AllByRecursion (λ (s : SeatView Made). s.lock ≡ z) (new_seats z n count)
here z n zero = tt
here z n (suc count) = (refl, here z (n + 1) count)

pub new_here : (z : TableId) (n count : ℕ) (ss : List (SeatView Made)) → ss ≡ new_seats z n count → AllByRecursion (λ (s : SeatView Made). s.lock ≡ z) ss
new_here z n count ss is = subst (AllByRecursion (λ (s : SeatView Made). s.lock ≡ z)) (sym is) (here z n count)

new_ready : {N E K : Type 0} (start : Rows → Origin → Type 0) (faults_of : E → ℕ) (z : TableId) (n : ℕ) (ws : List (Worker N E K)) → ((rows : Rows) (origin : Origin) → start rows origin → AreSince faults_of origin n ws)
    → AreReady start faults_of (new_seats z n (length ws)) ws
new_ready start faults_of z n [] since = tt
new_ready start faults_of z n (w ∷ ws) since = (record { rests = refl; goes = λ rows origin begins. (since rows origin begins).0 }, new_ready start faults_of z (n + 1) ws (λ rows origin begins. (since rows origin begins).1))

pub ready_of_new : {N E K : Type 0} (start : Rows → Origin → Type 0) (faults_of : E → ℕ) (z : TableId) (count : ℕ) (ss : List (SeatView Made)) (ws : List (Worker N E K)) → ss ≡ new_seats z 0 count → count ≡ length ws
    → ((rows : Rows) (origin : Origin) → start rows origin → AreSince faults_of origin 0 ws) → AreReady start faults_of ss ws
ready_of_new start faults_of z count ss ws is many since =
    subst (λ (l : List (SeatView Made)). AreReady start faults_of l ws) (sym (is ∙ ap (new_seats z 0) many)) (new_ready start faults_of z 0 ws since)

new_tickets : (z : TableId) (n count : ℕ) → tickets_of (new_seats {E = Made} z n count) ≡ 0
new_tickets z n zero = refl
new_tickets z n (suc count) = sum_by-cons (λ (s : SeatView Made). s.drawn) (new_seat z n) (new_seats z (n + 1) count) ∙ ap (λ (k : ℕ). 0 + k) (new_tickets z (n + 1) count)

-- of seats that did nothing the tree stands for nothing
pub stands_new : {T : Type 0} (start : Rows → Origin → Type 0) (stands : T → Rows → Origin → List Entry → Type 0) (z : TableId) (count : ℕ) (tree : T) (ss : List (SeatView Made)) → ss ≡ new_seats z 0 count → IsWhole (StandsFor start stands) tree ss
    → StandsFor start stands tree []
stands_new start stands z count tree ss is whole =
    let none : tickets_of ss ≡ 0 = ap tickets_of is ∙ new_tickets z 0 count in
    let counted = whole.counted in
    let few : length whole.history ≡ min 0 turn_limit = counted ∙ ap (λ (t : ℕ). min t turn_limit) none in
    let empty : whole.history ≡ [] = none_left whole.history (few ∙ refl) in
    subst (StandsFor start stands tree) empty whole.right

-- ---- one caller

map_made : (entries : List Entry) → map (λ (e : Entry). e.made.asked) entries ≡ map (λ (m : Made). m.asked) (map (λ (e : Entry). e.made) entries)
map_made [] = refl
map_made (e ∷ entries) = ap (λ l. e.made.asked ∷ l) (map_made entries)

entered-append : (xs ys : List Asked) → entered (xs ++ ys) ≡ entered xs ++ entered ys
entered-append xs ys = filter-append (λ (a : Asked). not (is_exhausted a.reply)) xs ys

module _ {E : Type 0} (start : Rows → Origin → Type 0) (draws : Option (List ℕ) → Option (List ℕ) → Made → Type 0) (entropy : E → EntropyView) (z : TableId) (turns : List (Ended Made)) (tickets : ℕ) (rows : Rows) (origin : Origin) (begins : start rows origin) where
  -- what a seat that was new made
  made_since : (j : ℕ) (s : SeatView Made) (e e' : E) (asked : List Asked) (has : HasAsked draws entropy (client_of (new_seat z j) e) (client_of s e') asked) → IsPartOf turns tickets s → made_by j turns ≡ made_by j has.more
  made_since j s e e' asked has part =
      let own : turns_by j turns ≡ turns_by j s.seen = subst (λ (n : ℕ). turns_by n turns ≡ turns_by n s.seen) has.number part.follows.own in
      made_by-follows j turns s.seen own ∙ ap (made_by j) has.seen

  caller_of : {N K C : Type 0} (listener : N → ListenerView C) (clock : K → Option (ℕ → ℕ)) (j : ℕ) (s : SeatView Made) (w w' : Worker N E K) (share : Share C) → HasAsked draws entropy (client_of (new_seat z j) w.entropy) (client_of s w'.entropy) share.asked
      → IsPartOf turns tickets s → IsReady start (λ (e : E). (entropy e).faults) s w' → IsCaller draws origin (entries_in turns) j (worker_span listener entropy clock w w') share
  caller_of listener clock j s w w' share has part ready =
      let made = made_since j s w.entropy w'.entropy share.asked has part in
      let own : turns_by j turns ≡ turns_by j s.seen = subst (λ (n : ℕ). turns_by n turns ≡ turns_by n s.seen) has.number part.follows.own in
      let same = faults_same j origin turns s.seen own in
      let goes : (tally_of origin (entries_in s.seen)).entropy_faults j ≤ (entropy w'.entropy).faults =
      subst (λ (n : ℕ). (tally_of origin (entries_in s.seen)).entropy_faults n ≤ (entropy w'.entropy).faults) has.number (ready.goes rows origin begins)
      in record {
        asked = map_made (entries_of j (entries_in turns)) ∙ (ap (map (λ (m : Made). m.asked)) made ∙ has.own);
        drawn = subst (AreDrawnFor draws (entropy w.entropy) (entropy w'.entropy)) (sym made) has.drawn;
        faults = omega (arith, same, goes);
      }

-- ---- all callers

-- the first crew after its share, and the others after theirs
record FirstExtended {N E K C : Type 0} (stands : ClientView E → ClientView E → List Asked → Type 0) (c : Crew N (ClientView E) K) (cs cs' : List (Crew N (ClientView E) K)) (shares : List (Share C)) : Type 0 where
  new : Crew N (ClientView E) K
  news : List (Crew N (ClientView E) K)
  share : Share C
  others : List (Share C)
  crews_are : cs' ≡ new ∷ news
  shares_are : shares ≡ share ∷ others
  extends : (before : ClientView E) (asked : List Asked) → stands c.object before asked → stands new.object before (asked ++ share.asked)
  rest : AreExtended stands cs news others

first_extended : {N E K C : Type 0} (stands : ClientView E → ClientView E → List Asked → Type 0) (c : Crew N (ClientView E) K) (cs cs' : List (Crew N (ClientView E) K)) (shares : List (Share C)) → AreExtended stands (c ∷ cs) cs' shares
    → FirstExtended stands c cs cs' shares
first_extended stands c cs [] shares h = absurd h
first_extended stands c cs (new ∷ news) [] h = absurd h
first_extended stands c cs (new ∷ news) (share ∷ others) h = record { new = new; news = news; share = share; others = others; crews_are = refl; shares_are = refl; extends = h.0; rest = h.1 }

none_extended : {N E K C : Type 0} (stands : ClientView E → ClientView E → List Asked → Type 0) (cs' : List (Crew N (ClientView E) K)) (shares : List (Share C)) → AreExtended stands [] cs' shares → (cs' ≡ []) × (shares ≡ [])
none_extended stands [] [] h = (refl, refl)
none_extended stands [] (share ∷ shares) h = absurd h
none_extended stands (c ∷ cs') shares h = absurd h

module _ {N E K C : Type 0} (start : Rows → Origin → Type 0) (draws : Option (List ℕ) → Option (List ℕ) → Made → Type 0) (listener : N → ListenerView C) (entropy : E → EntropyView) (clock : K → Option (ℕ → ℕ)) (z : TableId) (turns : List (Ended Made)) (tickets : ℕ) (rows : Rows) (origin : Origin) (begins : start rows origin) where
  -- the callers from number j on
  pub record Parts (j : ℕ) (cs cs' : List (Crew N (ClientView E) K)) (ss' : List (SeatView Made)) (ws ws' : List (Worker N E K)) (shares : List (Share C)) : Type 0 where
    pub spans : spans_of listener (λ (c : ClientView E). entropy c.entropy) clock cs cs' ≡ worker_spans listener entropy clock ws ws'
    pub callers : AreCallers draws origin (entries_in turns) j (worker_spans listener entropy clock ws ws') shares
    pub drawn : tickets_of ss' ≤ most_tickets * length (all_asked shares)
    pub in_time : (entered (all_asked shares) ≡ all_asked shares) ⊎ (turn_limit < tickets)

  parts_more : (j : ℕ) (cs news : List (Crew N (ClientView E) K)) (c new : Crew N (ClientView E) K) (ss' : List (SeatView Made)) (s : SeatView Made) (ws ws' : List (Worker N E K)) (w w' : Worker N E K) (share : Share C) (shares : List (Share C))
      → IsCrewOf (new_seat z j) w c → IsCrewOf s w' new → HasAsked draws entropy c.object new.object share.asked → IsReady start (λ (e : E). (entropy e).faults) s w' → IsPartOf turns tickets s
      → Parts (j + 1) cs news ss' ws ws' shares → Parts j (c ∷ cs) (new ∷ news) (s ∷ ss') (w ∷ ws) (w' ∷ ws') (share ∷ shares)
  parts_more j cs news c new ss' s ws ws' w w' share shares from to has ready part rest =
      let has' : HasAsked draws entropy (client_of (new_seat z j) w.entropy) (client_of s w'.entropy) share.asked =
      subst (λ (p : ClientView E × ClientView E). HasAsked draws entropy p.0 p.1 share.asked) (λ i. (from.object i, to.object i)) has
      in
      let own = has'.tickets in
      let others = rest.drawn in
      let sum = sum_by-cons (λ (x : SeatView Made). x.drawn) s ss' in
      let size = length-append share.asked (all_asked shares) in
      let all = entered-append share.asked (all_asked shares) in record {
        spans = λ i. record {
          listener = record { before = listener (from.listener i); after = listener (to.listener i) };
          entropy = record { before = entropy (from.object i).entropy; after = entropy (to.object i).entropy };
          clock = record { before = clock (from.clock i); after = clock (to.clock i) };
        } ∷ rest.spans i;
        callers = (caller_of start draws entropy z turns tickets rows origin begins listener clock j s w w' share has' part ready, rest.callers);
        drawn = omega arith;
        in_time = elim has'.in_time [
          | inl same ↦ elim rest.in_time [
            | inl others ↦ inl (all ∙ (λ i. same i ++ others i))
            | inr late ↦ inr late
          ]
          | inr late ↦ (let below = part.ticket late.ticket late.has in let past = late.past in inr (omega arith))
        ];
      }

  pub parts : (j n : ℕ) (ss ss' : List (SeatView Made)) (ws ws' : List (Worker N E K)) (cs cs' : List (Crew N (ClientView E) K)) (shares : List (Share C)) → ss ≡ new_seats z j n → AreCrewsOf ss ws cs
      → AreExtended (λ now begun asked. HasAsked draws entropy begun now asked) cs cs' shares → AreCrewsOf ss' ws' cs' → AreReady start (λ (e : E). (entropy e).faults) ss' ws' → All (IsPartOf turns tickets) ss'
      → Parts j cs cs' ss' ws ws' shares
  parts j n ss ss' ws ws' [] cs' shares new hired ext back ready part =
      let e = none_extended (λ now begun asked. HasAsked draws entropy begun now asked) cs' shares ext in
      let w = (crews_of_none ss ws hired).1 in
      let b = crews_of_none ss' ws' (subst (λ l. AreCrewsOf ss' ws' l) e.0 back) in
      let none : Parts j [] [] [] [] [] [] = record { spans = refl; callers = tt; drawn = omega arith; in_time = inl refl } in
      subst (λ (p : List (Crew N (ClientView E) K) × (List (SeatView Made) × (List (Worker N E K) × (List (Worker N E K) × List (Share C))))). Parts j [] p.0 p.1.0 p.1.1.0 p.1.1.1.0 p.1.1.1.1)
      (λ i. (sym e.0 i, (sym b.0 i, (sym w i, (sym b.1 i, sym e.1 i))))) none
  parts j zero ss ss' ws ws' (c ∷ cs) cs' shares new hired ext back ready part =
      let f = first_crew ss ws c cs hired in
      let l = ap length (sym f.seats_are ∙ new) in absurd (omega arith)
  parts j (suc n) ss ss' ws ws' (c ∷ cs) cs' shares new hired ext back ready part =
      let f = first_crew ss ws c cs hired in
      let e = first_extended (λ now begun asked. HasAsked draws entropy begun now asked) c cs cs' shares ext in
      let b = first_crew ss' ws' e.new e.news (subst (λ l. AreCrewsOf ss' ws' l) e.crews_are back) in
      let seats : f.seat ∷ f.seats ≡ new_seat z j ∷ new_seats z (j + 1) n = sym f.seats_are ∙ new in
      let head : f.seat ≡ new_seat z j = cc in
      let tail : f.seats ≡ new_seats z (j + 1) n = cc in
      let ready' : AreReady start (λ (x : E). (entropy x).faults) (b.seat ∷ b.seats) (b.worker ∷ b.workers) =
      subst (λ (p : List (SeatView Made) × List (Worker N E K)). AreReady start (λ (x : E). (entropy x).faults) p.0 p.1) (λ i. (b.seats_are i, b.workers_are i)) ready
      in
      let part' : All (IsPartOf turns tickets) (b.seat ∷ b.seats) = subst (All (IsPartOf turns tickets)) b.seats_are part in
      let has : HasAsked draws entropy c.object e.new.object e.share.asked = e.extends c.object [] (asked_none draws entropy c.object) in
      let from : IsCrewOf (new_seat z j) f.worker c = subst (λ (s : SeatView Made). IsCrewOf s f.worker c) head f.first in
      let rest = parts (j + 1) n f.seats b.seats f.workers b.workers cs e.news e.others tail f.rest e.rest b.rest ready'.1 (All-tail (IsPartOf turns tickets) b.seat b.seats part') in
      let more = parts_more j cs e.news c e.new b.seats b.seat f.workers b.workers f.worker b.worker e.share e.others from b.first has ready'.0 (All-head (IsPartOf turns tickets) b.seat b.seats part') rest in
      subst (λ (p : List (Crew N (ClientView E) K) × (List (SeatView Made) × (List (Worker N E K) × (List (Worker N E K) × List (Share C))))). Parts j (c ∷ cs) p.0 p.1.0 p.1.1.0 p.1.1.1.0 p.1.1.1.1)
      (λ i. (sym e.crews_are i, (sym b.seats_are i, (sym f.workers_are i, (sym b.workers_are i, sym e.shares_are i))))) more

-- ---- all workers

failed_as : (counts : Result SessionCounts Failed) {P Q : Type 0} → (P → Q) → OnErr counts P → OnErr counts Q
failed_as (Ok c) f h = tt
failed_as (Err e) f h = f h

none_of : (entries : List Entry) → map (λ (e : Entry). e.made) entries ≡ [] → entries ≡ []
none_of [] e = refl
none_of (x ∷ entries) e = let l = ap length e in absurd (omega arith)

extended_pairs : {N B K C : Type 0} (stands : B → B → List Asked → Type 0) (cs cs' : List (Crew N B K)) (shares : List (Share C)) → AreExtended stands cs cs' shares → length cs' ≡ length cs
extended_pairs stands [] [] [] h = refl
extended_pairs stands [] [] (s ∷ shares) h = absurd h
extended_pairs stands [] (c ∷ cs') shares h = absurd h
extended_pairs stands (c ∷ cs) [] shares h = absurd h
extended_pairs stands (c ∷ cs) (d ∷ cs') [] h = absurd h
extended_pairs stands (c ∷ cs) (d ∷ cs') (s ∷ shares) h = ap suc (extended_pairs stands cs cs' shares h.1)

module _ {N E K C : Type 0} (start : Rows → Origin → Type 0) (draws : Option (List ℕ) → Option (List ℕ) → Made → Type 0) (entropy : E → EntropyView) (z : TableId) where
  -- seats that were new are of their lock, and in no turn
  pub idle : (j n : ℕ) (ss ss' : List (SeatView Made)) (ws ws' : List (Worker N E K)) (cs cs' : List (Crew N (ClientView E) K)) (shares : List (Share C)) → ss ≡ new_seats z j n → AreCrewsOf ss ws cs
      → AreExtended (λ now begun asked. HasAsked draws entropy begun now asked) cs cs' shares → AreCrewsOf ss' ws' cs' → AreReady start (λ (e : E). (entropy e).faults) ss' ws' → All (IsIdle z) ss'
  idle j n ss ss' ws ws' [] cs' shares new hired ext back ready =
      let e = none_extended (λ now begun asked. HasAsked draws entropy begun now asked) cs' shares ext in
      let b = crews_of_none ss' ws' (subst (λ l. AreCrewsOf ss' ws' l) e.0 back) in
      subst (All (IsIdle z)) (sym b.0) (All-nil (IsIdle z))
  idle j zero ss ss' ws ws' (c ∷ cs) cs' shares new hired ext back ready =
      let f = first_crew ss ws c cs hired in
      let l = ap length (sym f.seats_are ∙ new) in absurd (omega arith)
  idle j (suc n) ss ss' ws ws' (c ∷ cs) cs' shares new hired ext back ready =
      let f = first_crew ss ws c cs hired in
      let e = first_extended (λ now begun asked. HasAsked draws entropy begun now asked) c cs cs' shares ext in
      let b = first_crew ss' ws' e.new e.news (subst (λ l. AreCrewsOf ss' ws' l) e.crews_are back) in
      let seats : f.seat ∷ f.seats ≡ new_seat z j ∷ new_seats z (j + 1) n = sym f.seats_are ∙ new in
      let head : f.seat ≡ new_seat z j = cc in
      let tail : f.seats ≡ new_seats z (j + 1) n = cc in
      let ready' : AreReady start (λ (x : E). (entropy x).faults) (b.seat ∷ b.seats) (b.worker ∷ b.workers) =
      subst (λ (p : List (SeatView Made) × List (Worker N E K)). AreReady start (λ (x : E). (entropy x).faults) p.0 p.1) (λ i. (b.seats_are i, b.workers_are i)) ready
      in
      let has : HasAsked draws entropy c.object e.new.object e.share.asked = e.extends c.object [] (asked_none draws entropy c.object) in
      let lock : b.seat.lock ≡ z = sym (ap (λ (x : ClientView E). x.seat.lock) b.first.object) ∙ (has.lock ∙ (ap (λ (x : ClientView E). x.seat.lock) f.first.object ∙ ap (λ (s : SeatView Made). s.lock) head)) in
      subst (All (IsIdle z)) (sym b.seats_are)
      (All-cons (IsIdle z) b.seat b.seats (record { here = lock; rests = ready'.0.rests }) (idle (j + 1) n f.seats b.seats f.workers b.workers cs e.news e.others tail f.rest e.rest b.rest ready'.1))

module _ {N E K C : Type 0} (start : Rows → Origin → Type 0) (draws : Option (List ℕ) → Option (List ℕ) → Made → Type 0) (listener : N → ListenerView C) (entropy : E → EntropyView) (link : C → LinkView) (clock : K → Option (ℕ → ℕ)) (sessions at_once : ℕ)
    (ss ss' : List (SeatView Made)) (ws ws' : List (Worker N E K)) (counts : Result SessionCounts Failed) where
  -- there are as many seats as workers
  pub worked_pairs : HaveWorked start draws listener entropy link clock sessions at_once ss ws ss' ws' counts → (length ss' ≡ length ws) × (length ss ≡ length ws)
  worked_pairs h =
      let a = crews_pairs ss ws h.crews h.hired in
      let b = crews_pairs ss' ws' h.after h.dismissed in
      let same = extended_pairs _ h.crews h.after h.served.shares h.served.extended in
      (b.0 ∙ (same ∙ sym a.1), a.0 ∙ sym a.1)

  -- all seats are back, in no turn
  pub worked_idle : (z : TableId) (n : ℕ) → ss ≡ new_seats z 0 n → HaveWorked start draws listener entropy link clock sessions at_once ss ws ss' ws' counts → All (IsIdle z) ss'
  worked_idle z n new h = idle start draws entropy z 0 n ss ss' ws ws' h.crews h.after h.served.shares new h.hired h.served.extended h.dismissed h.ready

  pub joined_of : {T : Type 0} (stands : T → Rows → Origin → List Entry → Type 0) (z : TableId) (n : ℕ) (tree : T) → ss ≡ new_seats z 0 n → HaveWorked start draws listener entropy link clock sessions at_once ss ws ss' ws' counts
      → IsWhole (StandsFor start stands) tree ss' → (rows : Rows) × (origin : Origin) × start rows origin × IsJoined stands draws listener entropy link clock sessions at_once rows origin tree ws ws' counts
  joined_of stands z n tree new h whole =
      let r = whole.right in
      let p = parts start draws listener entropy clock z whole.history (tickets_of ss') r.rows r.origin r.begins 0 n ss ss' ws ws' h.crews h.after h.served.shares new h.hired h.served.extended h.dismissed h.ready whole.parts in
      let pairs = worked_pairs h in
      let count = pairs.0 in
      let gone = crews_pairs ss ws h.crews h.hired in
      let back = crews_pairs ss' ws' h.after h.dismissed in
      let drawn = p.drawn in (
        r.rows,
        r.origin,
        r.begins,
        record {
          count = back.1 ∙ (extended_pairs _ h.crews h.after h.served.shares h.served.extended ∙ sym gone.1);
          entries = entries_in whole.history;
          right = r.right;
          shares = h.served.shares;
          are = subst (λ (l : List (WorkerSpan C)). AreShares link (MayStop counts) sessions at_once 0 l h.served.shares) p.spans (h.served.are (λ (c : ClientView E). entropy c.entropy));
          counted = h.served.counted;
          failed = failed_as counts (λ f. subst SomeFailed p.spans (f (λ (c : ClientView E). entropy c.entropy))) h.served.failed;
          callers = p.callers;
          no_others = λ j past. none_of (entries_of j (entries_in whole.history)) (made_by-none j whole.history (whole.no_others j (omega arith)));
          in_time = elim p.in_time [ inl same ↦ inl same | inr late ↦ inr (omega arith) ];
        },
      )
