-- Crews, and the seats and workers that they are made of.
use Rattle.std.proofs.Common.{◌≡◌, ℕ, suc, List, [], ◌∷◌, ◌++◌, length, reverse, refl, sym, ap, subst, ◌∙◌, arith, append_assoc}
use Rattle.std.proofs.lemmas.List.{reverse-append}
use Rattle.std.specs.List.{AllByRecursion}
use Rattle.tree_model.specs.Rows.{Rows}
use Rattle.tree_model.specs.History.{Made, Origin}
use Rattle.turn_lock.specs.SeatView.{SeatView}
use Rattle.session_server.specs.declared.crew.Crew.{Crew}
use Rattle.shared_tree.specs.Clients.{ClientView}
use Rattle.shared_tree.specs.Workers.{IsCrewOf, AreCrewsOf, IsReady, AreReady}
use Rattle.shared_tree.specs.declared.workers.Worker.{Worker}

-- ---- lists

-- a list with one element less at its end, the other way round
pub reverse-more : {A : Type 0} (xs : List A) (x : A) → reverse (xs ++ x ∷ []) ≡ x ∷ reverse xs
reverse-more xs x = reverse-append xs (x ∷ [])

-- what is after a place, with one element more
pub behind : {A : Type 0} (all old new more : List A) (x : A) → all ≡ old ++ more → old ≡ new ++ x ∷ [] → all ≡ new ++ x ∷ more
behind all old new more x is last = is ∙ (ap (λ l. l ++ more) last ∙ append_assoc new (x ∷ []) more)

pub all_last : {A : Type 0} (P : A → Type 0) (xs : List A) (x : A) → AllByRecursion P (xs ++ x ∷ []) → AllByRecursion P xs × P x
all_last P [] x h = (tt, h.0)
all_last P (y ∷ xs) x h = let rest = all_last P xs x h.1 in ((h.0, rest.0), rest.1)

pub none_left : {A : Type 0} (xs : List A) → length xs ≡ 0 → xs ≡ []
none_left [] e = refl
none_left (x ∷ xs) e = absurd (omega arith)

-- ---- seats and workers that are ready

module _ {N E K : Type 0} (start : Rows → Origin → Type 0) (faults_of : E → ℕ) where
  -- the last of them, and the others
  pub ready_last : (ss : List (SeatView Made)) (ws : List (Worker N E K)) (s : SeatView Made) (w : Worker N E K) → AreReady start faults_of (ss ++ s ∷ []) (ws ++ w ∷ []) → AreReady start faults_of ss ws × IsReady start faults_of s w
  ready_last [] [] s w h = (tt, h.0)
  ready_last [] (v ∷ []) s w h = absurd h.1
  ready_last [] (v ∷ (x ∷ ws)) s w h = absurd h.1
  ready_last (t ∷ []) [] s w h = absurd h.1
  ready_last (t ∷ (u ∷ ss)) [] s w h = absurd h.1
  ready_last (t ∷ ss) (v ∷ ws) s w h = let rest = ready_last ss ws s w h.1 in ((h.0, rest.0), rest.1)

  pub ready_of_last : (all_s ss : List (SeatView Made)) (all_w ws : List (Worker N E K)) (s : SeatView Made) (w : Worker N E K) → all_s ≡ ss ++ s ∷ [] → all_w ≡ ws ++ w ∷ [] → AreReady start faults_of all_s all_w
      → AreReady start faults_of ss ws × IsReady start faults_of s w
  ready_of_last all_s ss all_w ws s w seats workers h = ready_last ss ws s w (subst (λ (p : List (SeatView Made) × List (Worker N E K)). AreReady start faults_of p.0 p.1) (λ i. (seats i, workers i)) h)

  -- one more, the other way round
  pub ready_more : (ss ss' : List (SeatView Made)) (ws ws' : List (Worker N E K)) (s : SeatView Made) (w : Worker N E K) → ss' ≡ ss ++ s ∷ [] → ws' ≡ ws ++ w ∷ [] → IsReady start faults_of s w
      → AreReady start faults_of (reverse ss) (reverse ws) → AreReady start faults_of (reverse ss') (reverse ws')
  ready_more ss ss' ws ws' s w seats workers one h =
      subst (λ (p : List (SeatView Made) × List (Worker N E K)). AreReady start faults_of p.0 p.1) (λ i. (sym (ap reverse seats ∙ reverse-more ss s) i, sym (ap reverse workers ∙ reverse-more ws w) i)) (one, h)

-- ---- crews of them

module _ {N E K : Type 0} where
  pub crews_of_none : (ss : List (SeatView Made)) (ws : List (Worker N E K)) → AreCrewsOf ss ws [] → (ss ≡ []) × (ws ≡ [])
  crews_of_none [] [] h = (refl, refl)
  crews_of_none [] (w ∷ ws) h = absurd h
  crews_of_none (s ∷ ss) [] h = absurd h
  crews_of_none (s ∷ ss) (w ∷ ws) h = absurd h

  pub record FirstCrew (ss : List (SeatView Made)) (ws : List (Worker N E K)) (c : Crew N (ClientView E) K) (cs : List (Crew N (ClientView E) K)) : Type 0 where
    pub seat : SeatView Made
    pub seats : List (SeatView Made)
    pub worker : Worker N E K
    pub workers : List (Worker N E K)
    pub seats_are : ss ≡ seat ∷ seats
    pub workers_are : ws ≡ worker ∷ workers
    pub first : IsCrewOf seat worker c
    pub rest : AreCrewsOf seats workers cs

  pub first_crew : (ss : List (SeatView Made)) (ws : List (Worker N E K)) (c : Crew N (ClientView E) K) (cs : List (Crew N (ClientView E) K)) → AreCrewsOf ss ws (c ∷ cs) → FirstCrew ss ws c cs
  first_crew [] [] c cs h = absurd h
  first_crew [] (w ∷ ws) c cs h = absurd h
  first_crew (s ∷ ss) [] c cs h = absurd h
  first_crew (s ∷ ss) (w ∷ ws) c cs h = record { seat = s; seats = ss; worker = w; workers = ws; seats_are = refl; workers_are = refl; first = h.0; rest = h.1 }

  pub crews_pairs : (ss : List (SeatView Made)) (ws : List (Worker N E K)) (cs : List (Crew N (ClientView E) K)) → AreCrewsOf ss ws cs → (length ss ≡ length cs) × (length ws ≡ length cs)
  crews_pairs [] [] [] h = (refl, refl)
  crews_pairs [] [] (c ∷ cs) h = absurd h
  crews_pairs [] (w ∷ ws) cs h = absurd h
  crews_pairs (s ∷ ss) [] cs h = absurd h
  crews_pairs (s ∷ ss) (w ∷ ws) [] h = absurd h
  crews_pairs (s ∷ ss) (w ∷ ws) (c ∷ cs) h = let rest = crews_pairs ss ws cs h.1 in (ap suc rest.0, ap suc rest.1)

  -- of these lists the seats and workers after the ones that are left have crews, which are the other way round
  pub record Hired (all_seats seats : List (SeatView Made)) (all_workers workers : List (Worker N E K)) (crews : List (Crew N (ClientView E) K)) : Type 0 where
    pub gone_seats : List (SeatView Made)
    pub gone_workers : List (Worker N E K)
    pub seats_are : all_seats ≡ seats ++ gone_seats
    pub workers_are : all_workers ≡ workers ++ gone_workers
    pub crews_are : AreCrewsOf gone_seats gone_workers (reverse crews)

  -- one crew more, where crews are the other way round
  pub hired_more : (ss : List (SeatView Made)) (ws : List (Worker N E K)) (cs cs' : List (Crew N (ClientView E) K)) (s : SeatView Made) (w : Worker N E K) (c : Crew N (ClientView E) K) → cs' ≡ cs ++ c ∷ [] → IsCrewOf s w c
      → AreCrewsOf ss ws (reverse cs) → AreCrewsOf (s ∷ ss) (w ∷ ws) (reverse cs')
  hired_more ss ws cs cs' s w c is one h = subst (λ (l : List (Crew N (ClientView E) K)). AreCrewsOf (s ∷ ss) (w ∷ ws) l) (sym (ap reverse is ∙ reverse-more cs c)) (one, h)

  -- if seats and workers do
  pub dismissed_more : (ss ss' : List (SeatView Made)) (ws ws' : List (Worker N E K)) (cs : List (Crew N (ClientView E) K)) (s : SeatView Made) (w : Worker N E K) (c : Crew N (ClientView E) K) → ss' ≡ ss ++ s ∷ [] → ws' ≡ ws ++ w ∷ []
      → IsCrewOf s w c → AreCrewsOf (reverse ss) (reverse ws) cs → AreCrewsOf (reverse ss') (reverse ws') (c ∷ cs)
  dismissed_more ss ss' ws ws' cs s w c seats workers one h =
      subst (λ (p : List (SeatView Made) × List (Worker N E K)). AreCrewsOf p.0 p.1 (c ∷ cs)) (λ i. (sym (ap reverse seats ∙ reverse-more ss s) i, sym (ap reverse workers ∙ reverse-more ws w) i)) (one, h)

  pub dismissed_none : (seats : List (SeatView Made)) (workers : List (Worker N E K)) → seats ≡ [] → workers ≡ [] → AreCrewsOf {N = N} {E = E} {K = K} (reverse seats) (reverse workers) []
  dismissed_none seats workers s w = subst (λ (p : List (SeatView Made) × List (Worker N E K)). AreCrewsOf {N = N} {E = E} {K = K} (reverse p.0) (reverse p.1) []) (λ i. (sym s i, sym w i)) tt

  pub ready_none : (start : Rows → Origin → Type 0) (faults_of : E → ℕ) (seats : List (SeatView Made)) (workers : List (Worker N E K)) → seats ≡ [] → workers ≡ [] → AreReady start faults_of (reverse seats) (reverse workers)
  ready_none start faults_of seats workers s w = subst (λ (p : List (SeatView Made) × List (Worker N E K)). AreReady start faults_of (reverse p.0) (reverse p.1)) (λ i. (sym s i, sym w i)) tt
