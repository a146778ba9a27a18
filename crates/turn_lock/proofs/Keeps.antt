-- Each step keeps the rule.
use Rattle.std.proofs.Common.{◌≡◌, ◌≢◌, ℕ, zero, suc, ◌+◌, ◌-◌, ◌%◌, ◌^◌, ◌<◌, ◌≤◌, min, ◌⊎◌, Bool, true, false, true≢false, if◌then◌else◌, List, [], ◌∷◌, ◌++◌, length, get_or, set, Option, Some, None, sym, refl, ap, ◌∙◌, subst, inl, inr, ⊎_elim, append-nil, arith, le_refl, length-set, length-append, get_or-set_other, get_or-set_same, mod-eq_of_lt}
use mathlib.Core.Logic.{dite}
use mathlib.Core.Option.{none, some, some-ne-none, some-injective}
use native.Mathlib.Decide.{ℕ_discrete, dec_lt}
use Rattle.std.proofs.lemmas.Bool.Decides.{nat_tests}
use lib.ListN.{get_elem?}
use lib.Seq.{set-get_or}
use Rattle.atomic_table.specs.Table.{State, step, keeps, takes, gives, Allows, Splits}
use Rattle.atomic_table.proofs.Lists.{at_set, at_longer, set_here, set_else, set_again}
use Rattle.turn_lock.specs.declared.history.Ended.{Ended}
use Rattle.turn_lock.specs.declared.rule.Met.{Met}
use Rattle.turn_lock.specs.declared.rule.View.{View}
use Rattle.turn_lock.specs.Limits.{turn_limit}
use Rattle.turn_lock.specs.Turns.{turns_by}
use Rattle.turn_lock.specs.Views.{number_or, is_late, has_turn, ended_by, with_ticket, in_turn, after_turn, made_one, newcomer, later}
use Rattle.turn_lock.specs.Rule.{Owns, total, parts_of, drawn_of, unspent_of, turns_of, Fits, Distinct, Numbered, Making, Placed, Kept}
use Rattle.turn_lock.specs.Steps.{drew, looked, gave, MayGive}
use Rattle.turn_lock.proofs.TurnLists.{starts_more, starts_length, turns_by-append_other, turns_by-prefix_none}

late_le : (late : Bool) (parts : ℕ) → (if late then 0 else parts) ≤ parts
late_le true parts = omega arith
late_le false parts = omega arith

-- a place that holds something is below the length
pub in_range : {A : Type 0} (l : List A) (i : ℕ) (a : A) → get_elem? l i ≡ some a → i < length l
in_range [] i a e = absurd (some-ne-none a (sym e))
in_range (x ∷ xs) zero a e = omega arith
in_range (x ∷ xs) (suc i) a e = let h = in_range xs i a e in omega arith

module _ {E : Type 0} where
  -- F holds of each view and its place
  abbrev pub All : (ℕ → View E → Type 0) → List (View E) → Type 0
  All F views = (j : ℕ) (v : View E) → get_elem? views j ≡ some v → F j v

  -- one view changes, and F holds of it and of the others
  pub all_set : (F : ℕ → View E → Type 0) (views : List (View E)) (id : ℕ) (w : View E) → F id w → ((j : ℕ) (u : View E) → j ≢ id → get_elem? views j ≡ some u → F j u) → All F (set views id w)
  all_set F views id w mine others j u e = ⊎_elim (λ (x : (j ≡ id) × (w ≡ u)). subst (λ (y : ℕ × View E). F y.0 y.1) (λ i. (sym x.0 i, x.1 i)) mine)
      (λ (x : (j ≢ id) × (get_elem? views j ≡ some u)). others j u x.0 x.1) (at_set views id j w u e)

  -- a sum after one view changed
  pub total_set : (f : View E → ℕ) (views : List (View E)) (id : ℕ) (v w : View E) → get_elem? views id ≡ some v → total f (set views id w) + f v ≡ total f views + f w
  total_set f [] id v w e = absurd (some-ne-none v (sym e))
  total_set f (x ∷ xs) zero v w e = let same : f x ≡ f v = ap f (some-injective x v e) in omega arith
  total_set f (x ∷ xs) (suc id) v w e = let h = total_set f xs id v w e in omega arith

  total_le : (f g : View E → ℕ) → ((v : View E) → f v ≤ g v) → (views : List (View E)) → total f views ≤ total g views
  total_le f g h [] = le_refl 0
  total_le f g h (x ∷ xs) = let a = h x in let b = total_le f g h xs in omega arith

  unspent_le : (views : List (View E)) → total unspent_of views ≤ total parts_of views
  unspent_le = total_le unspent_of parts_of (λ v. late_le (is_late v.ticket) v.parts)

  more_tickets : (log : List (Ended E)) (x : ℕ) (v : View E) → Fits log x v → Fits log (x + 1) v
  more_tickets log x v f = record {
    starts = f.starts;
    owns = f.owns;
    met = f.met;
    drew = λ t e. let d = f.drew t e in let a = d.0 in (omega arith, d.1, d.2, d.3);
    took = f.took;
    idle = f.idle;
    mine = f.mine;
  }

  -- one view changes, but in its number, what it gave and its parts
  pub making_set : (seats id : ℕ) (views : List (View E)) (v w : View E) → get_elem? views id ≡ some v → w.number ≡ v.number → w.given ≡ v.given → w.parts ≡ v.parts → Making seats views → Making seats (set views id w)
  making_set seats id views v w at n g p h = all_set (λ i u. u.number ≡ Some 0 → u.given + u.parts ≡ seats + 1) views id w (λ e. let same = h id v at (sym n ∙ e) in omega arith) (λ j u other e. h j u e)

  -- one view changes: each number stays where it was
  numbered_set : (next id : ℕ) (views : List (View E)) (v w : View E) → get_elem? views id ≡ some v → w.number ≡ v.number → w.given ≡ v.given → w.met ≡ v.met → Numbered next views → Numbered next (set views id w)
  numbered_set next id views v w at n g m h =
      let back : (i : ℕ) (u : View E) → get_elem? (set views id w) i ≡ some u → (u' : View E) × (get_elem? views i ≡ some u') × (u.number ≡ u'.number) × (u.given ≡ u'.given) × (u.met ≡ u'.met)
      = all_set (λ i u. (u' : View E) × (get_elem? views i ≡ some u') × (u.number ≡ u'.number) × (u.given ≡ u'.given) × (u.met ≡ u'.met)) views id w (v, at, n, g, m) (λ j u other e. (u, e, refl, refl, refl)) in (
        (λ i k u e is. let b = back i u e in let o = h.0 i k b.0 b.1 (sym b.2 ∙ is) in (o.0, λ z. b.3 ∙ o.1 z)),
        (λ i j k u y e f p q. let b = back i u e in let c = back j y f in h.1 i j k b.0 c.0 b.1 c.1 (sym b.2 ∙ p) (sym c.2 ∙ q)),
        (λ i j k o u y z e f at_k p. let b = back i u e in let c = back j y f in h.2 i j k o b.0 c.0 z b.1 c.1 (subst (λ (l : List (Met E)). get_elem? l k ≡ some z) c.4 at_k) (sym b.2 ∙ p)),
        (λ j k o y z f at_k is. let c = back j y f in h.3 j k o c.0 z c.1 (subst (λ (l : List (Met E)). get_elem? l k ≡ some z) c.4 at_k) is),
      )

  distinct_new : (id x : ℕ) (views : List (View E)) (w : View E) → w.ticket ≡ Some x → ((j t : ℕ) (u : View E) → get_elem? views j ≡ some u → u.ticket ≡ Some t → t < x) → Distinct views → Distinct (set views id w)
  distinct_new id x views w is below h i j t u y e f p q lt =
      ⊎_elim
      (λ (a : (i ≡ id) × (w ≡ u)). ⊎_elim (λ (b : (j ≡ id) × (w ≡ y)). a.0 ∙ sym b.0)
      (λ (b : (j ≢ id) × (get_elem? views j ≡ some y)). let l = below j t y b.1 q in let same : Some x ≡ Some t = sym is ∙ (ap (λ (z : View E). z.ticket) a.1 ∙ p) in let same' : x ≡ t = cc in absurd (omega arith)) (at_set views id j w y f))
      (λ (a : (i ≢ id) × (get_elem? views i ≡ some u)). ⊎_elim
      (λ (b : (j ≡ id) × (w ≡ y)). let l = below i t u a.1 p in let same : Some x ≡ Some t = sym is ∙ (ap (λ (z : View E). z.ticket) b.1 ∙ q) in let same' : x ≡ t = cc in absurd (omega arith))
      (λ (b : (j ≢ id) × (get_elem? views j ≡ some y)). h i j t u y a.1 b.1 p q lt) (at_set views id j w y f))
      (at_set views id i w u e)

  -- one view changes, and gets no ticket
  pub distinct_old : (id : ℕ) (views : List (View E)) (v w : View E) → get_elem? views id ≡ some v → ((t : ℕ) → w.ticket ≡ Some t → v.ticket ≡ Some t) → Distinct views → Distinct (set views id w)
  distinct_old id views v w at same h i j t u y e f p q lt =
      let back : (k : ℕ) (z : View E) → get_elem? (set views id w) k ≡ some z → (z' : View E) × (get_elem? views k ≡ some z') × ((t : ℕ) → z.ticket ≡ Some t → z'.ticket ≡ Some t)
      = all_set (λ k z. (z' : View E) × (get_elem? views k ≡ some z') × ((t : ℕ) → z.ticket ≡ Some t → z'.ticket ≡ Some t)) views id w (v, at, same) (λ k z other g. (z, g, λ t g'. g')) in
      let b = back i u e in let c = back j y f in h i j t b.0 c.0 b.1 c.1 (b.2 t p) (c.2 t q) lt

  owns_more : (log seen : List (Ended E)) (e : Ended E) (by : Option ℕ) → ((k : ℕ) → by ≡ Some k → e.by ≢ k) → Owns log by seen → Owns (log ++ e ∷ []) by seen
  owns_more log seen e by other h k is = turns_by-append_other k log e (other k is) ∙ h k is

  snoc_at : (l : List (View E)) (a b : View E) (j : ℕ) → get_elem? (l ++ a ∷ []) j ≡ some b → (get_elem? l j ≡ some b) ⊎ ((j ≡ length l) × (a ≡ b))
  snoc_at [] a b zero e = inr (refl, some-injective a b e)
  snoc_at [] a b (suc j) e = absurd (some-ne-none b (sym e))
  snoc_at (x ∷ xs) a b zero e = inl e
  snoc_at (x ∷ xs) a b (suc j) e = ⊎_elim (λ h. inl h) (λ (t : (j ≡ length xs) × (a ≡ b)). inr (ap suc t.0, t.1)) (snoc_at xs a b j e)

  all_snoc : (F : ℕ → View E → Type 0) (views : List (View E)) (w : View E) → All F views → F (length views) w → All F (views ++ w ∷ [])
  all_snoc F views w all mine j u e = ⊎_elim (all j u) (λ (t : (j ≡ length views) × (w ≡ u)). subst (λ (y : ℕ × View E). F y.0 y.1) (λ i. (sym t.0 i, t.1 i)) mine) (snoc_at views w u j e)

  total_snoc : (f : View E → ℕ) (views : List (View E)) (w : View E) → total f (views ++ w ∷ []) ≡ total f views + f w
  total_snoc f [] w = omega arith
  total_snoc f (x ∷ xs) w = let h = total_snoc f xs w in omega arith

  distinct_snoc : (views : List (View E)) (r : View E) → r.ticket ≡ None → Distinct views → Distinct (views ++ r ∷ [])
  distinct_snoc views r none_yet h i j t u w e f p q lt =
      let not_new : (z : View E) → r ≡ z → z.ticket ≡ Some t → ⊥ = λ z is has. let clash : None ≡ Some t = sym none_yet ∙ (ap (λ (y : View E). y.ticket) is ∙ has) in cc in
      ⊎_elim (λ a. ⊎_elim (λ b. h i j t u w a b p q lt) (λ (b : (j ≡ length views) × (r ≡ w)). absurd (not_new w b.1 q)) (snoc_at views r w j f))
      (λ (a : (i ≡ length views) × (r ≡ u)). absurd (not_new u a.1 p)) (snoc_at views r u i e)

  -- a view is added whose number, if any, is new
  pub numbered_snoc : (next : ℕ) (views : List (View E)) (r : View E) → r.met ≡ []
      → ((n : ℕ) → r.number ≡ Some n → (n < next) × (n ≢ 0) × ((i : ℕ) (u : View E) → get_elem? views i ≡ some u → u.number ≡ Some n → ⊥)
      × ((j k : ℕ) (w : View E) (m : Met E) → get_elem? views j ≡ some w → get_elem? w.met k ≡ some m → m.by ≡ Some n → ⊥))
      → Numbered next views → Numbered next (views ++ r ∷ [])
  numbered_snoc next views r unmet fresh h =
      let none_met : (z : View E) (k : ℕ) (m : Met E) → r ≡ z → get_elem? z.met k ≡ some m → ⊥
      = λ z k m is e. some-ne-none m (sym (subst (λ (l : List (Met E)). get_elem? l k ≡ some m) (sym (ap (λ (y : View E). y.met) is) ∙ unmet) e)) in
      let own : (z : View E) (n : ℕ) → r ≡ z → z.number ≡ Some n → r.number ≡ Some n = λ z n is e. ap (λ (y : View E). y.number) is ∙ e in (
        (λ i n u e is. ⊎_elim (λ a. h.0 i n u a is) (λ (a : (i ≡ length views) × (r ≡ u)). let f = fresh n (own u n a.1 is) in (f.0, λ z. absurd (f.1 z))) (snoc_at views r u i e)),
        (λ i j n u w e f p q. ⊎_elim
            (λ a. ⊎_elim (λ b. h.1 i j n u w a b p q) (λ (b : (j ≡ length views) × (r ≡ w)). absurd ((fresh n (own w n b.1 q)).2 i u a p)) (snoc_at views r w j f))
            (λ (a : (i ≡ length views) × (r ≡ u)). ⊎_elim (λ b. absurd ((fresh n (own u n a.1 p)).2 j w b q)) (λ (b : (j ≡ length views) × (r ≡ w)). a.0 ∙ sym b.0) (snoc_at views r w j f)) (snoc_at views r u i e)),
        (λ i j k n u w m e f g p q. ⊎_elim
            (λ b. ⊎_elim (λ a. h.2 i j k n u w m a b g p q) (λ (a : (i ≡ length views) × (r ≡ u)). (fresh n (own u n a.1 p)).3 j k w m b g q) (snoc_at views r u i e))
            (λ (b : (j ≡ length views) × (r ≡ w)). none_met w k m b.1 g) (snoc_at views r w j f)),
        (λ j k n w m f g q. ⊎_elim (λ b. h.3 j k n w m b g q) (λ (b : (j ≡ length views) × (r ≡ w)). absurd (none_met w k m b.1 g)) (snoc_at views r w j f)),
      )

  -- the maker counts one more
  numbered_made : (next id : ℕ) (views : List (View E)) (v w : View E) → get_elem? views id ≡ some v → v.number ≡ Some 0 → w.number ≡ v.number → w.given ≡ v.given + 1 → w.met ≡ v.met → Numbered next views → Numbered (next + 1) (set views id w)
  numbered_made next id views v w at zero_is n g m h =
      let back : (i : ℕ) (u : View E) → get_elem? (set views id w) i ≡ some u → (u' : View E) × (get_elem? views i ≡ some u') × (u.number ≡ u'.number) × (u.met ≡ u'.met) × (i ≡ id → u ≡ w)
      = all_set (λ i u. (u' : View E) × (get_elem? views i ≡ some u') × (u.number ≡ u'.number) × (u.met ≡ u'.met) × (i ≡ id → u ≡ w)) views id w (v, at, n, m, (λ _. refl)) (λ j u other e. (u, e, refl, refl, λ is. absurd (other is))) in
      let given_is : v.given ≡ next = (h.0 id 0 v at zero_is).1 refl in (
        (λ i k u e is. let b = back i u e in let o = h.0 i k b.0 b.1 (sym b.2 ∙ is) in let low = o.0 in
            (omega arith, λ z. let here : i ≡ id = h.1 i id 0 b.0 v b.1 at (sym b.2 ∙ (is ∙ ap Some z)) zero_is in ap (λ (y : View E). y.given) (b.4 here) ∙ (g ∙ ap (λ (y : ℕ). y + 1) given_is))),
        (λ i j k u y e f p q. let b = back i u e in let c = back j y f in h.1 i j k b.0 c.0 b.1 c.1 (sym b.2 ∙ p) (sym c.2 ∙ q)),
        (λ i j k o u y z e f at_k p. let b = back i u e in let c = back j y f in h.2 i j k o b.0 c.0 z b.1 c.1 (subst (λ (l : List (Met E)). get_elem? l k ≡ some z) c.3 at_k) (sym b.2 ∙ p)),
        (λ j k o y z f at_k is. let c = back j y f in let low = h.3 j k o c.0 z c.1 (subst (λ (l : List (Met E)). get_elem? l k ≡ some z) c.3 at_k) is in omega arith),
      )

  -- a sum after one view changed, but not in what is summed
  pub total_same : (f : View E → ℕ) (views : List (View E)) (id : ℕ) (v w : View E) → get_elem? views id ≡ some v → f w ≡ f v → total f (set views id w) ≡ total f views
  total_same f views id v w at same = let h = total_set f views id v w at in omega arith

module _ {S E : Type 0} (stands : S → List (Ended E) → Type 0) where
  -- the state of the table
  abbrev pub St : Type 0
  St = State (Option S) (View E)

  -- how many tickets were drawn
  abbrev pub tickets : St → ℕ
  tickets s = get_or s.words 0 0

  -- a view that had not taken the slot changes, and has not taken it afterwards
  pub placed_set : (log : List (Ended E)) (id : ℕ) (s : St) (v w : View E) → get_elem? s.views id ≡ some v → v.took ≡ false → w.took ≡ false → Placed stands log s.homes s.views → Placed stands log s.homes (set s.views id w)
  placed_set log id s v w at free free' p = ⊎_elim
      (λ (a : (i : ℕ) × (u : View E) × (get_elem? s.views i ≡ some u) × (u.took ≡ true)).
      let other : a.0 ≢ id = λ e. let same : v ≡ a.1 = some-injective v a.1 (sym at ∙ (ap (get_elem? s.views) (sym e) ∙ a.2)) in true≢false (sym a.3 ∙ (ap (λ (z : View E). z.took) (sym same) ∙ free)) in
      inl (a.0, a.1, set_else s.views id a.0 w other ∙ a.2, a.3))
      (λ (b : ((y : S) × (get_elem? s.homes 0 ≡ some (some (Some y))) × stands y log) × ((i : ℕ) (u : View E) → get_elem? s.views i ≡ some u → u.took ≡ false)).
      inr (b.0, all_set (λ i u. u.took ≡ false) s.views id w free' (λ j u other e. b.1 j u e)))
      p

  fits_drawn : (log : List (Ended E)) (x : ℕ) (v : View E) (n : ℕ) → Fits log x v → v.number ≡ Some n → 0 < v.parts → v.took ≡ false → (x < turn_limit → length log ≤ x) → Fits log (x + 1) (with_ticket x v)
  fits_drawn log x v n f is some_part free later = record {
    starts = f.starts;
    owns = f.owns;
    met = f.met;
    drew = λ t e. let same : x ≡ t = cc in (omega arith, (λ (l : t < turn_limit). let l' : x < turn_limit = omega arith in let m = later l' in omega arith), some_part, λ _. (n, is));
    took = λ e. absurd (true≢false (sym e ∙ free));
    idle = λ z. absurd (omega arith);
    mine = f.mine;
  }

  turns_new : (x : ℕ) → Dec (x < turn_limit) → (x < turn_limit → has_turn (Some x) ≡ 1) × (turn_limit ≤ x → has_turn (Some x) ≡ 0)
  turns_new x d = ((λ l. grind (arith, nat_tests)), λ l. grind (arith, nat_tests))

  late_new : (x : ℕ) → (x < turn_limit → is_late (Some x) ≡ false) × (turn_limit ≤ x → is_late (Some x) ≡ true)
  late_new x = ((λ l. grind (arith, nat_tests)), λ l. grind (arith, nat_tests))

  -- the counts after a ticket was drawn
  counts_drawn : (seats x len : ℕ) (views : List (View E)) (id : ℕ) (v : View E) → get_elem? views id ≡ some v → 0 < v.parts → v.ticket ≡ None → total parts_of views ≡ seats
      → x + total unspent_of views ≤ turn_limit + seats → total turns_of views + len ≡ min x turn_limit
      → (x + 1 + total unspent_of (set views id (with_ticket x v)) ≤ turn_limit + seats) × (total turns_of (set views id (with_ticket x v)) + len ≡ min (x + 1) turn_limit)
  counts_drawn seats x len views id v at some_part none_yet parts bounded waiting =
      let w : View E = with_ticket x v in
      let vs : List (View E) = set views id w in
      let p = total_set parts_of views id v w at in
      let u = total_set unspent_of views id v w at in
      let t = total_set turns_of views id v w at in
      let low = unspent_le vs in
      let u0 : unspent_of v ≡ v.parts = ap (λ z. if is_late z then 0 else v.parts) none_yet in
      let t0 : turns_of v ≡ 0 = ap has_turn none_yet in
      dite (dec_lt x turn_limit)
      (λ l. let tw : turns_of w ≡ 1 = (turns_new x (dec_lt x turn_limit)).0 l in (omega arith, omega arith))
      (λ more. let le : turn_limit ≤ x = omega arith in let tw : turns_of w ≡ 0 = (turns_new x (dec_lt x turn_limit)).1 le in
      let uw : unspent_of w ≡ 0 = ap (λ (b : Bool). if b then 0 else v.parts) ((late_new x).1 le) in (omega arith, omega arith))

  waiting_le : (log : List (Ended E)) (x turns : ℕ) → turns + length log ≡ min x turn_limit → length log ≤ x
  waiting_le log x turns e = omega arith

  drawn_state : (seats slots id : ℕ) (v : View E) (n : ℕ) (s : St) → v.number ≡ Some n → 0 < v.parts → v.ticket ≡ None → v.took ≡ false → (k : Kept stands seats s) → get_elem? s.views id ≡ some v
      → Kept stands seats record { words = set s.words 0 (tickets s + 1); homes = s.homes; views = set s.views id (with_ticket (tickets s) v) }
  drawn_state seats slots id v n s is some_part none_yet free k at =
      let x : ℕ = tickets s in
      let w : View E = with_ticket x v in
      let wide = k.wide in
      let now : get_or (set s.words 0 (x + 1)) 0 0 ≡ x + 1 = get_or-set_same s.words 0 (x + 1) 0 (omega arith) in
      let counts = counts_drawn seats x (length k.log) s.views id v at some_part none_yet k.parts k.bounded k.waiting in
      let low : length k.log ≤ x = waiting_le k.log x (total turns_of s.views) k.waiting in
      let parts = total_set parts_of s.views id v w at in
      let drawn = total_set drawn_of s.views id v w at in
      let was = k.drawn in
      let all : total parts_of s.views ≡ seats = k.parts in record {
        log = k.log;
        next = k.next;
        few = k.few;
        low = k.low;
        making = making_set seats id s.views v w at refl refl refl k.making;
        strangers = k.strangers;
        wide = length-set s.words 0 (x + 1) ∙ wide;
        ended_is = get_or-set_other s.words 0 1 (x + 1) 0 (λ e. omega arith) ∙ k.ended_is;
        each = subst (λ (z : ℕ). (j : ℕ) (u : View E) → get_elem? (set s.views id w) j ≡ some u → Fits k.log z u) (sym now)
            (all_set (λ j u. Fits k.log (x + 1) u) s.views id w (fits_drawn k.log x v n (k.each id v at) is some_part free (λ l. low)) (λ j u other e. more_tickets k.log x u (k.each j u e)));
        distinct = distinct_new id x s.views w refl (λ j t u e g. ((k.each j u e).drew t g).0) k.distinct;
        numbered = numbered_set k.next id s.views v w at refl refl refl k.numbered;
        parts = omega arith;
        drawn = subst (λ (z : ℕ). total drawn_of (set s.views id w) ≡ z) (sym now) (omega arith);
        bounded = subst (λ (z : ℕ). z + total unspent_of (set s.views id w) ≤ turn_limit + seats) (sym now) counts.0;
        waiting = subst (λ (z : ℕ). total turns_of (set s.views id w) + length k.log ≡ min z turn_limit) (sym now) counts.1;
        placed = placed_set k.log id s v w at free free k.placed;
      }

  -- a ticket is drawn
  pub draws : (seats slots id : ℕ) (v : View E) (c : List (ℕ × Option S)) (n : ℕ) → v.number ≡ Some n → 0 < v.parts → v.ticket ≡ None → v.took ≡ false
      → Allows (Kept stands seats) slots id (v, c) 0 (λ x. (x + 1) % 2 ^ 64) (drew (step slots 0 1 0 none) (v, c))
  draws seats slots id v c n is some_part none_yet free s k _ at _ =
      let x : ℕ = tickets s in
      let few = k.few in
      let bounded = k.bounded in
      let fits : (x + 1) % 2 ^ 64 ≡ x + 1 = mod-eq_of_lt (omega arith) in (
        with_ticket x v,
        keeps,
        tt,
        subst (λ (z : ℕ). Kept stands seats record { words = set s.words 0 z; homes = s.homes; views = set s.views id (with_ticket x v) }) (sym fits) (drawn_state seats slots id v n s is some_part none_yet free k at),
        refl,
      )

  -- while this view waits for its turn, and the turn has come, the value is at home
  at_home : (seats t id : ℕ) (v : View E) (s : St) (k : Kept stands seats s) → get_elem? s.views id ≡ some v → v.ticket ≡ Some t → t < turn_limit → v.took ≡ false → t ≡ length k.log
      → (y : S) × (get_elem? s.homes 0 ≡ some (some (Some y))) × stands y k.log
  at_home seats t id v s k at has lt free is = ⊎_elim
      (λ (a : (i : ℕ) × (u : View E) × (get_elem? s.views i ≡ some u) × (u.took ≡ true)).
      let told = (k.each a.0 a.1 a.2).took a.3 in
      let one : a.0 ≡ id = k.distinct a.0 id t a.1 v a.2 at (told.0 ∙ ap Some (sym is)) has lt in
      let same : a.1 ≡ v = some-injective a.1 v (sym a.2 ∙ (ap (get_elem? s.views) one ∙ at)) in
      absurd (true≢false (sym a.3 ∙ (ap (λ (z : View E). z.took) same ∙ free))))
      (λ (b : ((y : S) × (get_elem? s.homes 0 ≡ some (some (Some y))) × stands y k.log) × ((i : ℕ) (u : View E) → get_elem? s.views i ≡ some u → u.took ≡ false)). b.0)
      k.placed

  taken_state : (seats t id : ℕ) (v : View E) (s : St) (k : Kept stands seats s) → get_elem? s.views id ≡ some v → v.ticket ≡ Some t → t < turn_limit → v.took ≡ false → t ≡ length k.log
      → Kept stands seats record { words = s.words; homes = set s.homes 0 none; views = set s.views id (in_turn v k.log) }
  taken_state seats t id v s k at has lt free is =
      let w : View E = in_turn v k.log in
      let mine = k.each id v at in record {
        log = k.log;
        next = k.next;
        few = k.few;
        low = k.low;
        making = making_set seats id s.views v w at refl refl refl k.making;
        strangers = k.strangers;
        wide = k.wide;
        ended_is = k.ended_is;
        each = all_set (λ j u. Fits k.log (tickets s) u) s.views id w record {
          starts = ([], sym (append-nil k.log));
          owns = λ n e. refl;
          met = λ i m e. let h = mine.met i m e in (h.0, h.1, starts_length k.log m.seen h.0);
          drew = mine.drew;
          took = λ e. (has ∙ ap Some is, omega arith, refl);
          idle = mine.idle;
          mine = λ n e. mine.owns n e ∙ mine.mine n e;
        } (λ j u other e. k.each j u e);
        distinct = distinct_old id s.views v w at (λ z e. e) k.distinct;
        numbered = numbered_set k.next id s.views v w at refl refl refl k.numbered;
        parts = total_same parts_of s.views id v w at refl ∙ k.parts;
        drawn = total_same drawn_of s.views id v w at refl ∙ k.drawn;
        bounded = subst (λ (z : ℕ). tickets s + z ≤ turn_limit + seats) (sym (total_same unspent_of s.views id v w at refl)) k.bounded;
        waiting = subst (λ (z : ℕ). z + length k.log ≡ min (tickets s) turn_limit) (sym (total_same turns_of s.views id v w at refl)) k.waiting;
        placed = inl (id, w, set_here s.views id w (in_range s.views id v at), refl);
      }

  -- the count of turns is found, and if it is the ticket, the slot is taken
  pub looks : (seats slots id : ℕ) (v : View E) (c : List (ℕ × Option S)) (t : ℕ) → v.ticket ≡ Some t → t < turn_limit → v.took ≡ false
      → Allows (Kept stands seats) slots id (v, c) 1 (λ x. x) (looked stands (step slots 1 0 0 none) (v, c))
  looks seats slots id v c t has lt free s k _ at _ =
      let x : ℕ = get_or s.words 1 0 in
      let still : set s.words 1 x ≡ s.words = set-get_or s.words 1 0 in
      let ended = k.ended_is in
      dite (ℕ_discrete t x)
      (λ is. let here : t ≡ length k.log = omega arith in let home = at_home seats t id v s k at has lt free here in let mine = k.each id v at in (
        in_turn v k.log,
        takes 0 (Some home.0),
        home.1,
        subst (λ (ws : List ℕ). Kept stands seats record { words = ws; homes = set s.homes 0 none; views = set s.views id (in_turn v k.log) }) (sym still) (taken_state seats t id v s k at has lt free here),
        ((λ _. record { history = k.log; value = home.0; after = refl; starts = mine.starts; count = omega arith; owns = mine.owns; right = home.2 }), λ not_yet. absurd (not_yet (has ∙ ap Some is))),
      ))
      (λ other. (
        v,
        keeps,
        tt,
        subst (λ (ws : List ℕ). Kept stands seats record { words = ws; homes = s.homes; views = set s.views id v }) (sym still)
            (subst (λ (vs : List (View E)). Kept stands seats record { words = s.words; homes = s.homes; views = vs }) (sym (set_again s.views id v at)) k),
        ((λ e. let same : Some t ≡ Some x = sym has ∙ e in let same' : t ≡ x = cc in absurd (other same')), λ _. refl),
      ))

  fits_ended : (log : List (Ended E)) (x id j : ℕ) (v u : View E) (e : Ended E) → Fits log x u → v.ticket ≡ Some (length log) → length log < turn_limit
      → (u.ticket ≡ Some (length log) → ⊥) → ((k : ℕ) → u.number ≡ Some k → e.by ≢ k) → ((i k : ℕ) (m : Met E) → get_elem? u.met i ≡ some m → m.by ≡ Some k → e.by ≢ k) → Fits (log ++ e ∷ []) x u
  fits_ended log x id j v u e f has lt apart other met_other = record {
    starts = starts_more log u.seen e f.starts;
    owns = owns_more log u.seen e u.number other f.owns;
    met = λ i m at. let h = f.met i m at in (starts_more log m.seen e h.0, owns_more log m.seen e m.by (λ k. met_other i k m at) h.1, h.2);
    drew = λ t is. let d = f.drew t is in (
      d.0,
      (λ lt'. let a = d.1 lt' in let ne : t ≢ length log = λ z. apart (is ∙ ap Some z) in let len = length-append log (e ∷ []) in omega arith),
      d.2,
      d.3,
    );
    took = λ is. absurd (apart (f.took is).0);
    idle = f.idle;
    mine = f.mine;
  }

  fits_done : (log : List (Ended E)) (x : ℕ) (v : View E) (e : Ended E) → Fits log x v → ((i k : ℕ) (m : Met E) → get_elem? v.met i ≡ some m → m.by ≡ Some k → e.by ≢ k) → Fits (log ++ e ∷ []) x (after_turn v (log ++ e ∷ []))
  fits_done log x v e f met_other = record {
    starts = ([], sym (append-nil (log ++ e ∷ [])));
    owns = λ n is. refl;
    met = λ i m at. let h = f.met i m at in (starts_more log m.seen e h.0, owns_more log m.seen e m.by (λ k. met_other i k m at) h.1, starts_length (log ++ e ∷ []) m.seen (starts_more log m.seen e h.0));
    drew = λ t is. let none_is : None ≡ Some t = is in cc;
    took = λ is. absurd (true≢false (sym is));
    idle = f.idle;
    mine = λ n is. ap (λ (k : ℕ). turns_by k (log ++ e ∷ [])) (sym (ap number_or is));
  }

  done_counts : (seats x len : ℕ) (views : List (View E)) (id : ℕ) (v : View E) (log : List (Ended E)) → get_elem? views id ≡ some v → v.ticket ≡ Some len → len < turn_limit
      → x + total unspent_of views ≤ turn_limit + seats → total turns_of views + len ≡ min x turn_limit
      → (x + total unspent_of (set views id (after_turn v log)) ≤ turn_limit + seats) × (total turns_of (set views id (after_turn v log)) + (len + 1) ≡ min x turn_limit)
  done_counts seats x len views id v log at has lt bounded waiting =
      let w : View E = after_turn v log in
      let u = total_set unspent_of views id v w at in
      let t = total_set turns_of views id v w at in
      let tv : turns_of v ≡ 1 = ap has_turn has ∙ (turns_new len (dec_lt len turn_limit)).0 lt in
      let uv : unspent_of v ≡ v.parts = ap (λ z. if is_late z then 0 else v.parts) has ∙ ap (λ (b : Bool). if b then 0 else v.parts) ((late_new len).0 lt) in
      (omega arith, omega arith)

  given_state : (seats id : ℕ) (v : View E) (y : S) (e : Option E) (s : St) (k : Kept stands seats s) → get_elem? s.views id ≡ some v → 0 < length s.homes → v.ticket ≡ Some (length k.log) → length k.log < turn_limit
      → (n : ℕ) → v.number ≡ Some n → stands y (k.log ++ ended_by v e ∷ [])
      → Kept stands seats record { words = set s.words 1 (length k.log + 1); homes = set s.homes 0 (some (Some y)); views = set s.views id (after_turn v (k.log ++ ended_by v e ∷ [])) }
  given_state seats id v y e s k at slot has lt n is right =
      let x : ℕ = tickets s in
      let d : Ended E = ended_by v e in
      let log' : List (Ended E) = k.log ++ d ∷ [] in
      let w : View E = after_turn v log' in
      let wide = k.wide in
      let n_is : d.by ≡ n = ap number_or is in
      let x_is : get_or (set s.words 1 (length k.log + 1)) 0 0 ≡ x = get_or-set_other s.words 1 0 (length k.log + 1) 0 (λ z. omega arith) in
      let counts = done_counts seats x (length k.log) s.views id v log' at has lt k.bounded k.waiting in
      let len : length log' ≡ length k.log + 1 = length-append k.log (d ∷ []) in
      let met_other : (j i m : ℕ) (u : View E) (z : Met E) → get_elem? s.views j ≡ some u → get_elem? u.met i ≡ some z → z.by ≡ Some m → d.by ≢ m
      = λ j i m u z e f g h. k.numbered.2 id j i m v u z at e f (is ∙ ap Some (sym n_is ∙ h)) g in
      let alone : (j : ℕ) (u : View E) → j ≢ id → get_elem? s.views j ≡ some u → u.ticket ≡ Some (length k.log) → ⊥
      = λ j u other e f. other (k.distinct j id (length k.log) u v e at f has lt) in record {
        log = log';
        next = k.next;
        few = k.few;
        low = k.low;
        making = making_set seats id s.views v w at refl refl refl k.making;
        strangers = λ m past. turns_by-append_other m k.log d (λ z. let low = (k.numbered.0 id n v at is).0 in let n_is' = n_is in omega arith) ∙ k.strangers m past;
        wide = length-set s.words 1 (length k.log + 1) ∙ wide;
        ended_is = get_or-set_same s.words 1 (length k.log + 1) 0 (omega arith) ∙ sym len;
        each = subst (λ (z : ℕ). (j : ℕ) (u : View E) → get_elem? (set s.views id w) j ≡ some u → Fits log' z u) (sym x_is)
            (all_set (λ j u. Fits log' x u) s.views id w (fits_done k.log x v d (k.each id v at) (λ i m z f g. met_other id i m v z at f g))
            (λ j u other f. fits_ended k.log x id j v u d (k.each j u f) has lt (alone j u other f)
            (λ m g h. other (k.numbered.1 j id m u v f at g (is ∙ ap Some (sym n_is ∙ h)))) (λ i m z g h. met_other j i m u z f g h)));
        distinct = distinct_old id s.views v w at (λ t z. let none_is : None ≡ Some t = z in cc) k.distinct;
        numbered = numbered_set k.next id s.views v w at refl refl refl k.numbered;
        parts = total_same parts_of s.views id v w at refl ∙ k.parts;
        drawn = total_same drawn_of s.views id v w at refl ∙ (k.drawn ∙ sym x_is);
        bounded = subst (λ (z : ℕ). z + total unspent_of (set s.views id w) ≤ turn_limit + seats) (sym x_is) counts.0;
        waiting = subst (λ (z : ℕ). total turns_of (set s.views id w) + length log' ≡ min z turn_limit) (sym x_is) (subst (λ (z : ℕ). total turns_of (set s.views id w) + z ≡ min x turn_limit) (sym len) counts.1);
        placed = inr (
          (y, set_here s.homes 0 (some (Some y)) slot, right),
          all_set (λ j u. u.took ≡ false) s.views id w refl
              (λ j u other f. let b : Bool = u.took in elim b as (λ (z : Bool). u.took ≡ z → u.took ≡ false) [ true ↦ (λ g. absurd (alone j u other f ((k.each j u f).took g).0)) | false ↦ (λ g. g) ] refl),
        );
      }

  -- the turn ends, and the slot is given back
  pub hands_back : (seats slots id : ℕ) (v : View E) (y : S) (is : Option E → Type 0) → 0 < slots → v.took ≡ true → MayGive stands is v y
      → Allows (Kept stands seats) slots id (v, (0, Some y) ∷ []) 1 (λ x. (x + 1) % 2 ^ 64) (gave stands is (step slots 1 1 0 none) (v, (0, Some y) ∷ []))
  hands_back seats slots id v y is some_slot took may s k long at _ =
      let e : Option E = may.entry in
      let right = may.right in
      let told = (k.each id v at).took took in
      let who = (k.each id v at).drew (length k.log) told.0 in let who = who.3 told.1 in
      let x : ℕ = get_or s.words 1 0 in
      let ended = k.ended_is in
      let lt = told.1 in
      let fits : (x + 1) % 2 ^ 64 ≡ length k.log + 1 = mod-eq_of_lt (omega arith) ∙ ap (λ (z : ℕ). z + 1) ended in
      let log : List (Ended E) = v.seen in
      let right' : stands y (k.log ++ ended_by v e ∷ []) = subst (λ (l : List (Ended E)). stands y (l ++ ended_by v e ∷ [])) told.2 right in (
        after_turn v (v.seen ++ ended_by v e ∷ []),
        gives,
        tt,
        subst (λ (z : ℕ × List (Ended E)). Kept stands seats record { words = set s.words 1 z.0; homes = set s.homes 0 (some (Some y)); views = set s.views id (after_turn v (z.1 ++ ended_by v e ∷ [])) })
            (λ i. (sym fits i, sym told.2 i)) (given_state seats id v y e s k at (omega arith) told.0 told.1 who.0 who.1 right'),
        (λ z same. let pair : Some y ≡ Some z = ap (λ (l : List (ℕ × Option S)). (get_or l 0 (0, Some y)).1) same in let one : y ≡ z = cc in record { entry = e; is = may.is; after = refl; right = subst (λ (x : S). stands x (v.seen ++ ended_by v e ∷ [])) one right }),
      )

  -- a state is kept but for a view to come, which can do nothing, or has the next number
  pub record Awaits (seats next : ℕ) (s : St) (r : View E) (log : List (Ended E)) : Type 0 where
    pub few : seats < turn_limit
    pub low : next ≤ seats
    pub making : Making seats s.views
    pub no_maker : r.number ≡ Some 0 → ⊥
    pub wide : length s.words ≡ 2
    pub strangers : (n : ℕ) → next ≤ n → turns_by n log ≡ []
    pub ended_is : get_or s.words 1 0 ≡ length log
    pub each : (j : ℕ) (v : View E) → get_elem? s.views j ≡ some v → Fits log (tickets s) v
    pub mine : Fits log (tickets s) r
    pub distinct : Distinct s.views
    pub none_yet : r.ticket ≡ None
    pub numbered : Numbered next (s.views ++ r ∷ [])
    pub parts : total parts_of s.views + r.parts ≡ seats
    pub drawn : total drawn_of s.views + r.drawn ≡ tickets s
    pub bounded : tickets s + (total unspent_of s.views + r.parts) ≤ turn_limit + seats
    pub waiting : total turns_of s.views + length log ≡ min (tickets s) turn_limit
    pub placed : Placed stands log s.homes s.views
    pub free : r.took ≡ false

  -- it is added
  pub arrived : (seats next : ℕ) (s : St) (r : View E) (log : List (Ended E)) → Awaits seats next s r log → Kept stands seats record { words = s.words; homes = s.homes; views = s.views ++ r ∷ [] }
  arrived seats next s r log k =
      let p = total_snoc parts_of s.views r in
      let d = total_snoc drawn_of s.views r in
      let u = total_snoc unspent_of s.views r in
      let t = total_snoc turns_of s.views r in
      let ur : unspent_of r ≡ r.parts = ap (λ z. if is_late z then 0 else r.parts) k.none_yet in
      let tr : turns_of r ≡ 0 = ap has_turn k.none_yet in record {
        log = log;
        next = next;
        few = k.few;
        low = k.low;
        making = all_snoc (λ i u. u.number ≡ Some 0 → u.given + u.parts ≡ seats + 1) s.views r k.making (λ e. absurd (k.no_maker e));
        strangers = k.strangers;
        wide = k.wide;
        ended_is = k.ended_is;
        each = all_snoc (λ j v. Fits log (tickets s) v) s.views r k.each k.mine;
        distinct = distinct_snoc s.views r k.none_yet k.distinct;
        numbered = k.numbered;
        parts = omega (arith, k.parts);
        drawn = omega (arith, k.drawn);
        bounded = omega (arith, k.bounded);
        waiting = omega (arith, k.waiting);
        placed = ⊎_elim
            (λ (a : (i : ℕ) × (v : View E) × (get_elem? s.views i ≡ some v) × (v.took ≡ true)). inl (a.0, a.1, at_longer s.views (r ∷ []) a.0 a.1 a.2, a.3))
            (λ (b : ((y : S) × (get_elem? s.homes 0 ≡ some (some (Some y))) × stands y log) × ((i : ℕ) (v : View E) → get_elem? s.views i ≡ some v → v.took ≡ false)).
            inr (b.0, all_snoc (λ j v. v.took ≡ false) s.views r b.1 k.free))
            k.placed;
      }

  -- number 0 makes a token
  pub makes : (seats id : ℕ) (v : View E) → v.number ≡ Some 0 → 1 < v.parts → v.ticket ≡ None → v.took ≡ false → Splits (Kept stands seats) id v (made_one v) (newcomer v)
  makes seats id v is more none_yet free s k at =
      let w : View E = made_one v in
      let r : View E = newcomer v in
      let x : ℕ = tickets s in
      let vs : List (View E) = set s.views id w in
      let f = k.each id v at in
      let given_is : v.given ≡ k.next = (k.numbered.0 id 0 v at is).1 refl in
      let some_next : 0 < k.next = (k.numbered.0 id 0 v at is).0 in
      let numbered : Numbered (k.next + 1) vs = numbered_made k.next id s.views v w at is refl refl refl k.numbered in
      let p = total_set parts_of s.views id v w at in
      let u = total_set unspent_of s.views id v w at in
      let uv : unspent_of v ≡ v.parts = ap (λ z. if is_late z then 0 else v.parts) none_yet in
      let uw : unspent_of w ≡ v.parts - 1 = ap (λ z. if is_late z then 0 else (v.parts - 1)) none_yet in
      let parts = k.parts in
      let bounded = k.bounded in
      let back : (i : ℕ) (u : View E) → get_elem? vs i ≡ some u → (u' : View E) × (get_elem? s.views i ≡ some u') × (u.number ≡ u'.number) × (u.met ≡ u'.met)
      = all_set (λ i u. (u' : View E) × (get_elem? s.views i ≡ some u') × (u.number ≡ u'.number) × (u.met ≡ u'.met)) s.views id w (v, at, refl, refl) (λ j u other e. (u, e, refl, refl)) in
      arrived seats (k.next + 1) record { words = s.words; homes = s.homes; views = vs } r k.log record {
        few = k.few;
        low = (let m = k.making id v at is in let l = k.low in omega arith);
        making = all_set (λ i u. u.number ≡ Some 0 → u.given + u.parts ≡ seats + 1) s.views id w (λ e. let m = k.making id v at is in omega arith) (λ j u other e. k.making j u e);
        no_maker = λ e. let same : v.given ≡ 0 = cc in omega arith;
        wide = k.wide;
        strangers = λ n past. k.strangers n (omega arith);
        ended_is = k.ended_is;
        each = all_set (λ j u. Fits k.log x u) s.views id w record {
          starts = f.starts;
          owns = f.owns;
          met = f.met;
          drew = λ t e. let clash : None ≡ Some t = sym none_yet ∙ e in cc;
          took = f.took;
          idle = λ z. absurd (omega arith);
          mine = f.mine;
        } (λ j u other e. k.each j u e);
        mine = record {
          starts = f.starts;
          owns = λ n e. let same : v.given ≡ n = cc in let le : k.next ≤ n = omega arith in let all = k.strangers n le in
              all ∙ sym (turns_by-prefix_none n v.seen f.starts.0 (ap (turns_by n) (sym f.starts.1) ∙ all));
          met = λ i m e. absurd (some-ne-none m (sym e));
          drew = λ t e. let clash : None ≡ Some t = e in cc;
          took = λ e. absurd (true≢false (sym e));
          idle = λ z. absurd (omega arith);
          mine = λ n e. let same : v.given ≡ n = cc in let le : k.next ≤ n = omega arith in let all = k.strangers n le in
              turns_by-prefix_none n v.seen f.starts.0 (ap (turns_by n) (sym f.starts.1) ∙ all);
        };
        distinct = distinct_old id s.views v w at (λ t e. e) k.distinct;
        none_yet = refl;
        numbered = numbered_snoc (k.next + 1) vs r refl
            (λ n e. let same : v.given ≡ n = cc in (
              omega arith,
              omega arith,
              (λ i u g h. let b = back i u g in let low = (k.numbered.0 i n b.0 b.1 (sym b.2 ∙ h)).0 in absurd (omega arith)),
              (λ i j u m g h q. let b = back i u g in let low = k.numbered.3 i j n b.0 m b.1 (subst (λ (l : List (Met E)). get_elem? l j ≡ some m) b.3 h) q in absurd (omega arith)),
            ))
            numbered;
        parts = omega arith;
        drawn = (let d = total_same drawn_of s.views id v w at refl in let d' = k.drawn in omega arith);
        bounded = omega arith;
        waiting = subst (λ (z : ℕ). z + length k.log ≡ min x turn_limit) (sym (total_same turns_of s.views id v w at refl)) k.waiting;
        placed = placed_set k.log id s v w at free free k.placed;
        free = refl;
      }
