-- How views are copied and joined, and what is known then.
use Rattle.std.proofs.Common.{◌≡◌, ◌≢◌, ℕ, zero, suc, ◌+◌, ◌<◌, ◌≤◌, min, ◌⊎◌, Bool, true, false, true≢false, ltb, if◌then◌else◌, List, [], ◌∷◌, ◌++◌, length, get_or, set, Option, Some, None, sym, refl, ap, ◌∙◌, subst, inl, inr, ⊎_elim, add-zero, arith}
use mathlib.Core.Logic.{dite}
use mathlib.Core.Option.{none, some, some-ne-none, some-injective}
use native.Mathlib.Decide.{ℕ_discrete}
use Rattle.std.proofs.lemmas.Bool.Decides.{nat_tests}
use lib.ListN.{get_elem?}
use lib.Seq.{set-get_or}
use Rattle.atomic_table.specs.Table.{step, keeps, Allows, Splits, Joins}
use Rattle.atomic_table.proofs.Lists.{set_here, set_else, set_again}
use Rattle.turn_lock.specs.declared.history.Ended.{Ended}
use Rattle.turn_lock.specs.declared.rule.Met.{Met}
use Rattle.turn_lock.specs.declared.rule.View.{View}
use Rattle.turn_lock.specs.Limits.{turn_limit}
use Rattle.turn_lock.specs.Turns.{StartsWith, turns_by, longer}
use Rattle.turn_lock.specs.Views.{Sat, is_late, has_turn, witness, spent_view, later, meeting, joined, forgot, saw}
use Rattle.turn_lock.specs.Rule.{Owns, parts_of, drawn_of, unspent_of, turns_of, Fits, Distinct, Numbered, Placed, Kept}
use Rattle.turn_lock.specs.Steps.{learned, IsResting}
use Rattle.turn_lock.proofs.TurnLists.{shorter_begins_longer, turns_by-between, longer_cases, longer_left, longer_right}
use Rattle.turn_lock.proofs.Keeps.{all_set, total_set, total_same, St, tickets, distinct_old, numbered_snoc, making_set, placed_set, in_range, arrived}

at_append : {A : Type 0} (xs ys : List A) (k : ℕ) (a : A) → get_elem? (xs ++ ys) k ≡ some a → ((j : ℕ) × (get_elem? xs j ≡ some a)) ⊎ ((j : ℕ) × (get_elem? ys j ≡ some a))
at_append [] ys k a e = inr (k, e)
at_append (x ∷ xs) ys zero a e = inl (0, e)
at_append (x ∷ xs) ys (suc k) a e = ⊎_elim (λ (h : (j : ℕ) × (get_elem? xs j ≡ some a)). inl (suc h.0, h.1)) (λ h. inr h) (at_append xs ys k a e)

later_is : (s t : Option ℕ) (z : ℕ) → later s t ≡ Some z → (s ≡ Some z) ⊎ (t ≡ Some z)
later_is None t z e = inr e
later_is (Some s) None z e = inl e
later_is (Some s) (Some t) z e =
    elim (ltb s t) as (λ (b : Bool). (if b then (Some t) else (Some s)) ≡ Some z → (Some s ≡ Some z) ⊎ (Some t ≡ Some z)) [ true ↦ (λ h. inr h) | false ↦ (λ h. inl h) ] e

-- a ticket past the last turn has none
pub turnless : (ticket : Option ℕ) → ((t : ℕ) → ticket ≡ Some t → turn_limit ≤ t) → has_turn ticket ≡ 0
turnless None late = refl
turnless (Some t) late = let l = late t refl in grind (arith, nat_tests)

unspent_late : (t parts : ℕ) → turn_limit ≤ t → (if is_late (Some t) then 0 else parts) ≡ 0
unspent_late t parts l = grind (arith, nat_tests)

-- a right to draw comes from one of the two
unspent_joined : (s t : Option ℕ) (a b : ℕ) → ((z : ℕ) → s ≡ Some z → turn_limit ≤ z) → ((z : ℕ) → t ≡ Some z → turn_limit ≤ z)
    → (if is_late (later s t) then 0 else (a + b)) ≤ (if is_late s then 0 else a) + (if is_late t then 0 else b)
unspent_joined None None a b late late' = omega arith
unspent_joined None (Some t) a b late late' = let e = unspent_late t (a + b) (late' t refl) in omega arith
unspent_joined (Some s) None a b late late' = let e = unspent_late s (a + b) (late s refl) in omega arith
unspent_joined (Some s) (Some t) a b late late' =
    elim (ltb s t) as (λ (c : Bool). (if is_late (if c then (Some t) else (Some s)) then 0 else (a + b)) ≤ (if is_late (Some s) then 0 else a) + (if is_late (Some t) then 0 else b))
    [ true ↦ (let e = unspent_late t (a + b) (late' t refl) in omega arith) | false ↦ (let e = unspent_late s (a + b) (late s refl) in omega arith) ]

later_none : (t : Option ℕ) → later t None ≡ t
later_none None = refl
later_none (Some t) = refl

module _ {E : Type 0} where
  distinct_late : (id : ℕ) (views : List (View E)) (w : View E) → ((t : ℕ) → w.ticket ≡ Some t → turn_limit ≤ t) → Distinct views → Distinct (set views id w)
  distinct_late id views w late h i j t u y e f p q lt =
      let back : (k : ℕ) (z : View E) → get_elem? (set views id w) k ≡ some z → z.ticket ≡ Some t → get_elem? views k ≡ some z
      = all_set (λ k z. z.ticket ≡ Some t → get_elem? views k ≡ some z) views id w (λ g. let l = late t g in absurd (omega arith)) (λ k z other g _. g) in
      h i j t u y (back i u e p) (back j y f q) p q lt

  met_joined : (log : List (Ended E)) (x : ℕ) (v w : View E) → Fits log x v → Fits log x w → (k : ℕ) (m : Met E) → get_elem? (joined v w).met k ≡ some m
      → StartsWith log m.seen × Owns log m.by m.seen × (length m.seen ≤ length (longer v.seen w.seen))
  met_joined log x v w f g zero m e = let is : meeting None v.seen ≡ m = some-injective (meeting None v.seen) m e in
      subst (λ (z : Met E). StartsWith log z.seen × Owns log z.by z.seen × (length z.seen ≤ length (longer v.seen w.seen))) is (f.starts, (λ n h. cc), longer_left v.seen w.seen)
  met_joined log x v w f g (suc zero) m e = let is : meeting w.number w.seen ≡ m = some-injective (meeting w.number w.seen) m e in
      subst (λ (z : Met E). StartsWith log z.seen × Owns log z.by z.seen × (length z.seen ≤ length (longer v.seen w.seen))) is (g.starts, g.owns, longer_right v.seen w.seen)
  met_joined log x v w f g (suc (suc k)) m e = ⊎_elim
      (λ (h : (j : ℕ) × (get_elem? v.met j ≡ some m)). let o = f.met h.0 m h.1 in let l = o.2 in let l' = longer_left v.seen w.seen in (o.0, o.1, omega arith))
      (λ (h : (j : ℕ) × (get_elem? w.met j ≡ some m)). let o = g.met h.0 m h.1 in let l = o.2 in let l' = longer_right v.seen w.seen in (o.0, o.1, omega arith)) (at_append v.met w.met k m e)

  owns_joined : (log : List (Ended E)) (x : ℕ) (v w : View E) → Fits log x v → Fits log x w → Owns log v.number (longer v.seen w.seen)
  owns_joined log x v w f g m e = ⊎_elim
      (λ (a : (longer v.seen w.seen ≡ w.seen) × (length v.seen < length w.seen)). let l = a.1 in
      turns_by-between m log v.seen w.seen g.starts (shorter_begins_longer log v.seen w.seen f.starts g.starts (omega arith)) (f.owns m e) ∙ ap (turns_by m) (sym a.0))
      (λ (a : (longer v.seen w.seen ≡ v.seen) × (length w.seen ≤ length v.seen)). f.owns m e ∙ ap (turns_by m) (sym a.0)) (longer_cases v.seen w.seen)

  fits_joined : (log : List (Ended E)) (x : ℕ) (v w : View E) → Fits log x v → Fits log x w → v.took ≡ false
      → ((t : ℕ) → v.ticket ≡ Some t → turn_limit ≤ t) → ((t : ℕ) → w.ticket ≡ Some t → turn_limit ≤ t) → Fits log x (joined v w)
  fits_joined log x v w f g free late late' = record {
    starts = ⊎_elim (λ (a : (longer v.seen w.seen ≡ w.seen) × (length v.seen < length w.seen)). subst (StartsWith log) (sym a.0) g.starts)
        (λ (a : (longer v.seen w.seen ≡ v.seen) × (length w.seen ≤ length v.seen)). subst (StartsWith log) (sym a.0) f.starts) (longer_cases v.seen w.seen);
    owns = owns_joined log x v w f g;
    met = λ k m e. met_joined log x v w f g k m e;
    drew = λ t e. ⊎_elim (λ (a : v.ticket ≡ Some t). let d = f.drew t a in let part = d.2 in let l = late t a in (d.0, (λ lt. absurd (omega arith)), omega arith, λ lt. absurd (omega arith)))
        (λ (a : w.ticket ≡ Some t). let d = g.drew t a in let part = d.2 in let l = late' t a in (d.0, (λ lt. absurd (omega arith)), omega arith, λ lt. absurd (omega arith))) (later_is v.ticket w.ticket t e);
    took = λ e. absurd (true≢false (sym e ∙ free));
    idle = λ e. let a = f.idle (omega arith) in let b = g.idle (omega arith) in omega arith;
    mine = λ n e. sym (owns_joined log x v w f g n e) ∙ (f.owns n e ∙ f.mine n e);
  }

  fits_spent : (log : List (Ended E)) (x : ℕ) → Fits log x spent_view
  fits_spent log x = record {
    starts = (log, refl);
    owns = λ n e. let clash : None ≡ Some n = e in cc;
    met = λ i m e. absurd (some-ne-none m (sym e));
    drew = λ t e. let clash : None ≡ Some t = e in cc;
    took = λ e. absurd (true≢false (sym e));
    idle = λ e. refl;
    mine = λ n e. let clash : None ≡ Some n = e in cc;
  }

  named_in_joined : (v w : View E) (k m : ℕ) (z : Met E) → get_elem? (joined v w).met k ≡ some z → z.by ≡ Some m
      → (w.number ≡ Some m) ⊎ (((j : ℕ) × (get_elem? v.met j ≡ some z)) ⊎ ((j : ℕ) × (get_elem? w.met j ≡ some z)))
  named_in_joined v w zero m z e g = let is : meeting None v.seen ≡ z = some-injective (meeting None v.seen) z e in let clash : None ≡ Some m = ap (λ (y : Met E). y.by) is ∙ g in absurd (cc)
  named_in_joined v w (suc zero) m z e g = let is : meeting w.number w.seen ≡ z = some-injective (meeting w.number w.seen) z e in inl (ap (λ (y : Met E). y.by) is ∙ g)
  named_in_joined v w (suc (suc k)) m z e g = inr (at_append v.met w.met k z e)

  abbrev Owner : List (View E) → ℕ → View E → ℕ → Type 0
  Owner views i u m = u.number ≡ Some m → (u' : View E) × (get_elem? views i ≡ some u') × (u'.number ≡ Some m) × (u.given ≡ u'.given)

  abbrev Source : List (View E) → View E → View E → ℕ → Type 0
  Source views w y m = (k : ℕ) (z : Met E) → get_elem? y.met k ≡ some z → z.by ≡ Some m → (w.number ≡ Some m) ⊎ ((j i : ℕ) × (y' : View E) × (get_elem? views j ≡ some y') × (get_elem? y'.met i ≡ some z))

  -- if the numbers stay with their views, but for one that was met
  numbered_joined : (next id other : ℕ) (views : List (View E)) (v w : View E) → get_elem? views id ≡ some v → get_elem? views other ≡ some w → Numbered next views
      → Numbered next (set (set views id (joined v w)) other spent_view)
  numbered_joined next id other views v w at at' h =
      let b : View E = joined v w in
      let vs : List (View E) = set views id b in
      let owner : (m i : ℕ) (u : View E) → get_elem? (set vs other spent_view) i ≡ some u → (u.number ≡ Some m → i ≢ other) × Owner views i u m
      = λ m. all_set (λ i u. (u.number ≡ Some m → i ≢ other) × Owner views i u m) vs other spent_view ((λ g. let clash : None ≡ Some m = g in absurd (cc)), λ g. let clash : None ≡ Some m = g in absurd (cc))
      (λ j y ne f. ((λ _. ne), all_set (λ i u. Owner views i u m) views id b (λ g. (v, at, g, refl)) (λ j' y' ne' f' g. (y', f', g, refl)) j y f)) in
      let source : (m j : ℕ) (y : View E) → get_elem? (set vs other spent_view) j ≡ some y → Source views w y m
      = λ m. all_set (λ i u. Source views w u m) vs other spent_view (λ k z e. absurd (some-ne-none z (sym e)))
      (λ j y ne f. all_set (λ i u. Source views w u m) views id b
      (λ k z e g. ⊎_elim (λ a. inl a) (λ a. ⊎_elim (λ (c : (i : ℕ) × (get_elem? v.met i ≡ some z)). inr (id, c.0, v, at, c.1)) (λ (c : (i : ℕ) × (get_elem? w.met i ≡ some z)). inr (other, c.0, w, at', c.1)) a) (named_in_joined v w k m z e g))
      (λ j' y' ne' f' k z e g. inr (j', k, y', f', e)) j y f) in (
        (λ i m u e is. let o = (owner m i u e).1 is in let r = h.0 i m o.0 o.1 o.2 in (r.0, λ z. o.3 ∙ r.1 z)),
        (λ i j m u y e f p q. let o = (owner m i u e).1 p in let o' = (owner m j y f).1 q in h.1 i j m o.0 o'.0 o.1 o'.1 o.2 o'.2),
        (λ i j k m u y z e f g p q. let ne = (owner m i u e).0 p in let o = (owner m i u e).1 p in
            ⊎_elim (λ (a : w.number ≡ Some m). ne (h.1 i other m o.0 w o.1 at' o.2 a)) (λ (a : (j' i' : ℕ) × (y' : View E) × (get_elem? views j' ≡ some y') × (get_elem? y'.met i' ≡ some z)). h.2 i a.0 a.1 m o.0 a.2 z o.1 a.3 a.4 o.2 q) (source m j y f k z g q)),
        (λ j k m y z f g q. ⊎_elim (λ (a : w.number ≡ Some m). (h.0 other m w at' a).0) (λ (a : (j' i' : ℕ) × (y' : View E) × (get_elem? views j' ≡ some y') × (get_elem? y'.met i' ≡ some z)). h.3 a.0 a.1 m a.2 z a.3 a.4 q) (source m j y f k z g q)),
      )

  numbered_forgot : (next id : ℕ) (views : List (View E)) (v : View E) → get_elem? views id ≡ some v → Numbered next views → Numbered next (set views id (forgot v))
  numbered_forgot next id views v at h =
      let back : (i : ℕ) (u : View E) → get_elem? (set views id (forgot v)) i ≡ some u → (u' : View E) × (get_elem? views i ≡ some u') × (u.number ≡ u'.number) × (u.given ≡ u'.given) × ((k : ℕ) (z : Met E) → get_elem? u.met k ≡ some z → get_elem? u'.met k ≡ some z)
      = all_set (λ i u. (u' : View E) × (get_elem? views i ≡ some u') × (u.number ≡ u'.number) × (u.given ≡ u'.given) × ((k : ℕ) (z : Met E) → get_elem? u.met k ≡ some z → get_elem? u'.met k ≡ some z)) views id (forgot v) (v, at, refl, refl, λ k z e. absurd (some-ne-none z (sym e))) (λ j u other e. (u, e, refl, refl, λ k z g. g)) in (
        (λ i k u e is. let b = back i u e in let o = h.0 i k b.0 b.1 (sym b.2 ∙ is) in (o.0, λ z. b.3 ∙ o.1 z)),
        (λ i j k u y e f p q. let b = back i u e in let c = back j y f in h.1 i j k b.0 c.0 b.1 c.1 (sym b.2 ∙ p) (sym c.2 ∙ q)),
        (λ i j k o u y z e f at_k p. let b = back i u e in let c = back j y f in h.2 i j k o b.0 c.0 z b.1 c.1 (c.4 k z at_k) (sym b.2 ∙ p)),
        (λ j k o y z f at_k is. let c = back j y f in h.3 j k o c.0 z c.1 (c.4 k z at_k) is),
      )

  -- what a token knows after it was told and has learned
  pub told : (v u : View E) → forgot (joined v (witness u)) ≡ saw v (longer v.seen u.seen)
  told v u = let a = add-zero v.parts in let b = later_none v.ticket in let c = add-zero v.drawn in
      λ i. record { number = v.number; given = v.given; parts = a i; ticket = b i; drawn = c i; took = v.took; seen = longer v.seen u.seen; mine = v.mine; met = [] }

module _ {S E : Type 0} (stands : S → List (Ended E) → Type 0) where
  -- a token is added that has seen as much
  pub copies : (seats id : ℕ) (v : View E) → Splits (Kept stands seats) id v v (witness v)
  copies seats id v s k at =
      let r : View E = witness v in
      let f = k.each id v at in
      subst (λ (vs : List (View E)). Kept stands seats record { words = s.words; homes = s.homes; views = vs ++ r ∷ [] }) (sym (set_again s.views id v at))
      (arrived stands seats k.next s r k.log record {
        few = k.few;
        low = k.low;
        making = k.making;
        no_maker = λ e. let clash : None ≡ Some 0 = e in cc;
        wide = k.wide;
        strangers = k.strangers;
        ended_is = k.ended_is;
        each = k.each;
        mine = record {
          starts = f.starts;
          owns = λ n e. let clash : None ≡ Some n = e in absurd (cc);
          met = λ i m e. absurd (some-ne-none m (sym e));
          drew = λ t e. let clash : None ≡ Some t = e in absurd (cc);
          took = λ e. absurd (true≢false (sym e));
          idle = λ e. refl;
          mine = λ n e. let clash : None ≡ Some n = e in absurd (cc);
        };
        distinct = k.distinct;
        none_yet = refl;
        numbered = numbered_snoc k.next s.views r refl (λ n e. let clash : None ≡ Some n = e in absurd (cc)) k.numbered;
        parts = (let p = k.parts in omega arith);
        drawn = (let p = k.drawn in omega arith);
        bounded = (let p = k.bounded in omega arith);
        waiting = k.waiting;
        placed = k.placed;
        free = refl;
      })

  -- two tokens are joined
  pub joins : (seats id other : ℕ) (v w : View E) → (v.number ≡ Some 0 → w.parts ≡ 0) → v.took ≡ false → w.took ≡ false → ((t : ℕ) → v.ticket ≡ Some t → turn_limit ≤ t) → ((t : ℕ) → w.ticket ≡ Some t → turn_limit ≤ t)
      → Joins (Kept stands seats) id v other w (joined v w) spent_view
  joins seats id other v w no_parts free free' late late' s k at apart there =
      let b : View E = joined v w in
      let x : ℕ = tickets stands s in
      let vs : List (View E) = set s.views id b in
      let at' : get_elem? s.views other ≡ some w = sym (set_else s.views id other b apart) ∙ there in
      let late_b : (t : ℕ) → b.ticket ≡ Some t → turn_limit ≤ t = λ t e. ⊎_elim (late t) (late' t) (later_is v.ticket w.ticket t e) in
      let p = total_set parts_of s.views id v b at in
      let p' = total_set parts_of vs other w spent_view there in
      let d = total_set drawn_of s.views id v b at in
      let d' = total_set drawn_of vs other w spent_view there in
      let u = total_set unspent_of s.views id v b at in
      let u' = total_set unspent_of vs other w spent_view there in
      let less = unspent_joined v.ticket w.ticket v.parts w.parts late late' in
      let t = total_set turns_of s.views id v b at in
      let t' = total_set turns_of vs other w spent_view there in
      let tv : turns_of v ≡ 0 = turnless v.ticket late in
      let tw : turns_of w ≡ 0 = turnless w.ticket late' in
      let tb : turns_of b ≡ 0 = turnless b.ticket late_b in
      let parts = k.parts in
      let drawn = k.drawn in
      let bounded = k.bounded in
      let waiting = k.waiting in record {
        log = k.log;
        next = k.next;
        few = k.few;
        low = k.low;
        making = all_set (λ i u. u.number ≡ Some 0 → u.given + u.parts ≡ seats + 1) vs other spent_view (λ e. let clash : None ≡ Some 0 = e in absurd (cc))
            (λ j y ne e. all_set (λ i u. u.number ≡ Some 0 → u.given + u.parts ≡ seats + 1) s.views id b (λ g. let m = k.making id v at g in let z = no_parts g in omega arith) (λ i z ne' f. k.making i z f) j y e);
        strangers = k.strangers;
        wide = k.wide;
        ended_is = k.ended_is;
        each = all_set (λ j y. Fits k.log x y) vs other spent_view (fits_spent k.log x)
            (λ j y ne e. all_set (λ j y. Fits k.log x y) s.views id b (fits_joined k.log x v w (k.each id v at) (k.each other w at') free late late') (λ i z ne' f. k.each i z f) j y e);
        distinct = distinct_late other vs spent_view (λ t e. let clash : None ≡ Some t = e in absurd (cc)) (distinct_late id s.views b late_b k.distinct);
        numbered = numbered_joined k.next id other s.views v w at at' k.numbered;
        parts = omega arith;
        drawn = omega arith;
        bounded = omega arith;
        waiting = omega arith;
        placed = placed_set stands k.log other record { words = s.words; homes = s.homes; views = vs } w spent_view there free' refl (placed_set stands k.log id s v b at free free k.placed);
      }

  placed_forgot : (log : List (Ended E)) (id : ℕ) (s : St {S = S} stands) (v : View E) → get_elem? s.views id ≡ some v → Placed stands log s.homes s.views → Placed stands log s.homes (set s.views id (forgot v))
  placed_forgot log id s v at p = ⊎_elim
      (λ (a : (i : ℕ) × (u : View E) × (get_elem? s.views i ≡ some u) × (u.took ≡ true)). inl (dite (ℕ_discrete a.0 id)
      (λ e. (id, forgot v, set_here s.views id (forgot v) (in_range s.views id v at), ap (λ (z : View E). z.took) (some-injective v a.1 (sym at ∙ (ap (get_elem? s.views) (sym e) ∙ a.2))) ∙ a.3))
      (λ ne. (a.0, a.1, set_else s.views id a.0 (forgot v) ne ∙ a.2, a.3))))
      (λ (b : ((y : S) × (get_elem? s.homes 0 ≡ some (some (Some y))) × stands y log) × ((i : ℕ) (u : View E) → get_elem? s.views i ≡ some u → u.took ≡ false)).
      inr (b.0, all_set (λ i u. u.took ≡ false) s.views id (forgot v) (b.1 id v at) (λ j u other e. b.1 j u e)))
      p

  -- a token learns that the lists which it met begin what it has seen
  pub learns : (seats slots id : ℕ) (v : View E) (c : List (ℕ × Option S)) → Allows (Kept stands seats) slots id (v, c) 1 (λ x. x) (learned (step slots 1 0 0 none) (v, c))
  learns seats slots id v c s k _ at _ =
      let w : View E = forgot v in
      let f = k.each id v at in
      let still : set s.words 1 (get_or s.words 1 0) ≡ s.words = set-get_or s.words 1 0 in (
        w,
        keeps,
        tt,
        subst (λ (ws : List ℕ). Kept stands seats record { words = ws; homes = s.homes; views = set s.views id w }) (sym still) record {
          log = k.log;
          next = k.next;
          few = k.few;
          low = k.low;
          making = making_set seats id s.views v w at refl refl refl k.making;
          strangers = k.strangers;
          wide = k.wide;
          ended_is = k.ended_is;
          each = all_set (λ j y. Fits k.log (tickets stands s) y) s.views id w record {
            starts = f.starts;
            owns = f.owns;
            met = λ i m e. absurd (some-ne-none m (sym e));
            drew = f.drew;
            took = f.took;
            idle = f.idle;
            mine = f.mine;
          } (λ j y ne e. k.each j y e);
          distinct = distinct_old id s.views v w at (λ t e. e) k.distinct;
          numbered = numbered_forgot k.next id s.views v at k.numbered;
          parts = total_same parts_of s.views id v w at refl ∙ k.parts;
          drawn = total_same drawn_of s.views id v w at refl ∙ k.drawn;
          bounded = subst (λ (z : ℕ). tickets stands s + z ≤ turn_limit + seats) (sym (total_same unspent_of s.views id v w at refl)) k.bounded;
          waiting = subst (λ (z : ℕ). z + length k.log ≡ min (tickets stands s) turn_limit) (sym (total_same turns_of s.views id v w at refl)) k.waiting;
          placed = placed_forgot k.log id s v at k.placed;
        },
        (refl, λ i m e. let h = f.met i m e in shorter_begins_longer k.log m.seen v.seen h.0 f.starts h.2, f.mine),
      )

module _ {S E : Type 0} where
  -- two that rest do so after they were joined
  pub joined_rests : (me other me' : Sat S E) → IsResting me → IsResting other → me' ≡ (joined me.0 other.0, me.1) → IsResting me'
  joined_rests me other me' a b is = record {
    slots = ap (λ (m : Sat S E). m.1) is ∙ a.slots;
    free = ap (λ (m : Sat S E). m.0.took) is ∙ a.free;
    past = λ t e. ⊎_elim (a.past t) (b.past t) (later_is me.0.ticket other.0.ticket t (sym (ap (λ (m : Sat S E). m.0.ticket) is) ∙ e));
  }
