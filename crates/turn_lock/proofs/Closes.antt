-- What is known when a lock is closed.
use Rattle.std.proofs.Common.{◌≡◌, ◌≢◌, ℕ, zero, suc, ◌+◌, ◌≤◌, Bool, true, false, true≢false, ltb, if◌then◌else◌, List, [], ◌∷◌, length, Option, Some, None, sym, refl, ap, ◌∙◌, ⊎_elim, arith, le_refl}
use mathlib.Core.Logic.{dite}
use mathlib.Core.Option.{some, some-ne-none, some-injective}
use native.Mathlib.Decide.{ℕ_discrete, dec_lt}
use Rattle.std.proofs.lemmas.Bool.Decides.{nat_tests}
use lib.ListN.{get_elem?}
use Rattle.atomic_table.specs.Table.{Seen, Final}
use Rattle.atomic_table.proofs.Lists.{at_longer}
use Rattle.turn_lock.specs.declared.history.Ended.{Ended}
use Rattle.turn_lock.specs.declared.rule.View.{View}
use Rattle.turn_lock.specs.Turns.{StartsWith}
use Rattle.turn_lock.specs.Views.{witness, later, meeting, gathered}
use Rattle.turn_lock.specs.Rule.{Owns, total, parts_of, drawn_of, turns_of, Kept}
use Rattle.turn_lock.specs.Steps.{IsAll, IsEnd}
use Rattle.turn_lock.proofs.Meets.{turnless}
use Rattle.turn_lock.proofs.Keeps.{St}

later_left : (s : ℕ) (t : Option ℕ) → (u : ℕ) × (later (Some s) t ≡ Some u) × (s ≤ u)
later_left s None = (s, refl, le_refl s)
later_left s (Some t) = dite (dec_lt s t)
    (λ l. let e : ltb s t ≡ true = grind (arith, nat_tests) in (t, ap (λ (b : Bool). if b then (Some t) else (Some s)) e, omega arith))
    (λ m. let le : t ≤ s = omega arith in let e : ltb s t ≡ false = grind (arith, nat_tests) in (s, ap (λ (b : Bool). if b then (Some t) else (Some s)) e, le_refl s))

later_right : (s : Option ℕ) (t : ℕ) → (u : ℕ) × (later s (Some t) ≡ Some u) × (t ≤ u)
later_right None t = (t, refl, le_refl t)
later_right (Some s) t = dite (dec_lt s t)
    (λ l. let e : ltb s t ≡ true = grind (arith, nat_tests) in (t, ap (λ (b : Bool). if b then (Some t) else (Some s)) e, le_refl t))
    (λ m. let le : t ≤ s = omega arith in let e : ltb s t ≡ false = grind (arith, nat_tests) in (s, ap (λ (b : Bool). if b then (Some t) else (Some s)) e, le))

module _ {E : Type 0} where
  parts_gathered : (c : View E) (ws : List (View E)) → (gathered c ws).parts ≡ total parts_of ws + c.parts
  parts_gathered c [] = omega arith
  parts_gathered c (w ∷ ws) = let h = parts_gathered c ws in omega arith

  drawn_gathered : (c : View E) (ws : List (View E)) → (gathered c ws).drawn ≡ total drawn_of ws + c.drawn
  drawn_gathered c [] = omega arith
  drawn_gathered c (w ∷ ws) = let h = drawn_gathered c ws in omega arith

  took_gathered : (c : View E) (ws : List (View E)) → (gathered c ws).took ≡ c.took
  took_gathered c [] = refl
  took_gathered c (w ∷ ws) = took_gathered c ws

  met_gathered : (c : View E) (ws : List (View E)) (k : ℕ) (w : View E) → get_elem? ws k ≡ some w → (j : ℕ) × (get_elem? (gathered c ws).met j ≡ some (meeting w.number w.seen))
  met_gathered c [] k w e = absurd (some-ne-none w (sym e))
  met_gathered c (x ∷ ws) zero w e = (1, ap (λ (z : View E). some (meeting z.number z.seen)) (some-injective x w e))
  met_gathered c (x ∷ ws) (suc k) w e = let h = met_gathered c ws k w e in (suc (suc h.0), at_longer (gathered c ws).met x.met h.0 (meeting w.number w.seen) h.1)

  ticket_gathered : (c : View E) (ws : List (View E)) (k : ℕ) (w : View E) (t : ℕ) → get_elem? ws k ≡ some w → w.ticket ≡ Some t → (u : ℕ) × ((gathered c ws).ticket ≡ Some u) × (t ≤ u)
  ticket_gathered c [] k w t e is = absurd (some-ne-none w (sym e))
  ticket_gathered c (x ∷ ws) zero w t e is =
      let r = later_right (gathered c ws).ticket t in
      (r.0, ap (λ (z : Option ℕ). later (gathered c ws).ticket z) (ap (λ (z : View E). z.ticket) (some-injective x w e) ∙ is) ∙ r.1, r.2)
  ticket_gathered c (x ∷ ws) (suc k) w t e is =
      let h = ticket_gathered c ws k w t e is in
      let le = h.2 in
      let l = later_left h.0 x.ticket in
      let le' = l.2 in
      (l.0, ap (λ (z : Option ℕ). later z x.ticket) h.1 ∙ l.1, omega arith)

  one_each : (ws : List (View E)) → ((k : ℕ) (w : View E) → get_elem? ws k ≡ some w → w.parts ≡ 1) → total parts_of ws ≡ length ws
  one_each [] h = refl
  one_each (w ∷ ws) h = let a = h 0 w refl in let b = one_each ws (λ k u e. h (suc k) u e) in omega arith

  elem_le : (f : View E → ℕ) (vs : List (View E)) (j : ℕ) (u : View E) → get_elem? vs j ≡ some u → f u ≤ total f vs
  elem_le f [] j u e = absurd (some-ne-none u (sym e))
  elem_le f (x ∷ xs) zero u e = let same : f x ≡ f u = ap f (some-injective x u e) in omega arith
  elem_le f (x ∷ xs) (suc j) u e = let h = elem_le f xs j u e in omega arith

  two_le : (f : View E → ℕ) (vs : List (View E)) (i j : ℕ) (v u : View E) → i ≢ j → get_elem? vs i ≡ some v → get_elem? vs j ≡ some u → f v + f u ≤ total f vs
  two_le f [] i j v u ne e g = absurd (some-ne-none v (sym e))
  two_le f (x ∷ xs) zero zero v u ne e g = absurd (ne refl)
  two_le f (x ∷ xs) zero (suc j) v u ne e g = let same : f x ≡ f v = ap f (some-injective x v e) in let h = elem_le f xs j u g in omega arith
  two_le f (x ∷ xs) (suc i) zero v u ne e g = let same : f x ≡ f u = ap f (some-injective x u g) in let h = elem_le f xs i v e in omega arith
  two_le f (x ∷ xs) (suc i) (suc j) v u ne e g = let h = two_le f xs i j v u (λ z. ne (ap suc z)) e g in omega arith

  total_zero : (f : View E → ℕ) (vs : List (View E)) → ((j : ℕ) (u : View E) → get_elem? vs j ≡ some u → f u ≡ 0) → total f vs ≡ 0
  total_zero f [] h = refl
  total_zero f (x ∷ xs) h = let a = h 0 x refl in let b = total_zero f xs (λ j u e. h (suc j) u e) in omega arith

  total_only : (f : View E → ℕ) (vs : List (View E)) (i : ℕ) (v : View E) → get_elem? vs i ≡ some v → ((j : ℕ) (u : View E) → j ≢ i → get_elem? vs j ≡ some u → f u ≡ 0) → total f vs ≡ f v
  total_only f [] i v e h = absurd (some-ne-none v (sym e))
  total_only f (x ∷ xs) zero v e h = let same : f x ≡ f v = ap f (some-injective x v e) in let b = total_zero f xs (λ j u g. h (suc j) u (λ z. omega arith) g) in omega arith
  total_only f (x ∷ xs) (suc i) v e h = let a = h 0 x (λ z. omega arith) refl in let b = total_only f xs i v e (λ j u ne g. h (suc j) u (λ z. ne (omega arith)) g) in omega arith

module _ {S E : Type 0} (stands : S → List (Ended E) → Type 0) where
  -- if one token has all parts, no other has a ticket, or took the slot
  ends : (seats id : ℕ) (s : St stands) (v : View E) (ws : List (View E)) → Kept stands seats s → get_elem? s.views id ≡ some v → IsAll seats v ws
      → (y : S) × (get_elem? s.homes 0 ≡ some (some (Some y))) × IsEnd stands y ws
  ends seats id s v ws k at all =
      let u : View E = all.first in
      let gathers : v ≡ gathered (witness u) ws = all.gathers in
      let mine = k.each id v at in
      let count = all.count in
      let p1 = parts_gathered (witness u) ws in
      let p2 = one_each ws all.one_each in
      let p3 = k.parts in
      let pv : v.parts ≡ (gathered (witness u) ws).parts = ap (λ (z : View E). z.parts) gathers in
      let idle : (j : ℕ) (y : View E) → j ≢ id → get_elem? s.views j ≡ some y → y.parts ≡ 0 = λ j y ne e. let h = two_le parts_of s.views j id y v ne e at in omega arith in
      let d1 = drawn_gathered (witness u) ws in
      let d2 = total_only drawn_of s.views id v at (λ j y ne e. (k.each j y e).idle (idle j y ne e)) in
      let d3 = k.drawn in
      let dv : v.drawn ≡ (gathered (witness u) ws).drawn = ap (λ (z : View E). z.drawn) gathers in
      let free : v.took ≡ false = ap (λ (z : View E). z.took) gathers ∙ took_gathered (witness u) ws in
      let out : total turns_of s.views ≡ 0 = total_zero turns_of s.views (λ j y e. dite (ℕ_discrete j id)
      (λ is. let same : y ≡ v = some-injective y v (sym e ∙ (ap (get_elem? s.views) is ∙ at)) in turnless y.ticket (λ t f. all.past t (sym (ap (λ (z : View E). z.ticket) same) ∙ f)))
      (λ ne. turnless y.ticket (λ t f. let part = ((k.each j y e).drew t f).2 in let none_left = idle j y ne e in absurd (omega arith)))) in
      let home : (y : S) × (get_elem? s.homes 0 ≡ some (some (Some y))) × stands y k.log = ⊎_elim
      (λ (a : (i : ℕ) × (y : View E) × (get_elem? s.views i ≡ some y) × (y.took ≡ true)). dite (ℕ_discrete a.0 id)
      (λ e. let same : a.1 ≡ v = some-injective a.1 v (sym a.2 ∙ (ap (get_elem? s.views) e ∙ at)) in absurd (true≢false (sym a.3 ∙ (ap (λ (z : View E). z.took) same ∙ free))))
      (λ ne. let f = k.each a.0 a.1 a.2 in let part = (f.drew (length k.log) (f.took a.3).0).2 in let none_left = idle a.0 a.1 ne a.2 in absurd (omega arith)))
      (λ (b : ((y : S) × (get_elem? s.homes 0 ≡ some (some (Some y))) × stands y k.log) × ((i : ℕ) (y : View E) → get_elem? s.views i ≡ some y → y.took ≡ false)). b.0)
      k.placed in
      let met : (i : ℕ) (w : View E) → get_elem? ws i ≡ some w → StartsWith k.log w.seen × Owns k.log w.number w.seen
      = λ i w e. let m = met_gathered (witness u) ws i w e in let o = mine.met m.0 (meeting w.number w.seen) (ap (λ (z : View E). get_elem? z.met m.0) gathers ∙ m.1) in (o.0, o.1) in (
        home.0,
        home.1,
        record {
          history = k.log;
          right = home.2;
          starts = λ i w e. (met i w e).0;
          owns = λ i w e. (met i w e).1;
          tickets = λ i t w e is. let h = ticket_gathered (witness u) ws i w t e is in let le = h.2 in let low = (mine.drew h.0 (ap (λ (z : View E). z.ticket) gathers ∙ h.1)).0 in omega arith;
          no_others = λ n past. let low = k.low in k.strangers n (omega arith);
          counted = let w = k.waiting in omega arith;
        },
      )

  -- the same of the table that was closed
  pub closed_value : (seats id : ℕ) (v : View E) (ws : List (View E)) (words : List ℕ) (slots : List (Option S)) → IsAll seats v ws → Final (Seen (Kept stands seats) id v) words slots
      → (y : S) × (get_elem? slots 0 ≡ some (Some y)) × IsEnd stands y ws
  closed_value seats id v ws words slots all final =
      let s = final.0 in
      let r = ends seats id s v ws final.1.0 final.1.1 all in
      (r.0, final.4 0 (Some r.0) r.1, r.2)
