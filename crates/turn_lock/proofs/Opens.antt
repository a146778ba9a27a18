-- How a lock starts, and what is known when it is closed.
use Rattle.std.proofs.Common.{◌≡◌, ℕ, zero, suc, ◌+◌, ◌<◌, false, true≢false, List, [], ◌∷◌, Some, None, sym, refl, ap, ◌∙◌, subst, inr, arith}
use mathlib.Core.Option.{some, some-ne-none, some-injective}
use lib.ListN.{get_elem?}
use Rattle.atomic_table.specs.Table.{opening}
use Rattle.turn_lock.specs.declared.history.Ended.{Ended}
use Rattle.turn_lock.specs.declared.rule.View.{View}
use Rattle.turn_lock.specs.Limits.{turn_limit}
use Rattle.turn_lock.specs.Views.{first_view}
use Rattle.turn_lock.specs.Rule.{Fits, Kept}
use Rattle.turn_lock.proofs.Keeps.{All}

module _ {E : Type 0} where
  single : (a b : View E) (j : ℕ) → get_elem? (a ∷ []) j ≡ some b → (j ≡ 0) × (a ≡ b)
  single a b zero e = (refl, some-injective a b e)
  single a b (suc j) e = absurd (some-ne-none b (sym e))

  all_single : (F : ℕ → View E → Type 0) (a : View E) → F 0 a → All F (a ∷ [])
  all_single F a h j b e = let s = single a b j e in subst (λ (y : ℕ × View E). F y.0 y.1) (λ i. (sym s.0 i, s.1 i)) h

module _ {S E : Type 0} (stands : S → List (Ended E) → Type 0) where
  -- a new table keeps the rule
  pub opens : (seats : ℕ) (y : S) → 0 < seats → seats < turn_limit → stands y [] → Kept stands seats (opening (0 ∷ 0 ∷ []) (Some y ∷ []) (first_view seats))
  opens seats y some_seat few right =
      let v : View E = first_view seats in
      let is : (j : ℕ) (u : View E) → get_elem? (v ∷ []) j ≡ some u → (j ≡ 0) × (v ≡ u) = λ j u e. single v u j e in record {
        log = [];
        next = 1;
        few = few;
        low = omega arith;
        making = all_single (λ i u. u.number ≡ Some 0 → u.given + u.parts ≡ seats + 1) v (λ e. omega arith);
        strangers = λ n past. refl;
        wide = refl;
        ended_is = refl;
        each = all_single (λ j u. Fits [] 0 u) v record {
          starts = ([], refl);
          owns = λ n e. refl;
          met = λ i m e. absurd (some-ne-none m (sym e));
          drew = λ t e. let clash : None ≡ Some t = e in absurd (cc);
          took = λ e. absurd (true≢false (sym e));
          idle = λ e. refl;
          mine = λ n e. refl;
        };
        distinct = λ i j t u w e f p q lt. (is i u e).0 ∙ sym (is j w f).0;
        numbered = (
          (λ i n u e g. let one : Some 0 ≡ Some n = ap (λ (z : View E). z.number) (is i u e).1 ∙ g in let zero_is : 0 ≡ n = cc in (omega arith, λ z. sym (ap (λ (z : View E). z.given) (is i u e).1))),
          (λ i j n u w e f p q. (is i u e).0 ∙ sym (is j w f).0),
          (λ i j k n u w m e f g p q. some-ne-none m (sym (subst (λ (z : View E). get_elem? z.met k ≡ some m) (sym (is j w f).1) g))),
          (λ j k n w m f g q. absurd (some-ne-none m (sym (subst (λ (z : View E). get_elem? z.met k ≡ some m) (sym (is j w f).1) g)))),
        );
        parts = omega arith;
        drawn = refl;
        bounded = omega arith;
        waiting = omega arith;
        placed = inr ((y, refl, right), all_single (λ j u. u.took ≡ false) v refl);
      }
