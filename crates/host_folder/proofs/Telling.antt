-- What follows of stories that are told.
use Rattle.std.proofs.Common.{◌≡◌, Option, Some, None, sym, subst}
use Rattle.outside.specs.Calls.{Told, Changes}
use Rattle.outside.proofs.Told.{told_then}

-- what was told before a change and the change say of what is told after it
pub told_after : {X : Type 0} (a b : Option X) (P : X → Type 0) (Q : X → X → Type 0) (T : X → Type 0) → ((x y : X) → P x → Q x y → T y) → Told a P → Changes a b Q → Told b T
told_after None None P Q T f p q = tt
told_after None (Some y) P Q T f p q = absurd q
told_after (Some x) None P Q T f p q = absurd q
told_after (Some x) (Some y) P Q T f p q = f x y p q

-- the same contents under another name
pub told_again : {X : Type 0} (a b : Option X) (P T : X → Type 0) → b ≡ a → ((x : X) → P x → T x) → Told a P → Told b T
told_again a b P T is f told = subst (λ o. Told o T) (sym is) (told_then a P T told f)

-- and by two facts
pub told_again_both : {X : Type 0} (a b : Option X) (P Q T : X → Type 0) → b ≡ a → ((x : X) → P x → Q x → T x) → Told a P → Told a Q → Told b T
told_again_both None b P Q T is f p q = subst (λ o. Told o T) (sym is) tt
told_again_both (Some x) b P Q T is f p q = subst (λ o. Told o T) (sym is) (f x p q)

-- no change at all, by what was told
pub told_still : {X : Type 0} (a b : Option X) (P : X → Type 0) (R : X → X → Type 0) → b ≡ a → ((x : X) → P x → R x x) → Told a P → Changes a b R
told_still None b P R is f told = subst (λ o. Changes None o R) (sym is) tt
told_still (Some x) b P R is f told = subst (λ o. Changes (Some x) o R) (sym is) (f x told)
