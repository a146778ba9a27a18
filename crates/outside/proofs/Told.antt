-- What is told of an object at one time, and of one before and after.
use Rattle.std.proofs.Common.{◌≡◌, Option, Some, None, refl, sym, subst}
use Rattle.outside.specs.Calls.{Told, Changes}

-- ---- at one time

-- what follows from what is told is told
pub told_then : {X : Type 0} (contents : Option X) (P Q : X → Type 0) → Told contents P → ((x : X) → P x → Q x) → Told contents Q
told_then None P Q p h = tt
told_then (Some x) P Q p h = h x p

-- and what follows from two such facts
pub told_both : {X : Type 0} (contents : Option X) (P Q R : X → Type 0) → Told contents P → Told contents Q → ((x : X) → P x → Q x → R x) → Told contents R
told_both None P Q R p q h = tt
told_both (Some x) P Q R p q h = h x p q

-- what holds of all contents is told
pub told_always : {X : Type 0} (contents : Option X) (P : X → Type 0) → ((x : X) → P x) → Told contents P
told_always None P h = tt
told_always (Some x) P h = h x

-- what holds of the contents that are told is told
pub told_from : {X : Type 0} (contents : Option X) (P : X → Type 0) → ((x : X) → contents ≡ Some x → P x) → Told contents P
told_from None P h = tt
told_from (Some x) P h = h x refl

-- ---- before and after

-- contents that stayed have not changed
pub unchanged : {X : Type 0} (a b : Option X) (P : X → X → Type 0) → b ≡ a → ((x : X) → P x x) → Changes a b P
unchanged None b P e f = subst (λ o. Changes None o P) (sym e) tt
unchanged (Some x) b P e f = subst (λ o. Changes (Some x) o P) (sym e) (f x)

-- the same by what was told of them
pub told_same : {X : Type 0} (a b : Option X) (T : X → Type 0) (R : X → X → Type 0) → b ≡ a → ((x : X) → T x → R x x) → Told a T → Changes a b R
told_same {X = X} None b T R e f told = subst (λ (o : Option X). Changes None o R) (sym e) tt
told_same {X = X} (Some x) b T R e f told = subst (λ (o : Option X). Changes (Some x) o R) (sym e) (f x told)

-- what follows from a change
pub changed_by : {X : Type 0} (a b : Option X) (P Q : X → X → Type 0) → ((x y : X) → P x y → Q x y) → Changes a b P → Changes a b Q
changed_by None None P Q f p = tt
changed_by None (Some y) P Q f p = absurd p
changed_by (Some x) None P Q f p = absurd p
changed_by (Some x) (Some y) P Q f p = f x y p

-- two facts of one change
pub both_changed : {X : Type 0} (a b : Option X) (P Q : X → X → Type 0) → Changes a b P → Changes a b Q → Changes a b (λ x y. P x y × Q x y)
both_changed None None P Q p q = tt
both_changed None (Some y) P Q p q = absurd p
both_changed (Some x) None P Q p q = absurd p
both_changed (Some x) (Some y) P Q p q = (p, q)

-- what follows from a change and from what was told before it
pub changed_from : {X : Type 0} (a b : Option X) (P : X → Type 0) (Q R : X → X → Type 0) → ((x y : X) → P x → Q x y → R x y) → Told a P → Changes a b Q → Changes a b R
changed_from None None P Q R f p q = tt
changed_from None (Some y) P Q R f p q = absurd q
changed_from (Some x) None P Q R f p q = absurd q
changed_from (Some x) (Some y) P Q R f p q = f x y p q

-- one change after another
pub through : {X : Type 0} (a b c : Option X) (P Q R : X → X → Type 0) → ((x y z : X) → P x y → Q y z → R x z) → Changes a b P → Changes b c Q → Changes a c R
through None None None P Q R f p q = tt
through None None (Some z) P Q R f p q = absurd q
through None (Some y) c P Q R f p q = absurd p
through (Some x) None c P Q R f p q = absurd p
through (Some x) (Some y) None P Q R f p q = absurd q
through (Some x) (Some y) (Some z) P Q R f p q = f x y z p q

-- and by what was told before the first
pub told_through : {X : Type 0} (a b c : Option X) (T : X → Type 0) (P Q R : X → X → Type 0) → ((x y z : X) → T x → P x y → Q y z → R x z) → Told a T → Changes a b P → Changes b c Q → Changes a c R
told_through None None None T P Q R f t p q = tt
told_through None None (Some z) T P Q R f t p q = absurd q
told_through None (Some y) c T P Q R f t p q = absurd p
told_through (Some x) None c T P Q R f t p q = absurd p
told_through (Some x) (Some y) None T P Q R f t p q = absurd q
told_through (Some x) (Some y) (Some z) T P Q R f t p q = f x y z t p q

-- what a change says of what is there after it
pub told_new : {X : Type 0} (a b : Option X) (P : X → X → Type 0) (T : X → Type 0) → ((x y : X) → P x y → T y) → Changes a b P → Told b T
told_new None None P T f p = tt
told_new None (Some y) P T f p = absurd p
told_new (Some x) None P T f p = absurd p
told_new (Some x) (Some y) P T f p = f x y p
