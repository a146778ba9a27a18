-- Entries by number stay in order, and what is found in them, after a change.
use Rattle.std.proofs.Common.{◌≡◌, ◌<◌, ℕ, Bool, true, false, cond, not, List, [], ◌∷◌, ◌++◌, filter, ◌==◌, refl, sym, ap, subst}
use Rattle.std.specs.Cmp.{nat_cmp_is}
use Rattle.std.specs.Ordering.{nat_cmp}
use Rattle.std.specs.declared.cmp.Ordering.TheVariants.{Less}
use Rattle.std.specs.List.{AllByRecursion}
use Rattle.std.specs.List.Sorted.{IsStrictlySortedBy}
use Rattle.std.specs.Map.{keys_of}
use Rattle.std.proofs.lemmas.List.Kept.{IsStrictlySortedBy-filter}
use Rattle.live_tree.specs.Held.{HeldNode}
use Rattle.live_tree.proofs.Entries.{AreBelow}

abbrev Entries : Type 0
Entries = List (ℕ × HeldNode)

-- ---- one after the others

less_last : (k next : ℕ) (v : HeldNode) (es : Entries) → k < next → AllByRecursion (λ (y : ℕ). nat_cmp k y ≡ Less) (keys_of es)
    → AllByRecursion (λ (y : ℕ). nat_cmp k y ≡ Less) (keys_of (es ++ (next, v) ∷ []))
less_last k next v [] less all = (sym (nat_cmp_is k next Less less), tt)
less_last k next v (e ∷ es) less all = (all.0, less_last k next v es less all.1)

pub sorted_last : (next : ℕ) (v : HeldNode) (es : Entries) → AreBelow next es → IsStrictlySortedBy nat_cmp (keys_of es) → IsStrictlySortedBy nat_cmp (keys_of (es ++ (next, v) ∷ []))
unfolding IsStrictlySortedBy
sorted_last next v [] below sorted = (tt, tt)
sorted_last next v (e ∷ es) below sorted = (less_last e.0 next v es below.0 sorted.0, sorted_last next v es below.1 sorted.1)

-- ---- one taken away

abbrev pub without : ℕ → Entries → Entries
without number es = filter (λ (e : ℕ × HeldNode). not (e.0 == number)) es

keys_without : (number : ℕ) (es : Entries) → keys_of (without number es) ≡ filter (λ (k : ℕ). not (k == number)) (keys_of es)
keys_without number [] = refl
keys_without number (e ∷ es) = go (not (e.0 == number)) (keys_without number es)
  where
    go : (b : Bool) → keys_of (without number es) ≡ filter (λ (k : ℕ). not (k == number)) (keys_of es)
        → keys_of (cond b (e ∷ without number es) (without number es)) ≡ cond b (e.0 ∷ filter (λ (k : ℕ). not (k == number)) (keys_of es)) (filter (λ (k : ℕ). not (k == number)) (keys_of es))
    go true rest = ap (λ (ks : List ℕ). e.0 ∷ ks) rest
    go false rest = rest

pub sorted_without : (number : ℕ) (es : Entries) → IsStrictlySortedBy nat_cmp (keys_of es) → IsStrictlySortedBy nat_cmp (keys_of (without number es))
sorted_without number es sorted =
    subst (IsStrictlySortedBy nat_cmp) (sym (keys_without number es)) (IsStrictlySortedBy-filter nat_cmp (λ (k : ℕ). not (k == number)) (keys_of es) sorted)
