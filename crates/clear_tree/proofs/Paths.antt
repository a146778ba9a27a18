-- Paths: their equality and the walk's order.
use Rattle.std.proofs.Common.{◌≡◌, ◌≢◌, ℕ, Bool, true, false, List, [], ◌∷◌, bytes_eq, refl, sym, ap, ◌∙◌, length, arith, true≢false, inl, inr, ◌⊎◌}
use Rattle.std.specs.Ordering.{is_gt, nat_cmp}
use Rattle.std.specs.declared.cmp.Ordering.TheVariants.{Equal}
use Rattle.std.specs.Cmp.Lexicographic.{slice_cmp}
use Rattle.std.proofs.lemmas.Slice.Eq.{slice_eq-Decides, bytes_eq-Decides}
use Rattle.std.proofs.lemmas.Cmp.{tied_itself, nat_list_cmp_total}
use Rattle.clear_tree.specs.Walk.{Path, same_path, walk_cmp}

pub same_path-true : (p q : Path) → same_path p q ≡ true → p ≡ q
unfolding same_path
same_path-true p q e = (slice_eq-Decides {E = bytes_eq} bytes_eq-Decides p q (same_path p q) refl).0 e

pub same_path-from : (p q : Path) → p ≡ q → same_path p q ≡ true
unfolding same_path
same_path-from p q e = (slice_eq-Decides {E = bytes_eq} bytes_eq-Decides p q (same_path p q) refl).1 e

pub same_path-itself : (p : Path) → same_path p p ≡ true
same_path-itself p = same_path-from p p refl

-- either equal, with the test true, or apart, with the test false
pub path_cases : (p q : Path) → ((same_path p q ≡ true) × (p ≡ q)) ⊎ ((same_path p q ≡ false) × (p ≢ q))
path_cases p q = go (same_path p q) refl
  where
    go : (b : Bool) → same_path p q ≡ b → ((same_path p q ≡ true) × (p ≡ q)) ⊎ ((same_path p q ≡ false) × (p ≢ q))
    go true e = inl (e, same_path-true p q e)
    go false e = inr (e, λ h. true≢false (sym (same_path-from p q h) ∙ e))

pub same_path-apart : (p q : Path) → p ≢ q → same_path p q ≡ false
same_path-apart p q h = go (same_path p q) refl
  where
    go : (b : Bool) → same_path p q ≡ b → same_path p q ≡ false
    go true e = absurd (h (same_path-true p q e))
    go false e = e

-- a path is not its own child
pub child_apart : (m : List ℕ) (p : Path) → m ∷ p ≢ p
child_apart m p e = let h : length (m ∷ p) ≡ length p = ap length e in omega (arith, h)

pub root_first : (p : Path) → is_gt (walk_cmp p []) ≡ false → p ≡ []
root_first [] h = refl
root_first (n ∷ p) h = absurd (true≢false h)

pub cmp_itself : (n : List ℕ) → slice_cmp nat_cmp n n ≡ Equal
cmp_itself n = tied_itself nat_list_cmp_total n

pub walk_itself : (p : Path) → walk_cmp p p ≡ Equal
walk_itself [] = refl
walk_itself (n ∷ p) = rw (walk_itself p) (cmp_itself n)

pub walk_not_after : (p : Path) → is_gt (walk_cmp p p) ≡ false
walk_not_after p = rw (walk_itself p) refl

pub bytes_apart : (f g : List ℕ) → g ≢ f → bytes_eq f g ≡ false
bytes_apart f g h = go (bytes_eq f g) refl
  where
    go : (b : Bool) → bytes_eq f g ≡ b → bytes_eq f g ≡ false
    go true e = absurd (h (sym ((bytes_eq-Decides f g).0 e)))
    go false e = e

pub bytes_same : (f : List ℕ) → bytes_eq f f ≡ true
bytes_same f = (bytes_eq-Decides f f).1 refl
