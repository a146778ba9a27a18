-- Ranges of the code, and that they rise.
use Rattle.std.proofs.Common.{◌≡◌, ℕ, zero, suc, ◌+◌, ◌≤◌, take, drop, subst, Bool, true, false, leb, List, [], ◌∷◌, ◌++◌, length, refl, sym, ap, ◌∙◌, arith}
use Rattle.std.specs.Prelude.{◌&&◌}
use Rattle.std.specs.List.{AllByRecursion}
use Rattle.std.proofs.lemmas.Bool.{leb-true}
use Rattle.deeds.specs.declared.writes.Range.{Range}
use Rattle.deeds.specs.Plain.{plain_ranges}
use Rattle.deeds.specs.Reshape.{Ranges, EndWithin}
use Rattle.deeds.specs.Grammar.{rise_within}
use Rattle.deeds.proofs.Fields.{both_true}

pub ranges_pushed : (ranges : List Range) (r : Range) → plain_ranges (ranges ++ r ∷ []) ≡ plain_ranges ranges ++ (r.at, r.bytes.items) ∷ []
ranges_pushed [] r = refl
ranges_pushed (x ∷ ranges) r = ap (λ (l : Ranges). (x.at, x.bytes.items) ∷ l) (ranges_pushed ranges r)

abbrev pub is_next_range : ℕ → ℕ → ℕ × List ℕ → Bool
is_next_range from len r = leb from r.0 && leb (r.0 + length r.1) len

pub next_rises : (from len : ℕ) (r : ℕ × List ℕ) (rs : Ranges) → is_next_range from len r ≡ true → rise_within from len (r ∷ rs) ≡ rise_within (r.0 + length r.1) len rs
next_rises from len r rs is =
    let b = both_true (leb from r.0) (leb (r.0 + length r.1) len) is in
    rw (b.0, b.1) refl

either_false : (a b c : Bool) → (a && b) ≡ false → (a && (b && c)) ≡ false
either_false true true c e = absurd cc
either_false true false c e = refl
either_false false b c e = refl

pub next_falls : (from len : ℕ) (r : ℕ × List ℕ) (rs : Ranges) → is_next_range from len r ≡ false → rise_within from len (r ∷ rs) ≡ false
next_falls from len r rs is = either_false (leb from r.0) (leb (r.0 + length r.1) len) (rise_within (r.0 + length r.1) len rs) is

ranges_drop : (i : ℕ) (s : List Range) → drop i (plain_ranges s) ≡ plain_ranges (drop i s)
ranges_drop zero s = refl
ranges_drop (suc i) [] = refl
ranges_drop (suc i) (x ∷ s) = ranges_drop i s

pub ranges_at : (s : List Range) (i : ℕ) (r : Range) → drop i s ≡ r ∷ drop (i + 1) s → drop i (plain_ranges s) ≡ (r.at, r.bytes.items) ∷ drop (i + 1) (plain_ranges s)
ranges_at s i r e = ranges_drop i s ∙ ap plain_ranges e ∙ ap (λ (l : Ranges). (r.at, r.bytes.items) ∷ l) (sym (ranges_drop (i + 1) s))

pub ranges_all : (s : List Range) (i : ℕ) → length s ≤ i → take i (plain_ranges s) ≡ plain_ranges s
ranges_all [] zero le = refl
ranges_all [] (suc i) le = refl
ranges_all (x ∷ s) zero le = absurd (omega arith)
ranges_all (x ∷ s) (suc i) le = ap (λ (l : Ranges). (x.at, x.bytes.items) ∷ l) (ranges_all s i (omega arith))

pub ranges_long : (s : List Range) → length (plain_ranges s) ≡ length s
ranges_long [] = refl
ranges_long (x ∷ s) = ap suc (ranges_long s)

-- what holds of each holds of the one at an index
pub each_at : {A : Type 0} (P : A → Type 0) (xs : List A) (i : ℕ) (x : A) → drop i xs ≡ x ∷ drop (i + 1) xs → AllByRecursion P xs → P x
each_at P xs i x e all = each_in P xs i x (drop (i + 1) xs) e all
  where
    each_in : {A : Type 0} (P : A → Type 0) (xs : List A) (i : ℕ) (x : A) (rest : List A) → drop i xs ≡ x ∷ rest → AllByRecursion P xs → P x
    each_in P [] zero x rest e all = absurd cc
    each_in P (y ∷ xs) zero x rest e all = let same : y ≡ x = cc in subst P same all.0
    each_in P [] (suc i) x rest e all = absurd cc
    each_in P (y ∷ xs) (suc i) x rest e all = each_in P xs i x rest e all.1

-- ---- good deeds

-- they end within the length
pub within_of : (from len : ℕ) (rs : Ranges) → rise_within from len rs ≡ true → EndWithin len rs
within_of from len [] e = tt
within_of from len (r ∷ rs) e =
    let b = both_true (leb from r.0) (leb (r.0 + length r.1) len && rise_within (r.0 + length r.1) len rs) e in
    let d = both_true (leb (r.0 + length r.1) len) (rise_within (r.0 + length r.1) len rs) b.1 in
    (leb-true _ _ d.0, within_of (r.0 + length r.1) len rs d.1)
