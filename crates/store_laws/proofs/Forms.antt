-- The form NFC of scalar values has scalar values alone.
use Rattle.std.proofs.Common.{◌≡◌, ◌<◌, ◌+◌, ◌-◌, ◌*◌, ◌/◌, ◌%◌, ◌==◌, ◌&&◌, ℕ, nat_le, nat_lt, Bool, true, false, cond, List, [], ◌∷◌, ◌++◌, flat_map, Option, Some, None, refl, sym, ◌∙◌, subst, arith, ltb-true}
use Rattle.std.proofs.lemmas.Bool.{and_from, and_parts}
use Rattle.std.proofs.Math.Utf8.{low_scalar, scalar, scalars}
use Rattle.ucd_table.proofs.Computing.{tables}
use Rattle.ucd_table.proofs.RangedFacts.{values_ok, Stepped-at_values}
use Rattle.ucd_normal.specs.declared.forms.Form.TheVariants.{Nfc}
use Rattle.ucd_normal.specs.Composition.{composite, paired_with}
use Rattle.ucd_normal.specs.Compositions.{compositions}
use Rattle.ucd_normal.specs.Decomposition.{canonical_decomposition, or_itself}
use Rattle.ucd_normal.proofs.CompositionLemmas.{composite-paired_with}
use Rattle.ucd_normal.proofs.CompositionsLemmas.{compositions_stepped}
use Rattle.ucd_normal.proofs.DecompositionLemmas.{canonical_decomposition_stepped}
use Rattle.unicode_normalization.specs.Compose.{compose, compose_after, is_blocked, joined, or_else, primary_composite}
use Rattle.unicode_normalization.specs.Decompose.{decompose}
use Rattle.unicode_normalization.specs.Forms.{decomposed, nfc, normalize}
use Rattle.unicode_normalization.specs.Hangul.{compose_hangul, decompose_hangul, is_leading_consonant, is_lv_syllable, is_syllable, is_trailing_consonant, is_vowel}
use Rattle.unicode_normalization.specs.Order.{canonical_order, is_reorderable, is_starter, sink}

-- ---- lists of scalar values

more : (c : ℕ) (cs : List ℕ) → scalar c ≡ true → scalars cs ≡ true → scalars (c ∷ cs) ≡ true
more c cs is are = and_from (scalar c) (scalars cs) is are

parts : (c : ℕ) (cs : List ℕ) → scalars (c ∷ cs) ≡ true → (scalar c ≡ true) × (scalars cs ≡ true)
parts c cs are = and_parts (scalar c) (scalars cs) are

joint : (cs ds : List ℕ) → scalars cs ≡ true → scalars ds ≡ true → scalars (cs ++ ds) ≡ true
joint [] ds are are' = are'
joint (c ∷ cs) ds are are' = more c (cs ++ ds) (parts c cs are).0 (joint cs ds (parts c cs are).1 are')

flat : (f : ℕ → List ℕ) → ((c : ℕ) → scalar c ≡ true → scalars (f c) ≡ true) → (cs : List ℕ) → scalars cs ≡ true → scalars (flat_map f cs) ≡ true
flat f each [] are = refl
flat f each (c ∷ cs) are = joint (f c) (flat_map f cs) (each c (parts c cs are).0) (flat f each cs (parts c cs are).1)

either : (b : Bool) (cs ds : List ℕ) → (b ≡ true → scalars cs ≡ true) → (b ≡ false → scalars ds ≡ true) → scalars (cond b cs ds) ≡ true
either true cs ds are are' = are refl
either false cs ds are are' = are' refl

-- ---- decomposition

in_table : (c : ℕ) → scalars (canonical_decomposition c) ≡ true
unfolding tables values_ok canonical_decomposition_stepped
in_table c = Stepped-at_values canonical_decomposition canonical_decomposition_stepped scalars refl c

itself : (c : ℕ) (mapping : List ℕ) → scalar c ≡ true → scalars mapping ≡ true → scalars (or_itself c mapping) ≡ true
itself c [] is are = more c [] is refl
itself c (x ∷ xs) is are = are

syllable_below : (c : ℕ) → is_syllable c ≡ true → c < 55204
syllable_below c is = let h = ltb-true c 55204 (and_parts (nat_le 44032 c) (nat_lt c 55204) is).1 in omega (arith, h)

jamo : (s : ℕ) → is_syllable s ≡ true → scalars (decompose_hangul s) ≡ true
unfolding decompose_hangul
jamo s is =
    let low : s < 55204 = syllable_below s is in
    let l : ℕ = 4352 + (s - 44032) / 588 in
    let v : ℕ = 4449 + (s - 44032) % 588 / 28 in
    let t : ℕ = 4519 + (s - 44032) % 28 in
    let is_l : scalar l ≡ true = low_scalar l (omega (arith, low)) in
    let is_v : scalar v ≡ true = low_scalar v (omega arith) in
    let is_t : scalar t ≡ true = low_scalar t (omega arith) in
    either ((s - 44032) % 28 == 0) (l ∷ v ∷ []) (l ∷ v ∷ t ∷ []) (λ e. more l (v ∷ []) is_l (more v [] is_v refl)) (λ e. more l (v ∷ t ∷ []) is_l (more v (t ∷ []) is_v (more t [] is_t refl)))

decomposes : (c : ℕ) → scalar c ≡ true → scalars (decompose Nfc c) ≡ true
unfolding decompose
decomposes c is = either (is_syllable c) (decompose_hangul c) (or_itself c (canonical_decomposition c)) (jamo c) (λ e. itself c (canonical_decomposition c) is (in_table c))

-- ---- order

sinks : (c : ℕ) (ds : List ℕ) → scalar c ≡ true → scalars ds ≡ true → scalars (sink c ds) ≡ true
unfolding sink
sinks c [] is are = more c [] is refl
sinks c (d ∷ ds) is are =
    either (is_reorderable c d) (d ∷ sink c ds) (c ∷ d ∷ ds) (λ e. more d (sink c ds) (parts d ds are).0 (sinks c ds is (parts d ds are).1)) (λ e. more c (d ∷ ds) is are)

ordered : (cs : List ℕ) → scalars cs ≡ true → scalars (canonical_order cs) ≡ true
unfolding canonical_order
ordered [] are = refl
ordered (c ∷ cs) are = sinks c (canonical_order cs) (parts c cs are).0 (ordered cs (parts c cs are).1)

-- ---- composition

in_pairs : (a : ℕ) → scalars (compositions a) ≡ true
unfolding tables values_ok compositions_stepped
in_pairs a = Stepped-at_values compositions compositions_stepped scalars refl a

paired : (b p : ℕ) (pairs : List ℕ) → scalars pairs ≡ true → paired_with b pairs ≡ Some p → scalar p ≡ true
unfolding paired_with
paired b p [] are found = absurd cc
paired b p (x ∷ []) are found = absurd cc
paired b p (x ∷ y ∷ rest) are found = go (x == b) found (paired b p rest tail.1)
  where
    tail : (scalar y ≡ true) × (scalars rest ≡ true)
    tail = parts y rest (parts x (y ∷ rest) are).1

    go : (same : Bool) → cond same (Some y) (paired_with b rest) ≡ Some p → (paired_with b rest ≡ Some p → scalar p ≡ true) → scalar p ≡ true
    go true h later = let e : y ≡ p = cc in subst (λ (z : ℕ). scalar z ≡ true) e tail.0
    go false h later = later h

syllable : (a b p : ℕ) → compose_hangul a b ≡ Some p → scalar p ≡ true
unfolding compose_hangul
syllable a b p found = first (is_leading_consonant a && is_vowel b) refl found
  where
    second : (test : Bool) → (is_lv_syllable a && is_trailing_consonant b) ≡ test → cond test (Some (a + (b - 4519))) None ≡ Some p → scalar p ≡ true
    second false e h = absurd cc
    second true e h =
        let both = and_parts (is_lv_syllable a) (is_trailing_consonant b) e in
        let low : a < 55204 = syllable_below a (and_parts (is_syllable a) ((a - 44032) % 28 == 0) both.0).0 in
        let late : b < 4547 = ltb-true b 4547 (and_parts (nat_le 4520 b) (nat_lt b 4547) both.1).1 in
        let is : a + (b - 4519) ≡ p = cc in
        subst (λ (z : ℕ). scalar z ≡ true) is (low_scalar (a + (b - 4519)) (omega (arith, low, late)))

    first : (test : Bool) → (is_leading_consonant a && is_vowel b) ≡ test
        → cond test (Some (44032 + ((a - 4352) * 588 + (b - 4449) * 28))) (cond (is_lv_syllable a && is_trailing_consonant b) (Some (a + (b - 4519))) None) ≡ Some p → scalar p ≡ true
    first false e h = second (is_lv_syllable a && is_trailing_consonant b) refl h
    first true e h =
        let both = and_parts (is_leading_consonant a) (is_vowel b) e in
        let low : a < 4371 = ltb-true a 4371 (and_parts (nat_le 4352 a) (nat_lt a 4371) both.0).1 in
        let late : b < 4470 = ltb-true b 4470 (and_parts (nat_le 4449 b) (nat_lt b 4470) both.1).1 in
        let is : 44032 + ((a - 4352) * 588 + (b - 4449) * 28) ≡ p = cc in
        subst (λ (z : ℕ). scalar z ≡ true) is (low_scalar (44032 + ((a - 4352) * 588 + (b - 4449) * 28)) (omega (arith, low, late)))

composed_is : (a b p : ℕ) → primary_composite a b ≡ Some p → scalar p ≡ true
unfolding primary_composite
composed_is a b p found = go (compose_hangul a b) refl found
  where
    go : (o : Option ℕ) → compose_hangul a b ≡ o → or_else o (composite a b) ≡ Some p → scalar p ≡ true
    go None e h = paired b p (compositions a) (in_pairs a) (sym (composite-paired_with a b) ∙ h)
    go (Some x) e h = let is : x ≡ p = cc in subst (λ (z : ℕ). scalar z ≡ true) is (syllable a b x e)

joined_is : (a : ℕ) (between : List ℕ) (b p : ℕ) → joined a between b ≡ Some p → scalar p ≡ true
unfolding joined
joined_is a between b p found = go (is_blocked between b) found
  where
    go : (blocked : Bool) → cond blocked None (primary_composite a b) ≡ Some p → scalar p ≡ true
    go true h = absurd cc
    go false h = composed_is a b p h

composed_after : (starter : ℕ) (between cs : List ℕ) → scalar starter ≡ true → scalars between ≡ true → scalars cs ≡ true → scalars (compose_after starter between cs) ≡ true
unfolding compose_after
composed_after starter between [] is are all = more starter between is are
composed_after starter between (c ∷ cs) is are all =
    go (joined starter between c) refl (λ p is'. composed_after p between cs is' are (parts c cs all).1)
    (more starter (between ++ compose_after c [] cs) is (joint between (compose_after c [] cs) are (composed_after c [] cs (parts c cs all).0 refl (parts c cs all).1)))
    (composed_after starter (between ++ c ∷ []) cs is (joint between (c ∷ []) are (more c [] (parts c cs all).0 refl)) (parts c cs all).1)
  where
    go : (o : Option ℕ) → joined starter between c ≡ o → ((p : ℕ) → scalar p ≡ true → scalars (compose_after p between cs) ≡ true)
        → scalars (starter ∷ between ++ compose_after c [] cs) ≡ true → scalars (compose_after starter (between ++ c ∷ []) cs) ≡ true
        → scalars (elim o [ Some p ↦ compose_after p between cs | None ↦ cond (is_starter c) (starter ∷ between ++ compose_after c [] cs) (compose_after starter (between ++ c ∷ []) cs) ]) ≡ true
    go (Some p) e with_p next kept = with_p p (joined_is starter between c p e)
    go None e with_p next kept = either (is_starter c) (starter ∷ between ++ compose_after c [] cs) (compose_after starter (between ++ c ∷ []) cs) (λ z. next) (λ z. kept)

composes : (cs : List ℕ) → scalars cs ≡ true → scalars (compose cs) ≡ true
unfolding compose
composes [] are = refl
composes (c ∷ cs) are =
    either (is_starter c) (compose_after c [] cs) (c ∷ compose cs) (λ e. composed_after c [] cs (parts c cs are).0 refl (parts c cs are).1) (λ e. more c (compose cs) (parts c cs are).0 (composes cs (parts c cs are).1))

-- ---- the form

pub normal : (cs : List ℕ) → scalars cs ≡ true → scalars (nfc cs) ≡ true
unfolding normalize decomposed
normal cs are = composes (canonical_order (flat_map (decompose Nfc) cs)) (ordered (flat_map (decompose Nfc) cs) (flat (decompose Nfc) decomposes cs are))
