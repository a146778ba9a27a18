-- Slices of lists in which some bytes may be missing.
use Rattle.std.proofs.Common.{◌≡◌, ℕ, zero, suc, ◌+◌, ◌≤◌, ◌<◌, List, [], ◌∷◌, ◌++◌, length, take, drop, map, replicate, Some, None, Option, refl, ap, sym, ◌∙◌, ◌⊎◌, inl, inr, arith, length-drop}
use Rattle.std.specs.Option.{option_map, option_and_then}
use Rattle.std.proofs.lemmas.List.{length-map, append-nil, take_all, drop_all, drop-drop, drop-append-le, take-append-le, take-map, drop-map, take-append-drop, take-take, drop-take, nil_from_length}
use Rattle.tree_model.specs.Rows.{all_there}

-- two slices, one after the other, as one
abbrev pub both : Option (List ℕ) → Option (List ℕ) → Option (List ℕ)
both front back = option_and_then (λ xs. option_map (λ ys. xs ++ ys) back) front

pub all_there-map : (xs : List ℕ) → all_there (map (λ b. Some b) xs) ≡ Some xs
all_there-map [] = refl
all_there-map (x ∷ xs) = ap (option_map (λ (rest : List ℕ). x ∷ rest)) (all_there-map xs)

both-nil : (back : Option (List ℕ)) → back ≡ option_map (λ ys. [] ++ ys) back
both-nil None = refl
both-nil (Some ys) = refl

both-cons : (x : ℕ) (front back : Option (List ℕ)) → option_map (λ rest. x ∷ rest) (both front back) ≡ both (option_map (λ rest. x ∷ rest) front) back
both-cons x None back = refl
both-cons x (Some xs) None = refl
both-cons x (Some xs) (Some ys) = refl

pub all_there-append : (xs ys : List (Option ℕ)) → all_there (xs ++ ys) ≡ both (all_there xs) (all_there ys)
all_there-append [] ys = both-nil (all_there ys)
all_there-append (None ∷ xs) ys = refl
all_there-append (Some x ∷ xs) ys = ap (option_map (λ (rest : List ℕ). x ∷ rest)) (all_there-append xs ys) ∙ both-cons x (all_there xs) (all_there ys)

take-add : (a b : ℕ) (xs : List (Option ℕ)) → take (a + b) xs ≡ take a xs ++ take b (drop a xs)
take-add a b xs =
    sym (take-append-drop a (take (a + b) xs)) ∙ rw (take-take a (a + b) xs (omega arith), drop-take a b xs) refl

-- a slice is its front and what follows that
pub slice-add : (xs : List (Option ℕ)) (at first second : ℕ)
    → all_there (take (first + second) (drop at xs)) ≡ both (all_there (take first (drop at xs))) (all_there (take second (drop (at + first) xs)))
slice-add xs at first second =
    ap all_there (take-add first second (drop at xs)) ∙ all_there-append (take first (drop at xs)) (take second (drop first (drop at xs)))
    ∙ ap (λ (r : List (Option ℕ)). both (all_there (take first (drop at xs))) (all_there (take second r))) (drop-drop first at xs)

pub slice_behind : (xs : List (Option ℕ)) (at count : ℕ) → (length xs ≤ at) ⊎ (count ≡ 0) → all_there (take count (drop at xs)) ≡ Some []
slice_behind xs at count (inl behind) =
    ap all_there (ap (take count) (drop_all at xs behind) ∙ take_all count [] (omega arith))
slice_behind xs at count (inr none) = ap (λ (n : ℕ). all_there (take n (drop at xs))) none

-- nothing is read if the first byte is missing
pub slice_missing : (q r count : ℕ) (rest : List (Option ℕ)) → r < q → 0 < count → all_there (take count (drop r (replicate q None ++ rest))) ≡ None
slice_missing zero r count rest inside some = absurd (omega arith)
slice_missing (suc q) zero zero rest inside some = absurd (omega arith)
slice_missing (suc q) zero (suc count) rest inside some = refl
slice_missing (suc q) (suc r) count rest inside some = slice_missing q r count rest (omega arith) some

-- what is read inside bytes that are there, or up to their end if nothing follows them
pub slice_there : (plaintext : List ℕ) (r count : ℕ) (rest : List (Option ℕ)) → r ≤ length plaintext → (r + count ≤ length plaintext) ⊎ (length rest ≡ 0)
    → all_there (take count (drop r (map (λ b. Some b) plaintext ++ rest))) ≡ Some (take count (drop r plaintext))
slice_there plaintext r count rest from inside =
    let bytes : List (Option ℕ) = map (λ b. Some b) plaintext in
    let size : length (map (λ (b : ℕ). Some b) plaintext) ≡ length plaintext = length-map plaintext (λ (b : ℕ). Some b) in
    let cut : drop r (bytes ++ rest) ≡ drop r bytes ++ rest = drop-append-le r bytes rest (omega arith) in
    let same : take count (drop r bytes) ≡ map (λ b. Some b) (take count (drop r plaintext)) =
    ap (take count) (drop-map (λ (b : ℕ). Some b) r plaintext) ∙ take-map (λ (b : ℕ). Some b) count (drop r plaintext) in
    let front : take count (drop r bytes ++ rest) ≡ take count (drop r bytes) =
    (elim inside [
      | inl short ↦ take-append-le count (drop r bytes) rest (omega (arith, length-drop r bytes))
      | inr none ↦ ap (take count) (ap (λ (xs : List (Option ℕ)). drop r bytes ++ xs) (nil_from_length rest none) ∙ append-nil (drop r bytes))
    ]) in
    ap all_there (ap (take count) cut ∙ front ∙ same) ∙ all_there-map (take count (drop r plaintext))
