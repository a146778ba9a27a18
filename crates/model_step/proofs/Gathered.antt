-- Lists whose elements may be absent.
use Rattle.std.proofs.Common.{◌≡◌, ◌≢◌, ℕ, ◌+◌, ◌-◌, ◌/◌, ◌%◌, ◌==◌, true, false, eq-eqb, ◌<◌, List, [], ◌∷◌, ◌++◌, length, take, drop, map, min, get_or, Option, Some, None, refl, sym, ap, ◌∙◌, arith, length-drop}
use Rattle.std.specs.List.{range_with_len}
use Rattle.std.specs.Option.{option_map}
use Rattle.std.proofs.lemmas.List.{drop_min, drop_more, take-append-drop, take_min, take_more}
use Rattle.std.proofs.lemmas.List.FromFn.{get_or-map-range_with_len, length-map-range_with_len, map-range_with_len_more}
use Rattle.std.proofs.lemmas.Bool.{ne_eqb}
use Rattle.tree_model.specs.Rows.{Cell, all_there, joined_cells}
use Rattle.tree_model.specs.Contents.{cut_cells, sealed_chunk}

module _ {X : Type 0} where
  -- the elements of both
  abbrev pub both : Option (List X) → Option (List X) → Option (List X)
  both None ys = None
  both (Some xs) ys = option_map (λ ys. xs ++ ys) ys

  first_of_both : (x : X) (xs ys : Option (List X)) → option_map (λ rest. x ∷ rest) (both xs ys) ≡ both (option_map (λ rest. x ∷ rest) xs) ys
  first_of_both x None ys = refl
  first_of_both x (Some xs) None = refl
  first_of_both x (Some xs) (Some ys) = refl

  nothing_before : (ys : Option (List X)) → ys ≡ both (Some []) ys
  nothing_before None = refl
  nothing_before (Some ys) = refl

  -- of joined lists all are there if all of each are
  all_there-append : (xs ys : List (Option X)) → all_there (xs ++ ys) ≡ both (all_there xs) (all_there ys)
  all_there-append [] ys = nothing_before (all_there ys)
  all_there-append (None ∷ xs) ys = refl
  all_there-append (Some x ∷ xs) ys = ap (option_map (λ rest. x ∷ rest)) (all_there-append xs ys) ∙ first_of_both x (all_there xs) (all_there ys)

  -- one more is there
  pub all_there_more : (xs : List (Option X)) (all : List X) (x : X) → all_there xs ≡ Some all → all_there (xs ++ Some x ∷ []) ≡ Some (all ++ x ∷ [])
  all_there_more xs all x are = all_there-append xs (Some x ∷ []) ∙ ap (λ (o : Option (List X)). both o (Some (x ∷ []))) are

  both_none : (o : Option (List X)) → both o None ≡ None
  both_none None = refl
  both_none (Some xs) = refl

  -- the element at a place isn't there
  pub absent_at : (xs : List (Option X)) (i : ℕ) (d : Option X) → i < length xs → get_or xs i d ≡ None → all_there xs ≡ None
  absent_at xs i d h is =
      let next : drop i xs ≡ None ∷ drop (i + 1) xs = drop_more xs i d h ∙ ap (λ (x : Option X). x ∷ drop (i + 1) xs) is in
      ap all_there (sym (take-append-drop i xs)) ∙ all_there-append (take i xs) (drop i xs)
      ∙ ap (λ (rest : List (Option X)). both (all_there (take i xs)) (all_there rest)) next ∙ both_none (all_there (take i xs))

  -- the element at a place is there, as those before it are
  pub there_at : (xs : List (Option X)) (i : ℕ) (d : Option X) (all : List X) (x : X) → i < length xs → get_or xs i d ≡ Some x → all_there (take i xs) ≡ Some all
      → all_there (take (i + 1) xs) ≡ Some (all ++ x ∷ [])
  there_at xs i d all x h is are =
      ap all_there (take_more xs i d h ∙ ap (λ (y : Option X). take i xs ++ y ∷ []) is) ∙ all_there_more (take i xs) all x are

  -- of a list by a function of the index
  pub absent_of : (f : ℕ → Option X) (n i : ℕ) → i < n → f i ≡ None → all_there (map f (range_with_len 0 n)) ≡ None
  absent_of f n i h is =
      absent_at (map f (range_with_len 0 n)) i None (omega (arith, length-map-range_with_len f 0 n)) (get_or-map-range_with_len f 0 n i i None h (omega arith) ∙ is)

  pub there_of : (f : ℕ → Option X) (i : ℕ) (all : List X) (x : X) → f i ≡ Some x → all_there (map f (range_with_len 0 i)) ≡ Some all
      → all_there (map f (range_with_len 0 (i + 1))) ≡ Some (all ++ x ∷ [])
  there_of f i all x is are =
      ap all_there (map-range_with_len_more f 0 i i (omega arith) ∙ ap (λ (y : Option X). map f (range_with_len 0 i) ++ y ∷ []) is)
      ∙ all_there_more (map f (range_with_len 0 i)) all x are

  -- a slice whose ends are cut to the list
  pub slice_cut : (xs : List X) (n m start end : ℕ) → start ≡ min n (length xs) → end ≡ min (start + m) (length xs) → take (end - start) (drop start xs) ≡ take m (drop n xs)
  slice_cut xs n m start end start_is end_is =
      let rest : drop start xs ≡ drop n xs = ap (λ (k : ℕ). drop k xs) start_is ∙ drop_min n xs in
      let size : end - start ≡ min m (length (drop n xs)) = omega (arith, length-drop n xs) in
      ap (λ (ys : List X). take (end - start) ys) rest ∙ ap (λ (k : ℕ). take k (drop n xs)) size ∙ take_min m (drop n xs)

-- ---- cuts

-- a cut between two chunks
pub cut_between : (old : List Cell) (n : ℕ) → n % 32768 ≡ 0 → cut_cells old n ≡ Some (take (n / 32768) old)
cut_between old n is = let test : (n % 32768 == 0) ≡ true = eq-eqb (n % 32768) 0 is in rw test refl

-- a cut through a chunk
pub cut_through : (old : List Cell) (n : ℕ) → n % 32768 ≢ 0
    → cut_cells old n ≡ option_map (λ last. take (n / 32768) old ++ last ∷ []) (sealed_chunk (take n (joined_cells old)) (n / 32768))
cut_through old n other = let test : (n % 32768 == 0) ≡ false = ne_eqb (n % 32768) 0 other in rw test refl
