-- Elements by their number, in lists that grow at the end.
use Rattle.std.proofs.Common.{◌≡◌, ℕ, zero, suc, ◌<◌, List, [], ◌∷◌, ◌++◌, length, Some, Contains, refl, sym, ap, inl, inr, ◌⊎◌, arith, slice_get}
use Rattle.std.proofs.lemmas.Option.{slice_get_read, slice_get_within, get_or_from_slice_get}
use Rattle.clear_tree.specs.Queue.{In}

module _ {A : Type 0} where
  pub get_left : (xs ys : List A) (k : ℕ) (x : A) → slice_get xs k ≡ Some x → slice_get (xs ++ ys) k ≡ Some x
  get_left [] ys k x h = absurd (cc)
  get_left (z ∷ xs) ys zero x h = h
  get_left (z ∷ xs) ys (suc k) x h = get_left xs ys k x h

  pub get_last : (xs : List A) (x : A) → slice_get (xs ++ x ∷ []) (length xs) ≡ Some x
  get_last [] x = refl
  get_last (z ∷ xs) x = get_last xs x

  pub get_cases : (xs : List A) (y : A) (k : ℕ) (x : A) → slice_get (xs ++ y ∷ []) k ≡ Some x → (slice_get xs k ≡ Some x) ⊎ ((k ≡ length xs) × (x ≡ y))
  get_cases [] y zero x h = inr (refl, cc)
  get_cases [] y (suc k) x h = absurd (cc)
  get_cases (z ∷ xs) y zero x h = inl h
  get_cases (z ∷ xs) y (suc k) x h = go (get_cases xs y k x h)
    where
      go : (slice_get xs k ≡ Some x) ⊎ ((k ≡ length xs) × (x ≡ y)) → (slice_get xs k ≡ Some x) ⊎ ((suc k ≡ length (z ∷ xs)) × (x ≡ y))
      go (inl e) = inl e
      go (inr e) = inr (ap suc e.0, e.1)

  pub in_at : (xs : List A) (k : ℕ) (x : A) → slice_get xs k ≡ Some x → In x xs
  in_at [] k x h = absurd (cc)
  in_at (z ∷ xs) zero x h = inl (cc)
  in_at (z ∷ xs) (suc k) x h = inr (in_at xs k x h)

  pub at_in : (xs : List A) (x : A) → In x xs → (k : ℕ) × (slice_get xs k ≡ Some x)
  at_in [] x h = absurd h
  at_in (z ∷ xs) x (inl e) = (0, ap (λ (y : A). Some y) (sym e))
  at_in (z ∷ xs) x (inr h) = let r : (k : ℕ) × (slice_get xs k ≡ Some x) = at_in xs x h in (suc r.0, r.1)

  pub contains_at : (xs : List A) (x : A) → Contains xs x → (k : ℕ) × (slice_get xs k ≡ Some x)
  contains_at xs x c = (c.0, slice_get_read xs (length xs) c.0 x refl c.1 (sym c.2))

  pub at_contains : (xs : List A) (k : ℕ) (x : A) → slice_get xs k ≡ Some x → Contains xs x
  at_contains xs k x h = (k, slice_get_within xs k x h, get_or_from_slice_get xs k x x h)

  pub get_there : (xs : List A) (k : ℕ) → k < length xs → (x : A) × (slice_get xs k ≡ Some x)
  get_there [] k h = absurd (omega (arith, h))
  get_there (z ∷ xs) zero h = (z, refl)
  get_there (z ∷ xs) (suc k) h = get_there xs k (omega (arith, h))

  -- lists that agree at each number are one
  pub same_lists : (xs ys : List A) → length xs ≡ length ys → ((k : ℕ) (x y : A) → slice_get xs k ≡ Some x → slice_get ys k ≡ Some y → x ≡ y) → xs ≡ ys
  same_lists [] [] e h = refl
  same_lists [] (y ∷ ys) e h = absurd (omega (arith, e))
  same_lists (x ∷ xs) [] e h = absurd (omega (arith, e))
  same_lists (x ∷ xs) (y ∷ ys) e h =
      let here : x ≡ y = h 0 x y refl refl in
      let rest : xs ≡ ys = same_lists xs ys (omega (arith, e)) (λ k. h (suc k)) in
      λ i. here i ∷ rest i
