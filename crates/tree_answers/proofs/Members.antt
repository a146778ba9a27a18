-- Members of lists: those that pass a test or are made of others, and the first one that passes.
use Rattle.std.proofs.Common.{◌≡◌, ◌⊎◌, Bool, true, false, ◌&&◌, cond, List, [], ◌∷◌, map, filter, Some, None, inl, inr, refl, sym, ap, subst, ◌∙◌}
use Rattle.std.specs.List.{find}
use Rattle.std.proofs.lemmas.Bool.{cond-true, cond-false}
use Rattle.clear_tree.specs.Queue.{In}

pub both : (a b : Bool) → (a && b) ≡ true → (a ≡ true) × (b ≡ true)
both true b h = (refl, h)
both false b h = absurd cc

-- ---- filters and maps

pub in_filter : {X : Type 0} (p : X → Bool) (x : X) (xs : List X) → In x xs → p x ≡ true → In x (filter p xs)
in_filter p x [] h pass = absurd h
in_filter {X} p x (y ∷ xs) h pass = by (p y) refl (in_filter p x xs) h
  where
    by : (b : Bool) → p y ≡ b → (In x xs → p x ≡ true → In x (filter p xs)) → In x (y ∷ xs) → In x (filter p (y ∷ xs))
    by true is rest (inl same) = subst (In x) (sym (cond-true (p y) _ _ is)) (inl same)
    by true is rest (inr h) = subst (In x) (sym (cond-true (p y) _ _ is)) (inr (rest h pass))
    by false is rest (inl same) = let passes : p y ≡ true = ap p (sym same) ∙ pass in absurd (cc (passes, is))
    by false is rest (inr h) = subst (In x) (sym (cond-false (p y) _ _ is)) (rest h pass)

pub filter_in : {X : Type 0} (p : X → Bool) (x : X) (xs : List X) → In x (filter p xs) → In x xs × (p x ≡ true)
filter_in p x [] h = absurd h
filter_in {X} p x (y ∷ xs) h = by (p y) refl (filter_in p x xs) h
  where
    onward : In x xs × (p x ≡ true) → In x (y ∷ xs) × (p x ≡ true)
    onward both = (inr both.0, both.1)

    here : p y ≡ true → (x ≡ y) ⊎ In x (filter p xs) → (In x (filter p xs) → In x xs × (p x ≡ true)) → In x (y ∷ xs) × (p x ≡ true)
    here is (inl same) rest = (inl same, ap p same ∙ is)
    here is (inr h) rest = onward (rest h)

    by : (b : Bool) → p y ≡ b → (In x (filter p xs) → In x xs × (p x ≡ true)) → In x (filter p (y ∷ xs)) → In x (y ∷ xs) × (p x ≡ true)
    by true is rest h = here is (subst (In x) (cond-true (p y) _ _ is) h) rest
    by false is rest h = onward (rest (subst (In x) (cond-false (p y) _ _ is) h))

pub in_map : {X Y : Type 0} (f : X → Y) (x : X) (xs : List X) → In x xs → In (f x) (map f xs)
in_map f x [] h = absurd h
in_map f x (y ∷ xs) (inl same) = inl (ap f same)
in_map f x (y ∷ xs) (inr h) = inr (in_map f x xs h)

pub record IsMapped {X Y : Type 0} (f : X → Y) (y : Y) (xs : List X) : Type 0 where
  pub of : X
  pub there : In of xs
  pub is : y ≡ f of

pub map_in : {X Y : Type 0} (f : X → Y) (y : Y) (xs : List X) → In y (map f xs) → IsMapped f y xs
map_in f y [] h = absurd h
map_in f y (x ∷ xs) (inl same) = record { of = x; there = inl refl; is = same }
map_in f y (x ∷ xs) (inr h) = let rest = map_in f y xs h in record { of = rest.of; there = inr rest.there; is = rest.is }

-- ---- the first that passes

module _ {A : Type 0} (t : A → Bool) where
  -- what is found is there, and passes
  pub find_in : (xs : List A) (x : A) → find t xs ≡ Some x → In x xs × (t x ≡ true)
  find_in [] x h = absurd cc
  find_in (y ∷ xs) x h = by (t y) refl h (find_in xs x)
    where
      onward : In x xs × (t x ≡ true) → In x (y ∷ xs) × (t x ≡ true)
      onward both = (inr both.0, both.1)

      by : (b : Bool) → t y ≡ b → cond b (Some y) (find t xs) ≡ Some x → (find t xs ≡ Some x → In x xs × (t x ≡ true)) → In x (y ∷ xs) × (t x ≡ true)
      by true is h rest = let same : x ≡ y = cc in (inl same, ap t same ∙ is)
      by false is h rest = onward (rest h)

  -- if none is found none passes
  pub none_passes : (xs : List A) → find t xs ≡ None → (x : A) → In x xs → t x ≡ true → ⊥
  none_passes [] none x h pass = h
  none_passes (y ∷ xs) none x h pass = by (t y) refl none h (none_passes xs)
    where
      by : (b : Bool) → t y ≡ b → cond b (Some y) (find t xs) ≡ None → In x (y ∷ xs) → (find t xs ≡ None → (x : A) → In x xs → t x ≡ true → ⊥) → ⊥
      by true is none h rest = absurd cc
      by false is none (inl same) rest = let passes : t y ≡ true = ap t (sym same) ∙ pass in absurd (cc (passes, is))
      by false is none (inr h) rest = rest none x h pass
