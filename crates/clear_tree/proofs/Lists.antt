-- Membership and order in lists that grow at the end.
use Rattle.std.proofs.Common.{◌≡◌, List, [], ◌∷◌, ◌++◌, refl, sym, subst, inl, inr, ◌⊎◌}
use Rattle.std.specs.declared.cmp.Ordering.{Ordering}
use Rattle.std.specs.declared.cmp.Ordering.TheVariants.{Less}
use Rattle.clear_tree.specs.Queue.{In, Ascending}

pub in_left : {A : Type 0} (x : A) (xs ys : List A) → In x xs → In x (xs ++ ys)
in_left x [] ys h = absurd h
in_left x (y ∷ xs) ys (inl e) = inl e
in_left x (y ∷ xs) ys (inr h) = inr (in_left x xs ys h)

pub in_right : {A : Type 0} (x : A) (xs ys : List A) → In x ys → In x (xs ++ ys)
in_right x [] ys h = h
in_right x (y ∷ xs) ys h = inr (in_right x xs ys h)

pub in_cases : {A : Type 0} (x : A) (xs ys : List A) → In x (xs ++ ys) → In x xs ⊎ In x ys
in_cases x [] ys h = inr h
in_cases x (y ∷ xs) ys (inl e) = inl (inl e)
in_cases x (y ∷ xs) ys (inr h) = go (in_cases x xs ys h)
  where
    go : In x xs ⊎ In x ys → In x (y ∷ xs) ⊎ In x ys
    go (inl k) = inl (inr k)
    go (inr k) = inr k

pub ascending_append : {A : Type 0} (R : A → A → Ordering) (xs ys : List A) → Ascending R xs → Ascending R ys →
    ((x y : A) → In x xs → In y ys → R x y ≡ Less) → Ascending R (xs ++ ys)
ascending_append R [] ys a b h = b
ascending_append {A} R (x ∷ xs) ys a b h = ((λ y k. go y (in_cases y xs ys k)), ascending_append R xs ys a.1 b (λ z y i j. h z y (inr i) j))
  where
    go : (y : A) → In y xs ⊎ In y ys → R x y ≡ Less
    go y (inl k) = a.0 y k
    go y (inr k) = h x y (inl refl) k

-- in an ascending list what is left of a place is before what is there
pub ascending_split : {A : Type 0} (R : A → A → Ordering) (xs ys : List A) → Ascending R (xs ++ ys) → (x y : A) → In x xs → In y ys → R x y ≡ Less
ascending_split R [] ys a x y h k = absurd h
ascending_split R (z ∷ xs) ys a x y (inl e) k = subst (λ w. R w y ≡ Less) (sym e) (a.0 y (in_right y xs ys k))
ascending_split R (z ∷ xs) ys a x y (inr h) k = ascending_split R xs ys a.1 x y h k

pub ascending_right : {A : Type 0} (R : A → A → Ordering) (xs ys : List A) → Ascending R (xs ++ ys) → Ascending R ys
ascending_right R [] ys a = a
ascending_right R (x ∷ xs) ys a = ascending_right R xs ys a.1
