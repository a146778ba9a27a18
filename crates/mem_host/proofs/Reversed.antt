-- Steps that are kept the oldest first, and seen the newest first.
use Rattle.std.proofs.Common.{◌≡◌, ◌+◌, ◌<◌, ℕ, List, [], ◌∷◌, ◌++◌, length, take, set, get_or, map, reverse, refl, sym, ap, ◌∙◌}
use Rattle.std.proofs.lemmas.List.{reverse-append, map-append, take_more, take_more_set}
use Rattle.mem_host.specs.Steps.{file_step_of, file_steps_of}
use Rattle.mem_host.specs.declared.file.MemFileStep.{MemFileStep}

-- a step that is kept after the others is seen first
pub pushed : {X : Type 0} (xs ys : List X) (x : X) → ys ≡ xs ++ x ∷ [] → reverse ys ≡ x ∷ reverse xs
pushed xs ys x is = ap reverse is ∙ reverse-append xs (x ∷ [])

pub reversed_map : {X Y : Type 0} (f : X → Y) (xs : List X) → map f (reverse xs) ≡ reverse (map f xs)
reversed_map f [] = refl
reversed_map f (x ∷ xs) =
    ap (map f) (reverse-append (x ∷ []) xs)
    ∙ map-append f (reverse xs) (x ∷ [])
    ∙ ap (λ ys. ys ++ f x ∷ []) (reversed_map f xs)
    ∙ sym (reverse-append (f x ∷ []) (map f xs))

pub file_pushed : (xs ys : List MemFileStep) (x : MemFileStep) → ys ≡ xs ++ x ∷ [] → file_steps_of ys ≡ file_step_of x ∷ file_steps_of xs
file_pushed xs ys x is = pushed (map file_step_of xs) (map file_step_of ys) (file_step_of x) (ap (map file_step_of) is ∙ map-append file_step_of xs (x ∷ []))

-- one more of them
pub one_more : {X : Type 0} (xs : List X) (k : ℕ) (d : X) → k < length xs → reverse (take (k + 1) xs) ≡ get_or xs k d ∷ reverse (take k xs)
one_more xs k d h = pushed (take k xs) (take (k + 1) xs) (get_or xs k d) (take_more xs k d h)

pub file_one_more : (xs : List MemFileStep) (k : ℕ) (d : MemFileStep) → k < length xs → file_steps_of (take (k + 1) xs) ≡ file_step_of (get_or xs k d) ∷ file_steps_of (take k xs)
file_one_more xs k d h = file_pushed (take k xs) (take (k + 1) xs) (get_or xs k d) (take_more xs k d h)

-- ---- a loop that changes each in turn

pub front_more : {X : Type 0} (f : X → X) (xs ys zs : List X) (k : ℕ) (x y d : X) → k < length ys → k < length xs → zs ≡ set ys k y → y ≡ f x → x ≡ get_or xs k d
    → take k ys ≡ map f (take k xs) → take (k + 1) zs ≡ map f (take (k + 1) xs)
front_more f xs ys zs k x y d here there is made at front =
    ap (take (k + 1)) is
    ∙ take_more_set ys k y here
    ∙ ap (λ l. l ++ y ∷ []) front
    ∙ ap (λ z. map f (take k xs) ++ z ∷ []) (made ∙ ap f at)
    ∙ sym (ap (map f) (take_more xs k d there) ∙ map-append f (take k xs) (get_or xs k d ∷ []))
