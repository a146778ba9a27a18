-- Paths with one part more.
use Rattle.std.proofs.Common.{◌≡◌, ℕ, ◌+◌, true, List, [], ◌∷◌, ◌++◌, arith, length-append, false, refl, sym, ap, ◌∙◌, true≢false}
use Rattle.std.specs.Bool.{Decides}
use Rattle.std.specs.Str.{bytes_eq}
use Rattle.std.specs.Cmp.Lexicographic.{pointwise}
use Rattle.std.proofs.lemmas.Slice.Eq.{slice_eq-Decides, bytes_eq-Decides}
use Rattle.std.proofs.lemmas.List.{same_from_push}
use Rattle.std.proofs.lemmas.Bool.Decides.{nat_tests}
use Rattle.std.proofs.lemmas.List.Folds.{list_all-append}
use Rattle.vault_path.specs.Parts.{is_part, is_path}

-- the parts before a place, if the whole is a path
pub is_path-front : (xs ys : List (List ℕ)) → is_path (xs ++ ys) ≡ true → is_path xs ≡ true
is_path-front xs ys h = grind (arith, nat_tests, list_all-append is_part xs ys, length-append xs ys)

-- whether two paths are equal, part by part
pub same_parts : (xs ys : List (List ℕ)) → Decides (pointwise bytes_eq xs ys) (xs ≡ ys)
same_parts xs ys = slice_eq-Decides bytes_eq-Decides xs ys (pointwise bytes_eq xs ys) refl

-- a path whose front is another one is that one and its last part
pub front_same : (path folder front : List (List ℕ)) (name : List ℕ) → path ≡ front ++ name ∷ [] → pointwise bytes_eq front folder ≡ true → path ≡ folder ++ name ∷ []
front_same path folder front name whole same = whole ∙ ap (λ xs. xs ++ name ∷ []) ((same_parts front folder).0 same)

-- and else it is in another folder
pub front_other : (path folder front : List (List ℕ)) (last name : List ℕ) → path ≡ front ++ last ∷ [] → pointwise bytes_eq front folder ≡ false → path ≡ folder ++ name ∷ [] → ⊥
front_other path folder front last name whole other in_folder =
    true≢false (sym ((same_parts front folder).1 (same_from_push front folder last name (sym whole ∙ in_folder)).0) ∙ other)
