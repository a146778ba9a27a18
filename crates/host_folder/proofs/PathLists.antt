-- Whether a list of paths has a path, by `==`.
use Rattle.std.proofs.Common.{◌≡◌, ℕ, Bool, List, Contains, subst}
use Rattle.std.specs.Bool.{Decides}
use Rattle.std.specs.List.{IsAnyAnswer}
use Rattle.std.specs.Cmp.Lexicographic.{pointwise}
use Rattle.std.specs.Str.{bytes_eq}
use Rattle.std.proofs.lemmas.List.Elements.{contains_decides, Decides-contains}
use Rattle.vault_path.proofs.Joined.{same_parts}

pub has_decides : (items paths : List (List (List ℕ))) (path : List (List ℕ)) (r : Bool) → items ≡ paths → IsAnyAnswer (λ kept t. pointwise bytes_eq kept path ≡ t) items r → Decides r (Contains paths path)
has_decides items paths path r is answer =
    subst (λ (l : List (List (List ℕ))). Decides r (Contains l path)) is (Decides-contains items path r (contains_decides (pointwise bytes_eq) same_parts items path r answer))
