-- The host's text of a path, part by part.
use Rattle.std.proofs.Common.{◌≡◌, ℕ, ◌+◌, ◌<◌, List, [], ◌∷◌, ◌++◌, Some, length, take, sym, ap, ◌∙◌}
use Rattle.std.specs.List.{slice_get}
use Rattle.std.proofs.lemmas.List.{flat_map_more, take_more}
use Rattle.std.proofs.lemmas.Option.{get_or_from_slice_get}
use Rattle.host_calls.specs.HostPath.{joined}

-- the text of the first parts, and then one part more
pub joined_more : (base : List ℕ) (parts : List (List ℕ)) (i : ℕ) (part : List ℕ) → i < length parts → slice_get parts i ≡ Some part
    → joined base (take i parts) ++ (47 ∷ part) ≡ joined base (take (i + 1) parts)
joined_more base parts i part within at =
    flat_map_more (λ p. 47 ∷ p) base (take i parts) part
    ∙ ap (λ p. joined base (take i parts ++ p ∷ [])) (sym (get_or_from_slice_get parts i part part at))
    ∙ ap (joined base) (sym (take_more parts i part within))
