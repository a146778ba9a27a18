-- Bytes that are drawn one after another.
use Rattle.std.proofs.Common.{ℕ, List, ◌++◌, Option, Some, None, ap, ◌∙◌, append_assoc}
use Rattle.outside.specs.Calls.{Extends}

-- a list grew twice
pub extends_then : (first second third : Option (List ℕ)) (xs ys : List ℕ) → Extends first second xs → Extends second third ys → Extends first third (xs ++ ys)
extends_then None None None xs ys p q = tt
extends_then None None (Some c) xs ys p q = absurd q
extends_then None (Some b) third xs ys p q = absurd p
extends_then (Some a) None third xs ys p q = absurd p
extends_then (Some a) (Some b) None xs ys p q = absurd q
extends_then (Some a) (Some b) (Some c) xs ys p q = q ∙ ap (λ (l : List ℕ). l ++ ys) p ∙ append_assoc a xs ys
