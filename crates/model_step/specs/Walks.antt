-- What refuses a walk before its work.
use Rattle.std.specs.Prelude.{ℕ, List, [], ◌∷◌, Option, None}
use Rattle.tree_model.specs.declared.refusal.Refusal.{Refusal}
use Rattle.tree_model.specs.Rows.{Kind}
use Rattle.tree_model.specs.Step.{walk_refusal}

-- what keeps a node from being walked from by the first of these names
abbrev pub first_refusal : Kind → List (List ℕ) → Option Refusal
first_refusal kind [] = None
first_refusal kind (name ∷ names) = walk_refusal kind name
