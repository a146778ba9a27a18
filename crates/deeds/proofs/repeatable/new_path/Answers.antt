use Rattle.std.proofs.Common.{ℕ, List, [], ◌∷◌, ◌++◌, sym, ap, ◌∙◌}
use Rattle.deeds.specs.Repeatable.{new_spelled}
use Rattle.deeds.proofs.repeatable.new_path.Goals as goal

pub returns : goal.returns
returns c = c.in-Ok.ensures.path ∙ ap (λ (l : List (List ℕ)). l ++ _) c.root.ensures ∙ ap (λ (name : List ℕ). name ∷ []) (sym new_spelled)
