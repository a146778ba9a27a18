-- An end that doesn't tell.
use Rattle.std.specs.Prelude.{false, IsTrue, MatchBool, ⊤}
use Rattle.std.proofs.Common.{subst}

-- from this anything follows
pub never : {X : Type 0} → IsTrue false → X
never {X} is = subst (λ b. MatchBool b X ⊤) is tt
