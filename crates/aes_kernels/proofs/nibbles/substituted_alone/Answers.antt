use Rattle.std.proofs.Common.{◌≡◌, ℕ, List, [], map, get_or, ap}
use Rattle.aes_kernels.proofs.Vectors.{looked-map, sum-maps}
use Rattle.aes_kernels.specs.declared.tables.TheConstants.{SBOT, SBOU}
use Rattle.aes_kernels.specs.Nibbles.{inverse_lower, inverse_upper, looked_up}
use Rattle.aes_kernels.proofs.nibbles.substituted_alone.Goals as goal

pub returns : goal.returns
returns c =
    let x : List ℕ = c.args.x in
    let u : get_or c.inverse.result 0 [] ≡ map inverse_upper x = ap (λ (l : List (List ℕ)). get_or l 0 []) c.inverse.ensures in
    let t : get_or c.inverse.result 1 [] ≡ map inverse_lower x = ap (λ (l : List (List ℕ)). get_or l 1 []) c.inverse.ensures in
    sum-maps (λ b. looked_up SBOU (inverse_upper b)) (λ b. looked_up SBOT (inverse_lower b)) x _ _
    (looked-map SBOU inverse_upper x _ _ c.look_up.ensures u) (looked-map SBOT inverse_lower x _ _ c.look_up-2.ensures t)
