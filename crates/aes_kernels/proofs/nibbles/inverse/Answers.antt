use Rattle.std.proofs.Common.{ℕ, ◌/◌, List, [], ◌∷◌, bit_and, bit_xor, ap₂}
use Rattle.aes_kernels.proofs.Vectors.{looked-map, sum-maps}
use Rattle.aes_kernels.specs.declared.tables.TheConstants.{INV, INVA}
use Rattle.aes_kernels.specs.Nibbles.{looked_up}
use Rattle.aes_kernels.proofs.nibbles.inverse.Goals as goal

pub returns : goal.returns
returns c =
    let x : List ℕ = c.args.x in
    let upper = λ (b : ℕ). b / 16 in
    let lower = λ (b : ℕ). bit_and b 15 in
    let both = λ (b : ℕ). bit_xor (b / 16) (bit_and b 15) in
    let over = λ (b : ℕ). looked_up INVA (bit_and b 15) in
    let a = λ (b : ℕ). bit_xor (looked_up INV (b / 16)) (looked_up INVA (bit_and b 15)) in
    let d = λ (b : ℕ). bit_xor (looked_up INV (bit_xor (b / 16) (bit_and b 15))) (looked_up INVA (bit_and b 15)) in
    let e-both = sum-maps upper lower x _ _ c.high-upper.ensures c.low-lower.ensures in
    let e-over = looked-map INVA lower x _ _ c.look_up-over.ensures c.low-lower.ensures in
    let e-a = sum-maps (λ b. looked_up INV (upper b)) over x _ _ (looked-map INV upper x _ _ c.look_up.ensures c.high-upper.ensures) e-over in
    let e-d = sum-maps (λ b. looked_up INV (both b)) over x _ _ (looked-map INV both x _ _ c.look_up-2.ensures e-both) e-over in
    ap₂ (λ (p q : List ℕ). p ∷ q ∷ [])
    (sum-maps (λ b. looked_up INV (a b)) both x _ _ (looked-map INV a x _ _ c.look_up-3.ensures e-a) e-both)
    (sum-maps (λ b. looked_up INV (d b)) upper x _ _ (looked-map INV d x _ _ c.look_up-4.ensures e-d) c.high-upper.ensures)
