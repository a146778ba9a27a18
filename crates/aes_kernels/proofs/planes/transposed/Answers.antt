use Rattle.std.proofs.Common.{ℕ, List, ap, ap₂, sym, ◌∙◌}
use Rattle.aes_kernels.specs.Circuit.{lower2, lower4, transposed_at, upper2, upper4}
use Rattle.aes_kernels.proofs.Elements.{eight-same}
use Rattle.aes_kernels.proofs.SBox.{eight-is}
use Rattle.aes_kernels.proofs.planes.transposed.Goals as goal

pub returns-clause-bits : goal.returns-clause-bits
returns-clause-bits c = λ lane within.
    let x : List (List ℕ) = c.args.x in
    let a0 = c.swap1.ensures.upper lane within in
    let a1 = c.swap1.ensures.lower lane within in
    let a2 = c.swap1-2.ensures.upper lane within in
    let a3 = c.swap1-2.ensures.lower lane within in
    let a4 = c.swap1-3.ensures.upper lane within in
    let a5 = c.swap1-3.ensures.lower lane within in
    let a6 = c.swap1-4.ensures.upper lane within in
    let a7 = c.swap1-4.ensures.lower lane within in
    let b0 = c.swap2.ensures.upper lane within ∙ ap₂ upper2 a0 a2 in
    let b2 = c.swap2.ensures.lower lane within ∙ ap₂ lower2 a0 a2 in
    let b1 = c.swap2-2.ensures.upper lane within ∙ ap₂ upper2 a1 a3 in
    let b3 = c.swap2-2.ensures.lower lane within ∙ ap₂ lower2 a1 a3 in
    let b4 = c.swap2-3.ensures.upper lane within ∙ ap₂ upper2 a4 a6 in
    let b6 = c.swap2-3.ensures.lower lane within ∙ ap₂ lower2 a4 a6 in
    let b5 = c.swap2-4.ensures.upper lane within ∙ ap₂ upper2 a5 a7 in
    let b7 = c.swap2-4.ensures.lower lane within ∙ ap₂ lower2 a5 a7 in
    let c0 = c.swap4.ensures.upper lane within ∙ ap₂ upper4 b0 b4 in
    let c4 = c.swap4.ensures.lower lane within ∙ ap₂ lower4 b0 b4 in
    let c1 = c.swap4-2.ensures.upper lane within ∙ ap₂ upper4 b1 b5 in
    let c5 = c.swap4-2.ensures.lower lane within ∙ ap₂ lower4 b1 b5 in
    let c2 = c.swap4-3.ensures.upper lane within ∙ ap₂ upper4 b2 b6 in
    let c6 = c.swap4-3.ensures.lower lane within ∙ ap₂ lower4 b2 b6 in
    let c3 = c.swap4-4.ensures.upper lane within ∙ ap₂ upper4 b3 b7 in
    let c7 = c.swap4-4.ensures.lower lane within ∙ ap₂ lower4 b3 b7 in
    eight-same c0 c1 c2 c3 c4 c5 c6 c7 ∙ ap (transposed_at lane) (sym (eight-is x c.requires.0))
