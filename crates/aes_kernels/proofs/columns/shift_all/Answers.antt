use Rattle.std.proofs.Common.{◌≡◌, ℕ, List, [], get_or, ap, sym, ◌∙◌}
use Rattle.aes_kernels.specs.Circuit.{bit_of, byte_at, picked, shifted_places, source0}
use Rattle.aes_kernels.proofs.Elements.{eight}
use Rattle.aes_kernels.proofs.SBox.{eight-is}
use Rattle.aes_kernels.proofs.Mixing.{bit-picked}
use Rattle.aes_kernels.proofs.columns.shift_all.Goals as goal

pub returns-clause-bytes : goal.returns-clause-bytes
returns-clause-bytes c = λ lane bit within small.
    let at = λ (v y : List ℕ) (e : y ≡ picked v shifted_places). ap (bit_of lane bit) e ∙ bit-picked lane bit v shifted_places within in
    eight (at (get_or c.args.x 0 []) _ c.shifted.ensures) (at (get_or c.args.x 1 []) _ c.shifted-2.ensures) (at (get_or c.args.x 2 []) _ c.shifted-3.ensures) (at (get_or c.args.x 3 []) _ c.shifted-4.ensures) (at (get_or c.args.x 4 []) _ c.shifted-5.ensures) (at (get_or c.args.x 5 []) _ c.shifted-6.ensures) (at (get_or c.args.x 6 []) _ c.shifted-7.ensures) (at (get_or c.args.x 7 []) _ c.shifted-8.ensures)
    ∙ ap (λ (l : List (List ℕ)). byte_at l (source0 lane) bit) (sym (eight-is c.args.x c.requires.0))
