use Rattle.std.proofs.Common.{◌≡◌, ℕ, List, [], ◌∷◌, get_or, refl, lit<}
use Rattle.aes_kernels.specs.Circuit.{state_at}
use Rattle.aes_kernels.proofs.Turning.{below8, turned-in}
use Rattle.aes_kernels.proofs.blocks.planes_of.Goals as goal

pub returns-clause-blocks : goal.returns-clause-blocks
returns-clause-blocks c =
    let x : List (List ℕ) = c.rows_of.result ∷ c.rows_of-2.result ∷ c.rows_of-3.result ∷ c.rows_of-4.result ∷ c.rows_of-5.result ∷ c.rows_of-6.result ∷ c.rows_of-7.result ∷ c.rows_of-8.result ∷ [] in
    let y : List (List ℕ) = c.transposed.result in
    let blocks : List (List ℕ) = c.args.blocks.now in
    below8 (λ bit. state_at c.transposed.result bit ≡ get_or c.args.blocks.now bit [])
    (turned-in x y 0 (get_or blocks 0 []) c.rows_of.result refl c.transposed.ensures.planes.0 (lit< tt) c.transposed.ensures.bits refl c.rows_of.ensures.lanes c.rows_of.ensures.bytes c.rows_of.ensures.size)
    (turned-in x y 1 (get_or blocks 1 []) c.rows_of-2.result refl c.transposed.ensures.planes.0 (lit< tt) c.transposed.ensures.bits refl c.rows_of-2.ensures.lanes c.rows_of-2.ensures.bytes c.rows_of-2.ensures.size)
    (turned-in x y 2 (get_or blocks 2 []) c.rows_of-3.result refl c.transposed.ensures.planes.0 (lit< tt) c.transposed.ensures.bits refl c.rows_of-3.ensures.lanes c.rows_of-3.ensures.bytes c.rows_of-3.ensures.size)
    (turned-in x y 3 (get_or blocks 3 []) c.rows_of-4.result refl c.transposed.ensures.planes.0 (lit< tt) c.transposed.ensures.bits refl c.rows_of-4.ensures.lanes c.rows_of-4.ensures.bytes c.rows_of-4.ensures.size)
    (turned-in x y 4 (get_or blocks 4 []) c.rows_of-5.result refl c.transposed.ensures.planes.0 (lit< tt) c.transposed.ensures.bits refl c.rows_of-5.ensures.lanes c.rows_of-5.ensures.bytes c.rows_of-5.ensures.size)
    (turned-in x y 5 (get_or blocks 5 []) c.rows_of-6.result refl c.transposed.ensures.planes.0 (lit< tt) c.transposed.ensures.bits refl c.rows_of-6.ensures.lanes c.rows_of-6.ensures.bytes c.rows_of-6.ensures.size)
    (turned-in x y 6 (get_or blocks 6 []) c.rows_of-7.result refl c.transposed.ensures.planes.0 (lit< tt) c.transposed.ensures.bits refl c.rows_of-7.ensures.lanes c.rows_of-7.ensures.bytes c.rows_of-7.ensures.size)
    (turned-in x y 7 (get_or blocks 7 []) c.rows_of-8.result refl c.transposed.ensures.planes.0 (lit< tt) c.transposed.ensures.bits refl c.rows_of-8.ensures.lanes c.rows_of-8.ensures.bytes c.rows_of-8.ensures.size)
