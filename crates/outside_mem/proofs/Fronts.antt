-- Bytes that are taken from the front.
use Rattle.std.proofs.Common.{◌≡◌, ℕ, ◌+◌, List, ◌++◌, take, drop, arith}
use Rattle.std.proofs.lemmas.Grind.{common_steps}
use Rattle.std.proofs.lemmas.List.{take-append-drop}

-- what was taken and what is left then are what was left before
pub front_moved : (xs ys : List ℕ) (place n : ℕ) → ys ≡ take n (drop place xs) → drop place xs ≡ ys ++ drop (place + n) xs
front_moved xs ys place n h = grind (arith, common_steps, take-append-drop n (drop place xs))
