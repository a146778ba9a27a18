-- A block and the number that it spells, as the standard library's integers read and write them.
use Rattle.std.proofs.Common.{◌≡◌, ℕ, ◌/◌, List, [], ◌∷◌, length, refl, arith}
use Rattle.std.specs.Int.{w128, to_be_bytes, from_be_bytes}
use Rattle.aes_block.specs.Bytes.{number_of, bytes_of}

-- std reads 16 bytes as the number that they spell
pub from_be_bytes_block : (bs : List ℕ) → length bs ≡ 16 → from_be_bytes w128 bs ≡ number_of bs
from_be_bytes_block (a ∷ b ∷ c ∷ d ∷ e ∷ f ∷ g ∷ h ∷ i ∷ j ∷ k ∷ l ∷ m ∷ n ∷ o ∷ p ∷ []) long = omega arith
from_be_bytes_block _ long = absurd (omega arith)

-- std writes a number as its lowest 16 bytes
pub to_be_bytes_block : (n : ℕ) → to_be_bytes w128 n ≡ bytes_of 16 n
to_be_bytes_block n =
    let whole : n / 1 ≡ n = omega arith in
    rw whole refl
