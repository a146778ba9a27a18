-- AddRoundKey on bits.
use Rattle.std.proofs.Common.{◌≡◌, ℕ, ◌<◌, List, [], ◌∷◌, bit_xor, refl, ap, ap₂, sym, ◌∙◌}
use Rattle.aes_block.proofs.ByteLemmas.{xor-lt}
use Rattle.aes_kernels.specs.Circuit.{ArePlanes, bits_at, byte_at, number, sum}
use Rattle.aes_kernels.proofs.Elements.{cons-is}
use Rattle.aes_kernels.proofs.Gates.{AreVectors, bit-sum}
use Rattle.aes_kernels.proofs.SBox.{byte-is}
use Rattle.aes_kernels.proofs.Mixing.{bits-sum, number-bits_of}

-- plane by plane
abbrev pub sums : List (List ℕ) → List (List ℕ) → List (List ℕ)
sums [] ks = []
sums (x ∷ xs) [] = []
sums (x ∷ xs) (k ∷ ks) = sum x k ∷ sums xs ks

bits_at-sums : (lane bit : ℕ) → lane < 16 → (xs ks : List (List ℕ)) → AreVectors xs → AreVectors ks → bits_at lane bit (sums xs ks) ≡ sum (bits_at lane bit xs) (bits_at lane bit ks)
bits_at-sums lane bit within [] ks ax ak = refl
bits_at-sums lane bit within (x ∷ xs) [] ax ak = refl
bits_at-sums lane bit within (x ∷ xs) (k ∷ ks) ax ak = cons-is (bit-sum lane bit within x k ax.0 ak.0) (bits_at-sums lane bit within xs ks ax.1 ak.1)

pub keyed-at : (lane bit : ℕ) (x k : List (List ℕ)) → lane < 16 → ArePlanes x → ArePlanes k → byte_at (sums x k) lane bit ≡ bit_xor (byte_at x lane bit) (byte_at k lane bit)
keyed-at lane bit x k within ax ak =
    let a = byte-is lane bit x ax.0 in
    let b = byte-is lane bit k ak.0 in
    ap number (bits_at-sums lane bit within x k ax.1 ak.1 ∙ ap₂ sum a.1 b.1 ∙ sym (bits-sum _ _)) ∙ number-bits_of _ (xor-lt _ _ a.0 b.0)
