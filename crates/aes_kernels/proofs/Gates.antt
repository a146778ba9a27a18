-- Circuits as data, run on vectors and on bits.
use Rattle.std.proofs.Common.{◌≡◌, ℕ, zero, suc, ◌/◌, ◌%◌, ◌^◌, ◌<◌, List, [], ◌∷◌, length, replicate, get_or, bit_and, bit_xor, refl, ap, ap₂, sym, ◌∙◌, arith}
use Rattle.std.specs.List.{AllByRecursion}
use Rattle.std.proofs.lemmas.Simd.{get_or-replicate}
use Rattle.std.proofs.lemmas.Nat.{xor_mod, xor_shr, and_shr, and_mod, shr_le}
use Rattle.aes_kernels.specs.Circuit.{bit_of, bits_at, both, sum}

-- a gate, of two wires counted back from the newest
pub data Gate : Type 0 where
  Xor : ℕ → ℕ → Gate
  And : ℕ → ℕ → Gate

-- a wire, or zeros if there is none
abbrev pub wire : List (List ℕ) → ℕ → List ℕ
wire env i = get_or env i (replicate 16 0)

abbrev pub gate_vector : Gate → List (List ℕ) → List ℕ
gate_vector (Xor i j) env = sum (wire env i) (wire env j)
gate_vector (And i j) env = both (wire env i) (wire env j)

abbrev pub gate_bit : Gate → List ℕ → ℕ
gate_bit (Xor i j) env = bit_xor (get_or env i 0) (get_or env j 0)
gate_bit (And i j) env = bit_and (get_or env i 0) (get_or env j 0)

-- ws are the wires of the gates, in order
abbrev pub Wired : List Gate → List (List ℕ) → List (List ℕ) → Type 0
Wired [] env ws = Unit {0}
Wired (g ∷ gs) env [] = ⊥
Wired (g ∷ gs) env (w ∷ ws) = (w ≡ gate_vector g env) × Wired gs (w ∷ env) ws

-- all wires, the newest first
abbrev pub all_wires : List (List ℕ) → List (List ℕ) → List (List ℕ)
all_wires env [] = env
all_wires env (w ∷ ws) = all_wires (w ∷ env) ws

abbrev pub run : List Gate → List ℕ → List ℕ
run [] env = env
run (g ∷ gs) env = run gs (gate_bit g env ∷ env)

abbrev pub AreVectors : List (List ℕ) → Type 0
AreVectors env = AllByRecursion (λ v. length v ≡ 16) env

length-wire : (env : List (List ℕ)) (i : ℕ) → AreVectors env → length (wire env i) ≡ 16
length-wire [] i h = refl
length-wire (v ∷ env) zero h = h.0
length-wire (v ∷ env) (suc i) h = length-wire env i h.1

length-sum : (a b : List ℕ) → length a ≡ length b → length (sum a b) ≡ length a
length-sum [] b h = refl
length-sum (x ∷ a) [] h = absurd (omega (arith, h))
length-sum (x ∷ a) (y ∷ b) h = ap suc (length-sum a b (omega (arith, h)))

length-both : (a b : List ℕ) → length a ≡ length b → length (both a b) ≡ length a
length-both [] b h = refl
length-both (x ∷ a) [] h = absurd (omega (arith, h))
length-both (x ∷ a) (y ∷ b) h = ap suc (length-both a b (omega (arith, h)))

length-gate : (g : Gate) (env : List (List ℕ)) → AreVectors env → length (gate_vector g env) ≡ 16
length-gate (Xor i j) env h = length-sum (wire env i) (wire env j) (length-wire env i h ∙ sym (length-wire env j h)) ∙ length-wire env i h
length-gate (And i j) env h = length-both (wire env i) (wire env j) (length-wire env i h ∙ sym (length-wire env j h)) ∙ length-wire env i h

at-sum : (a b : List ℕ) (k : ℕ) → k < length a → k < length b → get_or (sum a b) k 0 ≡ bit_xor (get_or a k 0) (get_or b k 0)
at-sum [] b k h j = absurd (omega (arith, h))
at-sum (x ∷ a) [] k h j = absurd (omega (arith, j))
at-sum (x ∷ a) (y ∷ b) zero h j = refl
at-sum (x ∷ a) (y ∷ b) (suc k) h j = at-sum a b k (omega (arith, h)) (omega (arith, j))

at-both : (a b : List ℕ) (k : ℕ) → k < length a → k < length b → get_or (both a b) k 0 ≡ bit_and (get_or a k 0) (get_or b k 0)
at-both [] b k h j = absurd (omega (arith, h))
at-both (x ∷ a) [] k h j = absurd (omega (arith, j))
at-both (x ∷ a) (y ∷ b) zero h j = refl
at-both (x ∷ a) (y ∷ b) (suc k) h j = at-both a b k (omega (arith, h)) (omega (arith, j))

zero-bit : (bit : ℕ) → 0 / 2 ^ bit % 2 ≡ 0
zero-bit zero = refl
zero-bit (suc bit) = omega (arith, shr_le 0 (suc bit))

module _ (lane bit : ℕ) (within : lane < 16) where
  bit-wire : (env : List (List ℕ)) (i : ℕ) → bit_of lane bit (wire env i) ≡ get_or (bits_at lane bit env) i 0
  bit-wire [] i = ap (λ (n : ℕ). n / 2 ^ bit % 2) (get_or-replicate 16 lane 0 0 within) ∙ zero-bit bit
  bit-wire (v ∷ env) zero = refl
  bit-wire (v ∷ env) (suc i) = bit-wire env i

  bit-gate : (g : Gate) (env : List (List ℕ)) → AreVectors env → bit_of lane bit (gate_vector g env) ≡ gate_bit g (bits_at lane bit env)
  bit-gate (Xor i j) env h =
      ap (λ (n : ℕ). n / 2 ^ bit % 2) (at-sum (wire env i) (wire env j) lane (omega (arith, within, length-wire env i h)) (omega (arith, within, length-wire env j h)))
      ∙ ap (λ (n : ℕ). n % 2) (xor_shr (get_or (wire env i) lane 0) (get_or (wire env j) lane 0) bit)
      ∙ xor_mod (get_or (wire env i) lane 0 / 2 ^ bit) (get_or (wire env j) lane 0 / 2 ^ bit) 1
      ∙ ap₂ bit_xor (bit-wire env i) (bit-wire env j)
  bit-gate (And i j) env h =
      ap (λ (n : ℕ). n / 2 ^ bit % 2) (at-both (wire env i) (wire env j) lane (omega (arith, within, length-wire env i h)) (omega (arith, within, length-wire env j h)))
      ∙ ap (λ (n : ℕ). n % 2) (and_shr (get_or (wire env i) lane 0) (get_or (wire env j) lane 0) bit)
      ∙ and_mod (get_or (wire env i) lane 0 / 2 ^ bit) (get_or (wire env j) lane 0 / 2 ^ bit) 1
      ∙ ap₂ bit_and (bit-wire env i) (bit-wire env j)

  -- the bits of all wires are those of the circuit run on bits
  pub bits-of_wires : (gs : List Gate) (env ws : List (List ℕ)) → AreVectors env → length ws ≡ length gs → Wired gs env ws → bits_at lane bit (all_wires env ws) ≡ run gs (bits_at lane bit env)
  bits-of_wires [] env [] h l c = refl
  bits-of_wires [] env (w ∷ ws) h l c = absurd (omega (arith, l))
  bits-of_wires (g ∷ gs) env [] h l c = absurd c
  bits-of_wires (g ∷ gs) env (w ∷ ws) h l c =
      bits-of_wires gs (w ∷ env) ws (ap length c.0 ∙ length-gate g env h, h) (omega (arith, l)) c.1
      ∙ ap (λ (b : ℕ). run gs (b ∷ bits_at lane bit env)) (ap (bit_of lane bit) c.0 ∙ bit-gate g env h)

  pub bit-sum : (a b : List ℕ) → length a ≡ 16 → length b ≡ 16 → bit_of lane bit (sum a b) ≡ bit_xor (bit_of lane bit a) (bit_of lane bit b)
  bit-sum a b la lb =
      ap (λ (n : ℕ). n / 2 ^ bit % 2) (at-sum a b lane (omega (arith, within, la)) (omega (arith, within, lb)))
      ∙ ap (λ (n : ℕ). n % 2) (xor_shr (get_or a lane 0) (get_or b lane 0) bit)
      ∙ xor_mod (get_or a lane 0 / 2 ^ bit) (get_or b lane 0 / 2 ^ bit) 1
