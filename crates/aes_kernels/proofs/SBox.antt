-- The circuit of the S-box, on bits.
use Rattle.std.proofs.Common.{◌≡◌, ℕ, ◌/◌, ◌%◌, ◌<◌, List, [], ◌∷◌, length, map, get_or, bit_xor, refl, sym, ap, subst, ◌∙◌, arith}
use Rattle.std.proofs.lemmas.List.FromFn.{fill_by_all}
use Rattle.aes_block.proofs.TableLemmas.{forward, forward-is, same_below}
use Rattle.aes_kernels.specs.Circuit.{bit_of, bits_at, bits_of, byte_at, number, substituted_at}
use Rattle.aes_kernels.proofs.Gates.{And, AreVectors, Gate, Wired, Xor, all_wires, bits-of_wires, run}

abbrev pub s_box_gates : List Gate
s_box_gates =
    Xor 4 2 ∷ Xor 8 2 ∷ Xor 9 6 ∷ Xor 10 5 ∷ Xor 10 9 ∷ Xor 0 5 ∷ Xor 0 10 ∷ Xor 5 6
    ∷ Xor 2 15 ∷ Xor 3 10 ∷ Xor 0 6 ∷ Xor 14 3 ∷ Xor 0 14 ∷ Xor 1 19 ∷ Xor 1 14 ∷ Xor 2 10
    ∷ Xor 2 13 ∷ Xor 17 0 ∷ Xor 2 1 ∷ Xor 3 15 ∷ Xor 15 3 ∷ Xor 19 0 ∷ Xor 29 1 ∷ And 15 10
    ∷ And 13 9 ∷ Xor 0 1 ∷ And 19 26 ∷ Xor 0 3 ∷ And 26 7 ∷ And 19 23 ∷ Xor 0 1 ∷ And 22 13
    ∷ Xor 0 3 ∷ And 30 16 ∷ And 33 15 ∷ Xor 0 1 ∷ And 32 20 ∷ Xor 0 3 ∷ Xor 12 2 ∷ Xor 11 1
    ∷ Xor 9 4 ∷ Xor 8 3 ∷ Xor 3 28 ∷ Xor 3 23 ∷ Xor 3 22 ∷ Xor 3 22 ∷ Xor 3 2 ∷ And 4 2
    ∷ Xor 2 0 ∷ And 2 0 ∷ Xor 0 6 ∷ Xor 6 5 ∷ Xor 8 4 ∷ And 0 1 ∷ Xor 0 8 ∷ Xor 10 0
    ∷ Xor 7 1 ∷ And 11 0 ∷ Xor 0 2 ∷ Xor 10 1 ∷ And 9 0 ∷ Xor 14 0 ∷ Xor 0 3 ∷ Xor 12 8
    ∷ Xor 13 2 ∷ Xor 10 6 ∷ Xor 2 3 ∷ And 1 54 ∷ And 9 53 ∷ And 14 69 ∷ And 5 49 ∷ And 9 65
    ∷ And 21 54 ∷ And 9 56 ∷ And 7 55 ∷ And 12 59 ∷ And 10 68 ∷ And 18 66 ∷ And 23 71 ∷ And 14 77
    ∷ And 18 70 ∷ And 30 72 ∷ And 18 79 ∷ And 16 82 ∷ And 21 80 ∷ Xor 2 1 ∷ Xor 8 7 ∷ Xor 14 6
    ∷ Xor 11 10 ∷ Xor 19 9 ∷ Xor 20 17 ∷ Xor 16 15 ∷ Xor 24 21 ∷ Xor 19 18 ∷ Xor 10 9 ∷ Xor 15 7
    ∷ Xor 6 3 ∷ Xor 25 11 ∷ Xor 27 4 ∷ Xor 13 2 ∷ Xor 18 3 ∷ Xor 9 3 ∷ Xor 13 4 ∷ Xor 31 4
    ∷ Xor 3 2 ∷ Xor 36 2 ∷ Xor 7 3 ∷ Xor 11 5 ∷ Xor 20 8 ∷ Xor 5 4 ∷ Xor 17 4 ∷ Xor 20 5
    ∷ Xor 25 7 ∷ Xor 9 2 ∷ Xor 19 4 ∷ []

-- the places of its results, the lowest bit first
abbrev pub results : List ℕ
results = 6 ∷ 7 ∷ 2 ∷ 3 ∷ 4 ∷ 0 ∷ 1 ∷ 8 ∷ []

abbrev pub result_of : List ℕ → ℕ
result_of env = number (map (λ o. get_or env o 0) results)

circuit-is : (b : ℕ) → b < 256 → result_of (run s_box_gates (bits_of b)) ≡ substituted_at b
circuit-is b h =
    same_below (λ x. result_of (run s_box_gates (bits_of x))) (λ x. bit_xor (forward x) 0x63) 256 refl b h
    ∙ ap (λ (s : ℕ). bit_xor s 0x63) (forward-is b h)

bits_of-number : (a b c d e f g h : ℕ) → a < 2 → b < 2 → c < 2 → d < 2 → e < 2 → f < 2 → g < 2 → h < 2
    → (number (a ∷ b ∷ c ∷ d ∷ e ∷ f ∷ g ∷ h ∷ []) < 256) × (a ∷ b ∷ c ∷ d ∷ e ∷ f ∷ g ∷ h ∷ [] ≡ bits_of (number (a ∷ b ∷ c ∷ d ∷ e ∷ f ∷ g ∷ h ∷ [])))
bits_of-number a b c d e f g h ha hb hc hd he hf hg hh =
    let n : ℕ = number (a ∷ b ∷ c ∷ d ∷ e ∷ f ∷ g ∷ h ∷ []) in
    let ea : a ≡ n / 1 % 2 = omega arith in
    let eb : b ≡ n / 2 % 2 = omega arith in
    let ec : c ≡ n / 4 % 2 = omega arith in
    let ed : d ≡ n / 8 % 2 = omega arith in
    let ee : e ≡ n / 16 % 2 = omega arith in
    let ef : f ≡ n / 32 % 2 = omega arith in
    let eg : g ≡ n / 64 % 2 = omega arith in
    let eh : h ≡ n / 128 % 2 = omega arith in
    (omega arith, cc)

pub eight-is : (x : List (List ℕ)) → length x ≡ 8 → x ≡ get_or x 0 [] ∷ get_or x 1 [] ∷ get_or x 2 [] ∷ get_or x 3 [] ∷ get_or x 4 [] ∷ get_or x 5 [] ∷ get_or x 6 [] ∷ get_or x 7 [] ∷ []
eight-is x long = fill_by_all (λ (k : ℕ). get_or x k []) x 8 [] long (λ k h. refl)

-- the byte of eight planes, and its bits
pub byte-is : (lane bit : ℕ) (planes : List (List ℕ)) → length planes ≡ 8 → (byte_at planes lane bit < 256) × (bits_at lane bit planes ≡ bits_of (byte_at planes lane bit))
byte-is lane bit planes long =
    let low : (i : ℕ) → bit_of lane bit (get_or planes i []) < 2 = λ i. omega arith in
    subst (λ (x : List (List ℕ)). (byte_at x lane bit < 256) × (bits_at lane bit x ≡ bits_of (byte_at x lane bit))) (sym (eight-is planes long))
    (bits_of-number _ _ _ _ _ _ _ _ (low 0) (low 1) (low 2) (low 3) (low 4) (low 5) (low 6) (low 7))

pub s_box-at : (lane bit : ℕ) (p0 p1 p2 p3 p4 p5 p6 p7 : List ℕ) (ws : List (List ℕ)) → lane < 16 → AreVectors (p0 ∷ p1 ∷ p2 ∷ p3 ∷ p4 ∷ p5 ∷ p6 ∷ p7 ∷ []) → length ws ≡ 115
    → Wired s_box_gates (p0 ∷ p1 ∷ p2 ∷ p3 ∷ p4 ∷ p5 ∷ p6 ∷ p7 ∷ []) ws
    → result_of (bits_at lane bit (all_wires (p0 ∷ p1 ∷ p2 ∷ p3 ∷ p4 ∷ p5 ∷ p6 ∷ p7 ∷ []) ws)) ≡ substituted_at (byte_at (p0 ∷ p1 ∷ p2 ∷ p3 ∷ p4 ∷ p5 ∷ p6 ∷ p7 ∷ []) lane bit)
s_box-at lane bit p0 p1 p2 p3 p4 p5 p6 p7 ws within are long wired =
    let low : (v : List ℕ) → bit_of lane bit v < 2 = λ v. omega arith in
    let n = bits_of-number _ _ _ _ _ _ _ _ (low p0) (low p1) (low p2) (low p3) (low p4) (low p5) (low p6) (low p7) in
    ap result_of (bits-of_wires lane bit within s_box_gates (p0 ∷ p1 ∷ p2 ∷ p3 ∷ p4 ∷ p5 ∷ p6 ∷ p7 ∷ []) ws are long wired)
    ∙ ap (λ (l : List ℕ). result_of (run s_box_gates l)) n.1
    ∙ circuit-is (byte_at (p0 ∷ p1 ∷ p2 ∷ p3 ∷ p4 ∷ p5 ∷ p6 ∷ p7 ∷ []) lane bit) n.0
