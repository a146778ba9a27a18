-- Bytes in planes by their turn.
use Rattle.std.proofs.Common.{◌≡◌, ℕ, zero, suc, ◌<◌, List, [], ◌∷◌, length, map, get_or, refl, ap, sym, subst, ◌∙◌, arith, lit<}
use Rattle.aes_block.specs.Bytes.{AreBytes}
use Rattle.aes_block.proofs.ByteLemmas.{get_or-byte}
use Rattle.aes_kernels.proofs.Rounds.{sixteen-is}
use Rattle.aes_kernels.specs.Circuit.{bits_at, byte_at, lane_bits, number, picked, row_places, state_at, transposed_at}
use Rattle.aes_kernels.proofs.Elements.{cons-is}
use Rattle.aes_kernels.proofs.SBox.{eight-is}
use Rattle.aes_kernels.proofs.Mixing.{number-bits_of}

pub below8 : (P : ℕ → Type 0) → P 0 → P 1 → P 2 → P 3 → P 4 → P 5 → P 6 → P 7 → (k : ℕ) → k < 8 → P k
below8 P a b c d e f g h zero l = a
below8 P a b c d e f g h (suc zero) l = b
below8 P a b c d e f g h (suc (suc zero)) l = c
below8 P a b c d e f g h (suc (suc (suc zero))) l = d
below8 P a b c d e f g h (suc (suc (suc (suc zero)))) l = e
below8 P a b c d e f g h (suc (suc (suc (suc (suc zero))))) l = f
below8 P a b c d e f g h (suc (suc (suc (suc (suc (suc zero)))))) l = g
below8 P a b c d e f g h (suc (suc (suc (suc (suc (suc (suc zero))))))) l = h
below8 P a b c d e f g h (suc (suc (suc (suc (suc (suc (suc (suc k)))))))) l = absurd (omega (arith, l))

-- the bits at a place, read from the bits of the lanes
place_of : (lane : ℕ) (k : ℕ) (y : List (List ℕ)) → length y ≡ 8 → k < 8 → bits_at lane k y ≡ map (λ l. get_or l k 0) (map (lane_bits lane) y)
place_of lane k y long small =
    let e = eight-is y long in
    ap (bits_at lane k) e
    ∙ below8 (λ k. bits_at lane k (get_or y 0 [] ∷ get_or y 1 [] ∷ get_or y 2 [] ∷ get_or y 3 [] ∷ get_or y 4 [] ∷ get_or y 5 [] ∷ get_or y 6 [] ∷ get_or y 7 [] ∷ [])
    ≡ map (λ l. get_or l k 0) (map (lane_bits lane) (get_or y 0 [] ∷ get_or y 1 [] ∷ get_or y 2 [] ∷ get_or y 3 [] ∷ get_or y 4 [] ∷ get_or y 5 [] ∷ get_or y 6 [] ∷ get_or y 7 [] ∷ [])))
    refl refl refl refl refl refl refl refl k small
    ∙ ap (λ (l : List (List ℕ)). map (λ l. get_or l k 0) (map (lane_bits lane) l)) (sym e)

turn : (lane : ℕ) (k : ℕ) (x : List (List ℕ)) → length x ≡ 8 → k < 8 → map (λ l. get_or l k 0) (transposed_at lane x) ≡ lane_bits lane (get_or x k [])
turn lane k x long small =
    let e = eight-is x long in
    ap (λ (l : List (List ℕ)). map (λ l. get_or l k 0) (transposed_at lane l)) e
    ∙ below8 (λ k. map (λ l. get_or l k 0) (transposed_at lane (get_or x 0 [] ∷ get_or x 1 [] ∷ get_or x 2 [] ∷ get_or x 3 [] ∷ get_or x 4 [] ∷ get_or x 5 [] ∷ get_or x 6 [] ∷ get_or x 7 [] ∷ []))
    ≡ lane_bits lane (get_or x k []))
    refl refl refl refl refl refl refl refl k small

-- byte k of a lane goes to bit k of it
pub turned-byte : (x y : List (List ℕ)) (lane k : ℕ) → length x ≡ 8 → length y ≡ 8 → k < 8 → map (lane_bits lane) y ≡ transposed_at lane x → get_or (get_or x k []) lane 0 < 256
    → byte_at y lane k ≡ get_or (get_or x k []) lane 0
turned-byte x y lane k lx ly small t low =
    ap number (place_of lane k y ly small ∙ ap (map (λ l. get_or l k 0)) t ∙ turn lane k x lx small) ∙ number-bits_of (get_or (get_or x k []) lane 0) low

-- and back
pub turned-back : (x y : List (List ℕ)) (lane k : ℕ) → length x ≡ 8 → length y ≡ 8 → k < 8 → map (lane_bits lane) y ≡ transposed_at lane x → get_or (get_or y k []) lane 0 < 256
    → get_or (get_or y k []) lane 0 ≡ byte_at x lane k
turned-back x y lane k lx ly small t low =
    sym (number-bits_of (get_or (get_or y k []) lane 0) low)
    ∙ ap number (rows k small)
  where
    at : (k : ℕ) → get_or (map (lane_bits lane) y) k [] ≡ get_or (transposed_at lane x) k []
    at k = ap (λ (l : List (List ℕ)). get_or l k []) t

    here : (k : ℕ) → k < 8 → lane_bits lane (get_or y k []) ≡ get_or (map (lane_bits lane) y) k []
    here k small =
        let e = eight-is y ly in
        below8 (λ k. lane_bits lane (get_or y k []) ≡ get_or (map (lane_bits lane) (get_or y 0 [] ∷ get_or y 1 [] ∷ get_or y 2 [] ∷ get_or y 3 [] ∷ get_or y 4 [] ∷ get_or y 5 [] ∷ get_or y 6 [] ∷ get_or y 7 [] ∷ [])) k [])
        refl refl refl refl refl refl refl refl k small
        ∙ ap (λ (l : List (List ℕ)). get_or (map (lane_bits lane) l) k []) (sym e)

    rows : (k : ℕ) → k < 8 → lane_bits lane (get_or y k []) ≡ bits_at lane k x
    rows k small = here k small ∙ at k ∙ below8 (λ k. get_or (transposed_at lane x) k [] ≡ bits_at lane k x) refl refl refl refl refl refl refl refl k small

-- the bytes of a block that lies row by row in a vector, in the planes
pub turned-in : (x y : List (List ℕ)) (bit : ℕ) (block v : List ℕ) → length x ≡ 8 → length y ≡ 8 → bit < 8 → ((lane : ℕ) → lane < 16 → map (lane_bits lane) y ≡ transposed_at lane x)
    → get_or x bit [] ≡ v → v ≡ picked block row_places → AreBytes v → length block ≡ 16 → state_at y bit ≡ block
turned-in x y bit block v lx ly small bits ev e are size =
    let at = λ (lane : ℕ) (h : lane < 16). turned-byte x y lane bit lx ly small (bits lane h) (subst (λ (w : List ℕ). get_or w lane 0 < 256) (sym ev) (get_or-byte v lane are)) ∙ ap (λ (w : List ℕ). get_or w lane 0) (ev ∙ e) in
    cons-is (at 0 (lit< tt)) (cons-is (at 4 (lit< tt)) (cons-is (at 8 (lit< tt)) (cons-is (at 12 (lit< tt)) (cons-is (at 1 (lit< tt)) (cons-is (at 5 (lit< tt)) (cons-is (at 9 (lit< tt)) (cons-is (at 13 (lit< tt)) (cons-is (at 2 (lit< tt)) (cons-is (at 6 (lit< tt)) (cons-is (at 10 (lit< tt)) (cons-is (at 14 (lit< tt)) (cons-is (at 3 (lit< tt)) (cons-is (at 7 (lit< tt)) (cons-is (at 11 (lit< tt)) (cons-is (at 15 (lit< tt)) (refl))))))))))))))))
    ∙ sym (sixteen-is block size)

-- and back: a vector has the bytes of the planes, row by row
pub turned-out : (x y : List (List ℕ)) (bit : ℕ) (v : List ℕ) → length x ≡ 8 → length y ≡ 8 → bit < 8 → ((lane : ℕ) → lane < 16 → map (lane_bits lane) y ≡ transposed_at lane x)
    → get_or y bit [] ≡ v → AreBytes v → picked v row_places ≡ state_at x bit
turned-out x y bit v lx ly small bits ev are =
    let at = λ (lane : ℕ) (h : lane < 16). ap (λ (w : List ℕ). get_or w lane 0) (sym ev) ∙ turned-back x y lane bit lx ly small (bits lane h) (subst (λ (w : List ℕ). get_or w lane 0 < 256) (sym ev) (get_or-byte v lane are)) in
    cons-is (at 0 (lit< tt)) (cons-is (at 4 (lit< tt)) (cons-is (at 8 (lit< tt)) (cons-is (at 12 (lit< tt)) (cons-is (at 1 (lit< tt)) (cons-is (at 5 (lit< tt)) (cons-is (at 9 (lit< tt)) (cons-is (at 13 (lit< tt)) (cons-is (at 2 (lit< tt)) (cons-is (at 6 (lit< tt)) (cons-is (at 10 (lit< tt)) (cons-is (at 14 (lit< tt)) (cons-is (at 3 (lit< tt)) (cons-is (at 7 (lit< tt)) (cons-is (at 11 (lit< tt)) (cons-is (at 15 (lit< tt)) (refl))))))))))))))))
