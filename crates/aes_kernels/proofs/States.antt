-- Rounds on planes are rounds on the blocks that they have.
use Rattle.std.proofs.Common.{◌≡◌, ℕ, ◌+◌, ◌-◌, ◌<◌, ◌≤◌, List, [], ◌∷◌, length, get_or, eqb, bit_xor, refl, ap, ap₂, sym, ◌∙◌, arith, lit<}
use Rattle.std.specs.Int.Bits.{xor_assoc, xor_comm, xor_zero_r}
use Rattle.std.proofs.lemmas.Bool.{cond-false, ne_eqb}
use Rattle.aes_block.specs.Bytes.{xor_bytes}
use Rattle.aes_block.specs.Field.{product, substituted, times_x}
use Rattle.aes_block.specs.Aes.{aes, key_schedule, mix_columns, round_key, shift_rows, state_after, sub_bytes}
use Rattle.aes_block.proofs.ByteLemmas.{substituted-lt, times_x-xor, xor_swap}
use Rattle.aes_block.proofs.FieldLemmas.{product-one, product-two, product-three}
use Rattle.aes_block.proofs.StateLemmas.{aes-is, state_after-more}
use Rattle.aes_block.proofs.TableLemmas.{same_below}
use Rattle.aes_kernels.proofs.Rounds.{sixteen-is}
use Rattle.aes_kernels.proofs.Elements.{cons-is}
use Rattle.aes_kernels.proofs.Mixing.{place-lt}
use Rattle.aes_kernels.specs.Circuit.{AreKeyPlanes, HasBlocks, after, byte_at, flip, lane_of, mixed, row_places, source0, source1, source2, source3, substituted_at}

-- a byte of a round: the constants cancel
byte_round : (p q r t k : ℕ)
    → bit_xor (mixed (substituted_at p) (substituted_at q) (substituted_at r) (substituted_at t)) (bit_xor k 0x63)
    ≡ bit_xor (bit_xor (product 2 (substituted p)) (bit_xor (product 3 (substituted q)) (bit_xor (product 1 (substituted r)) (product 1 (substituted t))))) k
byte_round p q r t k =
    let a : ℕ = substituted p in
    let b : ℕ = substituted q in
    let c : ℕ = substituted r in
    let d : ℕ = substituted t in
    let ha = substituted-lt p in
    let hb = substituted-lt q in
    let hc = substituted-lt r in
    let hd = substituted-lt t in
    let pq : bit_xor (bit_xor a 0x63) (bit_xor b 0x63) ≡ bit_xor a b = xor_swap a 0x63 b 0x63 ∙ xor_zero_r (bit_xor a b) in
    let rt : bit_xor (bit_xor c 0x63) (bit_xor d 0x63) ≡ bit_xor c d = xor_swap c 0x63 d 0x63 ∙ xor_zero_r (bit_xor c d) in
    let double : times_x (bit_xor (bit_xor a 0x63) (bit_xor b 0x63)) ≡ bit_xor (times_x a) (times_x b) = ap times_x pq ∙ times_x-xor a b ha hb in
    let rest : bit_xor (bit_xor b 0x63) (bit_xor (bit_xor c 0x63) (bit_xor d 0x63)) ≡ bit_xor (bit_xor b (bit_xor c d)) 0x63 =
    ap (bit_xor (bit_xor b 0x63)) rt ∙ xor_assoc b 0x63 (bit_xor c d) ∙ ap (bit_xor b) (xor_comm 0x63 (bit_xor c d)) ∙ sym (xor_assoc b (bit_xor c d) 0x63) in
    let x : ℕ = bit_xor (times_x a) (times_x b) in
    let y : ℕ = bit_xor b (bit_xor c d) in
    let whole : bit_xor (bit_xor (bit_xor (times_x a) (times_x b)) (bit_xor (bit_xor b (bit_xor c d)) 0x63)) (bit_xor k 0x63) ≡ bit_xor (bit_xor (bit_xor (times_x a) (times_x b)) (bit_xor b (bit_xor c d))) k =
    ap (λ (n : ℕ). bit_xor n (bit_xor k 0x63)) (sym (xor_assoc (bit_xor (times_x a) (times_x b)) (bit_xor b (bit_xor c d)) 0x63))
    ∙ xor_swap (bit_xor (bit_xor (times_x a) (times_x b)) (bit_xor b (bit_xor c d))) 0x63 k 0x63 ∙ xor_zero_r _ in
    let order : bit_xor (bit_xor (times_x a) (times_x b)) (bit_xor b (bit_xor c d)) ≡ bit_xor (times_x a) (bit_xor (bit_xor (times_x b) b) (bit_xor c d)) =
    xor_assoc (times_x a) (times_x b) (bit_xor b (bit_xor c d)) ∙ ap (bit_xor (times_x a)) (sym (xor_assoc (times_x b) b (bit_xor c d))) in
    ap₂ (λ (m n : ℕ). bit_xor (bit_xor m n) (bit_xor k 0x63)) double rest
    ∙ whole
    ∙ ap (λ (n : ℕ). bit_xor n k) (order ∙ sym (ap₂ bit_xor (product-two a ha) (ap₂ bit_xor (product-three b hb) (ap₂ bit_xor (product-one c hc) (product-one d hd)))))

last_byte : (p k : ℕ) → bit_xor (substituted_at p) (bit_xor k 0x63) ≡ bit_xor (substituted p) k
last_byte p k = xor_swap (substituted p) 0x63 k 0x63 ∙ xor_zero_r (bit_xor (substituted p) k)

abbrev row : (ℕ → ℕ) → List ℕ
row f = f 0 ∷ f 1 ∷ f 2 ∷ f 3 ∷ f 4 ∷ f 5 ∷ f 6 ∷ f 7 ∷ f 8 ∷ f 9 ∷ f 10 ∷ f 11 ∷ f 12 ∷ f 13 ∷ f 14 ∷ f 15 ∷ []

round_row : (p z k : ℕ → ℕ) → z 0 ≡ bit_xor (mixed (substituted_at (p 0)) (substituted_at (p 5)) (substituted_at (p 10)) (substituted_at (p 15))) (bit_xor (k 0) 0x63) → z 1 ≡ bit_xor (mixed (substituted_at (p 5)) (substituted_at (p 10)) (substituted_at (p 15)) (substituted_at (p 0))) (bit_xor (k 1) 0x63) → z 2 ≡ bit_xor (mixed (substituted_at (p 10)) (substituted_at (p 15)) (substituted_at (p 0)) (substituted_at (p 5))) (bit_xor (k 2) 0x63) → z 3 ≡ bit_xor (mixed (substituted_at (p 15)) (substituted_at (p 0)) (substituted_at (p 5)) (substituted_at (p 10))) (bit_xor (k 3) 0x63) → z 4 ≡ bit_xor (mixed (substituted_at (p 4)) (substituted_at (p 9)) (substituted_at (p 14)) (substituted_at (p 3))) (bit_xor (k 4) 0x63) → z 5 ≡ bit_xor (mixed (substituted_at (p 9)) (substituted_at (p 14)) (substituted_at (p 3)) (substituted_at (p 4))) (bit_xor (k 5) 0x63) → z 6 ≡ bit_xor (mixed (substituted_at (p 14)) (substituted_at (p 3)) (substituted_at (p 4)) (substituted_at (p 9))) (bit_xor (k 6) 0x63) → z 7 ≡ bit_xor (mixed (substituted_at (p 3)) (substituted_at (p 4)) (substituted_at (p 9)) (substituted_at (p 14))) (bit_xor (k 7) 0x63) → z 8 ≡ bit_xor (mixed (substituted_at (p 8)) (substituted_at (p 13)) (substituted_at (p 2)) (substituted_at (p 7))) (bit_xor (k 8) 0x63) → z 9 ≡ bit_xor (mixed (substituted_at (p 13)) (substituted_at (p 2)) (substituted_at (p 7)) (substituted_at (p 8))) (bit_xor (k 9) 0x63) → z 10 ≡ bit_xor (mixed (substituted_at (p 2)) (substituted_at (p 7)) (substituted_at (p 8)) (substituted_at (p 13))) (bit_xor (k 10) 0x63) → z 11 ≡ bit_xor (mixed (substituted_at (p 7)) (substituted_at (p 8)) (substituted_at (p 13)) (substituted_at (p 2))) (bit_xor (k 11) 0x63) → z 12 ≡ bit_xor (mixed (substituted_at (p 12)) (substituted_at (p 1)) (substituted_at (p 6)) (substituted_at (p 11))) (bit_xor (k 12) 0x63) → z 13 ≡ bit_xor (mixed (substituted_at (p 1)) (substituted_at (p 6)) (substituted_at (p 11)) (substituted_at (p 12))) (bit_xor (k 13) 0x63) → z 14 ≡ bit_xor (mixed (substituted_at (p 6)) (substituted_at (p 11)) (substituted_at (p 12)) (substituted_at (p 1))) (bit_xor (k 14) 0x63) → z 15 ≡ bit_xor (mixed (substituted_at (p 11)) (substituted_at (p 12)) (substituted_at (p 1)) (substituted_at (p 6))) (bit_xor (k 15) 0x63)
    → row z ≡ xor_bytes (mix_columns (shift_rows (sub_bytes (row p)))) (row k)
unfolding mix_columns shift_rows sub_bytes
round_row p z k h0 h1 h2 h3 h4 h5 h6 h7 h8 h9 h10 h11 h12 h13 h14 h15 =
    cons-is (h0 ∙ byte_round (p 0) (p 5) (p 10) (p 15) (k 0)) (cons-is (h1 ∙ byte_round (p 5) (p 10) (p 15) (p 0) (k 1)) (cons-is (h2 ∙ byte_round (p 10) (p 15) (p 0) (p 5) (k 2)) (cons-is (h3 ∙ byte_round (p 15) (p 0) (p 5) (p 10) (k 3)) (cons-is (h4 ∙ byte_round (p 4) (p 9) (p 14) (p 3) (k 4)) (cons-is (h5 ∙ byte_round (p 9) (p 14) (p 3) (p 4) (k 5)) (cons-is (h6 ∙ byte_round (p 14) (p 3) (p 4) (p 9) (k 6)) (cons-is (h7 ∙ byte_round (p 3) (p 4) (p 9) (p 14) (k 7)) (cons-is (h8 ∙ byte_round (p 8) (p 13) (p 2) (p 7) (k 8)) (cons-is (h9 ∙ byte_round (p 13) (p 2) (p 7) (p 8) (k 9)) (cons-is (h10 ∙ byte_round (p 2) (p 7) (p 8) (p 13) (k 10)) (cons-is (h11 ∙ byte_round (p 7) (p 8) (p 13) (p 2) (k 11)) (cons-is (h12 ∙ byte_round (p 12) (p 1) (p 6) (p 11) (k 12)) (cons-is (h13 ∙ byte_round (p 1) (p 6) (p 11) (p 12) (k 13)) (cons-is (h14 ∙ byte_round (p 6) (p 11) (p 12) (p 1) (k 14)) (cons-is (h15 ∙ byte_round (p 11) (p 12) (p 1) (p 6) (k 15)) (refl))))))))))))))))

last_row : (p z k : ℕ → ℕ) → z 0 ≡ bit_xor (substituted_at (p 0)) (bit_xor (k 0) 0x63) → z 1 ≡ bit_xor (substituted_at (p 5)) (bit_xor (k 1) 0x63) → z 2 ≡ bit_xor (substituted_at (p 10)) (bit_xor (k 2) 0x63) → z 3 ≡ bit_xor (substituted_at (p 15)) (bit_xor (k 3) 0x63) → z 4 ≡ bit_xor (substituted_at (p 4)) (bit_xor (k 4) 0x63) → z 5 ≡ bit_xor (substituted_at (p 9)) (bit_xor (k 5) 0x63) → z 6 ≡ bit_xor (substituted_at (p 14)) (bit_xor (k 6) 0x63) → z 7 ≡ bit_xor (substituted_at (p 3)) (bit_xor (k 7) 0x63) → z 8 ≡ bit_xor (substituted_at (p 8)) (bit_xor (k 8) 0x63) → z 9 ≡ bit_xor (substituted_at (p 13)) (bit_xor (k 9) 0x63) → z 10 ≡ bit_xor (substituted_at (p 2)) (bit_xor (k 10) 0x63) → z 11 ≡ bit_xor (substituted_at (p 7)) (bit_xor (k 11) 0x63) → z 12 ≡ bit_xor (substituted_at (p 12)) (bit_xor (k 12) 0x63) → z 13 ≡ bit_xor (substituted_at (p 1)) (bit_xor (k 13) 0x63) → z 14 ≡ bit_xor (substituted_at (p 6)) (bit_xor (k 14) 0x63) → z 15 ≡ bit_xor (substituted_at (p 11)) (bit_xor (k 15) 0x63)
    → row z ≡ xor_bytes (shift_rows (sub_bytes (row p))) (row k)
unfolding shift_rows sub_bytes
last_row p z k h0 h1 h2 h3 h4 h5 h6 h7 h8 h9 h10 h11 h12 h13 h14 h15 =
    cons-is (h0 ∙ last_byte (p 0) (k 0)) (cons-is (h1 ∙ last_byte (p 5) (k 1)) (cons-is (h2 ∙ last_byte (p 10) (k 2)) (cons-is (h3 ∙ last_byte (p 15) (k 3)) (cons-is (h4 ∙ last_byte (p 4) (k 4)) (cons-is (h5 ∙ last_byte (p 9) (k 5)) (cons-is (h6 ∙ last_byte (p 14) (k 6)) (cons-is (h7 ∙ last_byte (p 3) (k 7)) (cons-is (h8 ∙ last_byte (p 8) (k 8)) (cons-is (h9 ∙ last_byte (p 13) (k 9)) (cons-is (h10 ∙ last_byte (p 2) (k 10)) (cons-is (h11 ∙ last_byte (p 7) (k 11)) (cons-is (h12 ∙ last_byte (p 12) (k 12)) (cons-is (h13 ∙ last_byte (p 1) (k 13)) (cons-is (h14 ∙ last_byte (p 6) (k 14)) (cons-is (h15 ∙ last_byte (p 11) (k 15)) (refl))))))))))))))))

first_row : (p z k : ℕ → ℕ) → ((l : ℕ) → l < 16 → z l ≡ bit_xor (p l) (bit_xor (k l) 0)) → row z ≡ xor_bytes (row p) (row k)
first_row p z k h =
    cons-is (h 0 (lit< tt) ∙ ap (bit_xor (p 0)) (xor_zero_r (k 0))) (cons-is (h 1 (lit< tt) ∙ ap (bit_xor (p 1)) (xor_zero_r (k 1))) (cons-is (h 2 (lit< tt) ∙ ap (bit_xor (p 2)) (xor_zero_r (k 2))) (cons-is (h 3 (lit< tt) ∙ ap (bit_xor (p 3)) (xor_zero_r (k 3))) (cons-is (h 4 (lit< tt) ∙ ap (bit_xor (p 4)) (xor_zero_r (k 4))) (cons-is (h 5 (lit< tt) ∙ ap (bit_xor (p 5)) (xor_zero_r (k 5))) (cons-is (h 6 (lit< tt) ∙ ap (bit_xor (p 6)) (xor_zero_r (k 6))) (cons-is (h 7 (lit< tt) ∙ ap (bit_xor (p 7)) (xor_zero_r (k 7))) (cons-is (h 8 (lit< tt) ∙ ap (bit_xor (p 8)) (xor_zero_r (k 8))) (cons-is (h 9 (lit< tt) ∙ ap (bit_xor (p 9)) (xor_zero_r (k 9))) (cons-is (h 10 (lit< tt) ∙ ap (bit_xor (p 10)) (xor_zero_r (k 10))) (cons-is (h 11 (lit< tt) ∙ ap (bit_xor (p 11)) (xor_zero_r (k 11))) (cons-is (h 12 (lit< tt) ∙ ap (bit_xor (p 12)) (xor_zero_r (k 12))) (cons-is (h 13 (lit< tt) ∙ ap (bit_xor (p 13)) (xor_zero_r (k 13))) (cons-is (h 14 (lit< tt) ∙ ap (bit_xor (p 14)) (xor_zero_r (k 14))) (cons-is (h 15 (lit< tt) ∙ ap (bit_xor (p 15)) (xor_zero_r (k 15))) (refl))))))))))))))))

flip-other : (r : ℕ) → (r ≡ 0 → ⊥) → flip r ≡ 0x63
flip-other r h = cond-false (eqb r 0) 0 0x63 (ne_eqb _ _ h)

-- what a round makes of the planes p under the planes of a round key
abbrev pub IsRound : List (List ℕ) → List (List ℕ) → List (List ℕ) → Type 0
IsRound p key z = (lane bit : ℕ) → lane < 16 → bit < 8 → byte_at z lane bit
    ≡ bit_xor (mixed (substituted_at (byte_at p (source0 lane) bit)) (substituted_at (byte_at p (source1 lane) bit))
    (substituted_at (byte_at p (source2 lane) bit)) (substituted_at (byte_at p (source3 lane) bit))) (byte_at key lane bit)

abbrev pub IsLastRound : List (List ℕ) → List (List ℕ) → List (List ℕ) → Type 0
IsLastRound p key z = (lane bit : ℕ) → lane < 16 → bit < 8 → byte_at z lane bit ≡ bit_xor (substituted_at (byte_at p (source0 lane) bit)) (byte_at key lane bit)

row_twice : (byte : ℕ) → byte < 16 → get_or row_places (lane_of byte) 0 ≡ byte
row_twice byte h = same_below (λ b. get_or row_places (lane_of b) 0) (λ b. b) 16 refl byte h

pub first-blocks : (p key z : List (List ℕ)) (k : List ℕ) (blocks : List (List ℕ)) → length (round_key (key_schedule k) 0) ≡ 16 → AreKeyPlanes k 0 key
    → HasBlocks p (λ bit. get_or blocks bit []) → ((lane bit : ℕ) → lane < 16 → bit < 8 → byte_at z lane bit ≡ bit_xor (byte_at p lane bit) (byte_at key lane bit))
    → HasBlocks z (after k blocks 0)
unfolding state_after
first-blocks p key z k blocks long keys had made bit small =
    let rk : List ℕ = round_key (key_schedule k) 0 in
    first_row (λ l. byte_at p (lane_of l) bit) (λ l. byte_at z (lane_of l) bit) (λ l. get_or rk l 0)
    (λ l h.
    let within = place-lt row_places tt l in
    made (lane_of l) bit within small ∙ ap (bit_xor (byte_at p (lane_of l) bit)) (keys.1 (lane_of l) bit within small ∙ ap (λ (n : ℕ). bit_xor (get_or rk n 0) 0) (row_twice l h)))
    ∙ ap₂ xor_bytes (had bit small) (sym (sixteen-is rk long))

pub next-blocks : (p key z : List (List ℕ)) (k : List ℕ) (blocks : List (List ℕ)) (r : ℕ) → 1 ≤ r → length (round_key (key_schedule k) r) ≡ 16 → AreKeyPlanes k r key
    → HasBlocks p (after k blocks (r - 1)) → IsRound p key z → HasBlocks z (after k blocks (r + 1 - 1))
next-blocks p key z k blocks r one long keys had made bit small =
    let rk : List ℕ = round_key (key_schedule k) r in
    let at = λ (lane : ℕ) (h : lane < 16). made lane bit h small ∙ ap (bit_xor _) (keys.1 lane bit h small ∙ ap (bit_xor (get_or rk (get_or row_places lane 0) 0)) (flip-other r (λ z. absurd (omega (arith, one, z))))) in
    round_row (λ l. byte_at p (lane_of l) bit) (λ l. byte_at z (lane_of l) bit) (λ l. get_or rk l 0) (at 0 (lit< tt)) (at 4 (lit< tt)) (at 8 (lit< tt)) (at 12 (lit< tt)) (at 1 (lit< tt)) (at 5 (lit< tt)) (at 9 (lit< tt)) (at 13 (lit< tt)) (at 2 (lit< tt)) (at 6 (lit< tt)) (at 10 (lit< tt)) (at 14 (lit< tt)) (at 3 (lit< tt)) (at 7 (lit< tt)) (at 11 (lit< tt)) (at 15 (lit< tt))
    ∙ ap₂ (λ (s t : List ℕ). xor_bytes (mix_columns (shift_rows (sub_bytes s))) t) (had bit small) (sym (sixteen-is rk long))
    ∙ state_after-more (key_schedule k) (get_or blocks bit []) _ r one refl

pub last-blocks : (p key z : List (List ℕ)) (k : List ℕ) (blocks : List (List ℕ)) → length k ≡ 32 → length (round_key (key_schedule k) 14) ≡ 16 → AreKeyPlanes k 14 key
    → HasBlocks p (after k blocks 13) → IsLastRound p key z → HasBlocks z (λ bit. aes k (get_or blocks bit []))
last-blocks p key z k blocks size long keys had made bit small =
    let rk : List ℕ = round_key (key_schedule k) 14 in
    let at = λ (lane : ℕ) (h : lane < 16). made lane bit h small ∙ ap (bit_xor (substituted_at (byte_at p (source0 lane) bit))) (keys.1 lane bit h small) in
    last_row (λ l. byte_at p (lane_of l) bit) (λ l. byte_at z (lane_of l) bit) (λ l. get_or rk l 0) (at 0 (lit< tt)) (at 4 (lit< tt)) (at 8 (lit< tt)) (at 12 (lit< tt)) (at 1 (lit< tt)) (at 5 (lit< tt)) (at 9 (lit< tt)) (at 13 (lit< tt)) (at 2 (lit< tt)) (at 6 (lit< tt)) (at 10 (lit< tt)) (at 14 (lit< tt)) (at 3 (lit< tt)) (at 7 (lit< tt)) (at 11 (lit< tt)) (at 15 (lit< tt))
    ∙ ap₂ (λ (s t : List ℕ). xor_bytes (shift_rows (sub_bytes s)) t) (had bit small) (sym (sixteen-is rk long))
    ∙ aes-is k (key_schedule k) (get_or blocks bit []) 14 refl (omega (arith, size))
