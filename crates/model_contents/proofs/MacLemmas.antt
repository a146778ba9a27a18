-- Blocks doubled, and the code from the chain and the last block.
use Rattle.std.proofs.Common.{◌≡◌, ℕ, ◌+◌, ◌*◌, ◌/◌, ◌%◌, ◌^◌, ◌<◌, ◌≤◌, List, length, drop, bit_xor, sym, ap, ◌∙◌, arith, add-one, length-drop}
use Rattle.std.specs.Int.{w128, to_be_bytes, from_be_bytes}
use Rattle.std.specs.Int.Bits.{xor_zero_r}
use Rattle.std.proofs.lemmas.List.{take_all}
use Rattle.aes_block.specs.Bytes.{xor_bytes}
use Rattle.siv_mode.specs.Cmac.{block_at, blocks_before_last, chained, cmac, doubled, last_block}
use Rattle.siv_mode.proofs.Doubling.{doubled_is}

pub doubled-low : (bs : List ℕ) (n : ℕ) → length bs ≡ 16 → n ≡ from_be_bytes w128 bs → n < 2 ^ 128 → n / 2 ^ 127 ≡ 0 → to_be_bytes w128 (n * 2 % 2 ^ 128) ≡ doubled bs
doubled-low bs n long is small low =
    let none : 0 ≡ n / 2 ^ 127 * 0x87 = omega arith in
    ap (to_be_bytes w128) (sym (xor_zero_r (n * 2 % 2 ^ 128)) ∙ ap (bit_xor (n * 2 % 2 ^ 128)) none) ∙ doubled_is bs n long is small

pub doubled-high : (bs : List ℕ) (n : ℕ) → length bs ≡ 16 → n ≡ from_be_bytes w128 bs → n < 2 ^ 128 → (n / 2 ^ 127 ≡ 0 → ⊥) → to_be_bytes w128 (bit_xor (n * 2 % 2 ^ 128) 0x87) ≡ doubled bs
doubled-high bs n long is small high =
    let one : 0x87 ≡ n / 2 ^ 127 * 0x87 = omega arith in
    ap (λ (m : ℕ). to_be_bytes w128 (bit_xor (n * 2 % 2 ^ 128) m)) one ∙ doubled_is bs n long is small

pub chained-more : (cipher : List ℕ → List ℕ) (text chain block : List ℕ) (i : ℕ) → chain ≡ chained cipher text i → block ≡ block_at text i
    → cipher (xor_bytes chain block) ≡ chained cipher text (i + 1)
unfolding chained
chained-more cipher text chain block i so_far is = (λ j. cipher (xor_bytes (so_far j) (is j))) ∙ ap (chained cipher text) (sym (add-one i))

pub cmac-is : (cipher : List ℕ → List ℕ) (text chain last end : List ℕ) (n : ℕ) → n ≡ blocks_before_last (length text) → chain ≡ chained cipher text n → end ≡ drop (16 * n) text
    → last ≡ last_block cipher end → cipher (xor_bytes chain last) ≡ cmac cipher text
unfolding cmac
cmac-is cipher text chain last end n n_is chain_is end_is last_is =
    let short : length (drop (16 * n) text) ≤ 16 = omega (arith, length-drop (16 * n) text) in
    let block : end ≡ block_at text n = end_is ∙ sym (take_all 16 (drop (16 * n) text) short) in
    (λ j. cipher (xor_bytes (chain_is j) (last_is j))) ∙ (λ j. cipher (xor_bytes (chained cipher text n) (last_block cipher (block j))))
    ∙ (λ j. cipher (xor_bytes (chained cipher text (n_is j)) (last_block cipher (block_at text (n_is j)))))
