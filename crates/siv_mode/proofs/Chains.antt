-- The cipher chained over the blocks of a text that comes in pieces.
use Rattle.std.proofs.Common.{◌≡◌, ℕ, zero, suc, ◌+◌, ◌-◌, ◌*◌, ◌<◌, ◌≤◌, List, ◌++◌, length, take, drop, true, false, eqb, eq-eqb, refl, sym, ap, ◌∙◌, arith}
use Rattle.std.proofs.lemmas.List.{append_assoc, length-append, length-take-le, length-drop, take-append-drop, take-append-le, drop-append-le, take_all, take_at, drop_at, drop-drop}
use Rattle.std.proofs.lemmas.Bool.{ne_eqb}
use Rattle.aes_block.specs.Bytes.{xor_bytes}
use Rattle.siv_mode.specs.Cmac.{zero_block, doubled, padded, block_at, chained, last_block, blocks_before_last, cmac}
use Rattle.siv_mode.specs.Absorbed.{HasAbsorbed}

-- the chain over n blocks sees no byte past them
pub chained-append : (cipher : List ℕ → List ℕ) (s t : List ℕ) (n : ℕ) → 16 * n ≤ length s → chained cipher (s ++ t) n ≡ chained cipher s n
unfolding chained
chained-append cipher s t zero within = refl
chained-append cipher s t (suc n) within =
    let early : 16 * n ≤ length s = omega arith in
    let whole : 16 ≤ length (drop (16 * n) s) = omega (arith, length-drop (16 * n) s) in
    let same : block_at (s ++ t) n ≡ block_at s n = ap (take 16) (drop-append-le (16 * n) s t early) ∙ take-append-le 16 (drop (16 * n) s) t whole in
    λ i. cipher (xor_bytes (chained-append cipher s t n early i) (same i))

-- Halfway through a text: the cipher is chained over n of its blocks, and the bytes since, with those that are left, are
-- its others, of which there are some unless the text is empty.
pub record IsHalfway (cipher : List ℕ → List ℕ) (chain block : List ℕ) (filled : ℕ) (rest text : List ℕ) : Type 0 where
  pub n : ℕ
  pub chained_before : chain ≡ chained cipher text n
  pub since : take filled block ++ rest ≡ drop (16 * n) text
  pub more : 16 * n ≤ length text - 1

pub halfway_none : {cipher : List ℕ → List ℕ} {chain block : List ℕ} {filled : ℕ} {text piece : List ℕ}
    → HasAbsorbed cipher chain block filled text → IsHalfway cipher chain block filled piece (text ++ piece)
halfway_none {cipher = cipher} {text = text} {piece = piece} h =
    let n = blocks_before_last (length text) in
    let within : 16 * n ≤ length text = omega arith in
    let long = length-append text piece in
    let short : length (drop (16 * n) text) ≤ 16 = omega (arith, length-drop (16 * n) text) in
    record {
      n = n;
      chained_before = h.chained_before ∙ sym (chained-append cipher text piece n within);
      since = ap (λ t. t ++ piece) (h.last ∙ take_all 16 (drop (16 * n) text) short) ∙ sym (drop-append-le (16 * n) text piece within);
      more = omega arith;
    }

pub halfway_more : {cipher : List ℕ → List ℕ} {chain chain' block : List ℕ} (block' : List ℕ) {block'' : List ℕ} {filled filled' filled'' : ℕ} {rest front back text : List ℕ}
    → IsHalfway cipher chain block filled rest text → filled ≤ 16 → length block ≡ 16 → length block' ≡ 16 → 16 - filled < length rest
    → front ≡ take (16 - filled) rest → back ≡ drop (16 - filled) rest → filled' ≡ filled + length front
    → take filled' block' ≡ take filled block ++ front → chain' ≡ cipher (xor_bytes chain block') → filled'' ≡ 0
    → IsHalfway cipher chain' block'' filled'' back text
unfolding chained
halfway_more {cipher = cipher} {block = block} block' {block'' = block''} {filled = filled} {filled' = filled'} {rest = rest} {front = front} {back = back} {text = text} h fits long long' some front_is back_is filled_is block_is chained' empty =
    let n = h.n in
    let front_long = ap length front_is ∙ length-take-le (16 - filled) rest (omega arith) in
    let back_long = ap length back_is ∙ length-drop (16 - filled) rest in
    let whole : block' ≡ take filled' block' = sym (take_all filled' block' (omega arith)) in
    let halves : front ++ back ≡ rest = (λ i. front_is i ++ back_is i) ∙ take-append-drop (16 - filled) rest in
    let split : block' ++ back ≡ drop (16 * n) text =
    ap (λ t. t ++ back) (whole ∙ block_is) ∙ append_assoc (take filled block) front back ∙ ap (λ t. take filled block ++ t) halves ∙ h.since in
    let block_at_n : block' ≡ block_at text n = sym (take_at block' back 16 long') ∙ ap (take 16) split in
    let left : back ≡ drop (16 * n + 16) text = sym (drop_at block' back 16 long') ∙ ap (drop 16) split ∙ drop-drop 16 (16 * n) text in
    let left_long = ap length left ∙ length-drop (16 * n + 16) text in
    let next : 16 * n + 16 ≡ 16 * suc n = omega arith in
    record {
      n = suc n;
      chained_before = chained' ∙ (λ i. cipher (xor_bytes (h.chained_before i) (block_at_n i)));
      since = ap (λ k. take k block'' ++ back) empty ∙ left ∙ ap (λ k. drop k text) next;
      more = omega arith;
    }

pub halfway_all : {cipher : List ℕ → List ℕ} {chain block block' : List ℕ} {filled filled' : ℕ} {rest text : List ℕ}
    → IsHalfway cipher chain block filled rest text → filled ≤ 16 → length block ≡ 16 → filled + length rest ≤ 16
    → take filled' block' ≡ take filled block ++ rest → HasAbsorbed cipher chain block' filled' text
halfway_all {cipher = cipher} {block = block} {filled = filled} {rest = rest} {text = text} h fits long room is =
    let n = h.n in
    let kept = length-take-le filled block (omega arith) in
    let since_long = length-append (take filled block) rest in
    let left = sym (ap length h.since) ∙ since_long in
    let left_is = length-drop (16 * n) text in
    let short : length (drop (16 * n) text) ≤ 16 = omega arith in
    let last : n ≡ blocks_before_last (length text) = omega arith in
    record {
      chained_before = h.chained_before ∙ ap (chained cipher text) last;
      last = is ∙ h.since ∙ sym (take_all 16 (drop (16 * n) text) short) ∙ ap (block_at text) last;
    }

-- the code from what was absorbed: `last` is the last block, whole or padded, with its subkey
pub cmac_from_whole : (cipher : List ℕ → List ℕ) (chain block text : List ℕ) (filled : ℕ) → HasAbsorbed cipher chain block filled text → length block ≡ 16 → filled ≡ 16
    → cipher (xor_bytes chain (xor_bytes (doubled (cipher zero_block)) block)) ≡ cmac cipher text
unfolding cmac
cmac_from_whole cipher chain block text filled h long full =
    let n = blocks_before_last (length text) in
    let is : block ≡ block_at text n = sym (take_all filled block (omega arith)) ∙ h.last in
    let whole : eqb (length (block_at text n)) 16 ≡ true = eq-eqb _ _ (sym (ap length is) ∙ long) in
    let last : xor_bytes (doubled (cipher zero_block)) block ≡ last_block cipher (block_at text n) = rw whole (ap (xor_bytes (doubled (cipher zero_block))) is) in
    λ i. cipher (xor_bytes (h.chained_before i) (last i))

pub cmac_from_part : (cipher : List ℕ → List ℕ) (chain block text : List ℕ) (filled : ℕ) → HasAbsorbed cipher chain block filled text → length block ≡ 16 → filled < 16
    → cipher (xor_bytes chain (xor_bytes (doubled (doubled (cipher zero_block))) (padded (take filled block)))) ≡ cmac cipher text
unfolding cmac
cmac_from_part cipher chain block text filled h long part =
    let n = blocks_before_last (length text) in
    let kept = length-take-le filled block (omega arith) in
    let whole : eqb (length (block_at text n)) 16 ≡ false = ne_eqb _ _ (let same = ap length h.last in λ e. omega arith) in
    let last : xor_bytes (doubled (doubled (cipher zero_block))) (padded (take filled block)) ≡ last_block cipher (block_at text n) =
    rw whole (ap (λ b. xor_bytes (doubled (doubled (cipher zero_block))) (padded b)) h.last) in
    λ i. cipher (xor_bytes (h.chained_before i) (last i))
