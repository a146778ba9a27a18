-- The first bytes of a stream.
use Rattle.std.proofs.Common.{◌≡◌, ℕ, zero, suc, ◌+◌, ◌*◌, List, length, refl, sym, ap, ◌∙◌, arith}
use Rattle.std.proofs.lemmas.List.{length-append}
use Rattle.std.specs.Int.{w32, to_le_bytes}
use Rattle.rand_chacha.specs.ChaCha.{word_at}
use Rattle.outside_mem.specs.Words.{words_from}

four_bytes : (n : ℕ) → length (to_le_bytes w32 n) ≡ 4
four_bytes n = refl

length-words_from : (key : List ℕ) (place n : ℕ) → length (words_from key place n) ≡ n * 4
length-words_from key place zero = refl
length-words_from key place (suc n) =
    let word = to_le_bytes w32 (word_at 10 key 0 (place + n)) in
    omega (arith, length-append (words_from key place n) word, four_bytes (word_at 10 key 0 (place + n)), length-words_from key place n)

-- all that a stream has given, by how much that is
pub drawn_first : (key key' : List ℕ) (m n : ℕ) (out : List ℕ) → key' ≡ key → words_from key' 0 m ≡ out → length out ≡ n * 4 → out ≡ words_from key 0 n
drawn_first key key' m n out same drawn long =
    let many : m ≡ n = omega (arith, length-words_from key' 0 m, ap length drawn, long) in
    sym drawn ∙ ap (λ (k : List ℕ). words_from k 0 m) same ∙ ap (λ (k : ℕ). words_from key 0 k) many
