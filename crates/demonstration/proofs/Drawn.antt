-- Requests that are drawn one after another.
use Rattle.std.proofs.Common.{◌≡◌, ℕ, ◌+◌, ◌%◌, ◌<◌, ◌^◌, List, [], ◌∷◌, ◌++◌, ap, ◌∙◌, zero-add, append-nil, arith}
use Rattle.std.specs.List.{flat_map}
use Rattle.std.proofs.lemmas.List.Concat.{flat_map-append}
use Rattle.std.proofs.lemmas.List.FromFn.{map-range_with_len_more}
use Rattle.rand_chacha.specs.ChaCha.{ChaCha, key_of, next_word}
use Rattle.demonstration.specs.Words.{stream_seed, stream_word}
use Rattle.demonstration.specs.Script.{client_words, drawn_request, sent}

-- a generator after so many words of a stream
abbrev pub generator_at : ℕ → ℕ → ℕ → ChaCha
generator_at seed stream n = record { key = key_of (stream_seed seed stream); stream = 0; word_pos = n }

-- the next word, and the generator after it
pub record IsWord (seed stream n word : ℕ) (new : ChaCha) : Type 0 where
  pub word_is : word ≡ stream_word seed stream n
  pub new_is : new ≡ generator_at seed stream (n + 1)

pub next_is_word : (seed stream n word : ℕ) (old new : ChaCha) → n < 2 ^ 32 → old ≡ generator_at seed stream n → (word, new) ≡ next_word 10 old → IsWord seed stream n word new
unfolding stream_word
next_is_word seed stream n word old new small at given =
    let stepped = given ∙ ap (next_word 10) at in
    let kept : (n + 1) % 2 ^ 68 ≡ n + 1 = omega arith in
    record {
      word_is = ap (λ p. p.0) stepped;
      new_is = ap (λ p. p.1) stepped ∙ ap (λ (k : ℕ). record (generator_at seed stream n) { word_pos = k }) kept;
    }

-- the bytes of what so many words ask for
abbrev pub drawn_bytes : ℕ → ℕ → ℕ → List ℕ
drawn_bytes seed client n = flat_map sent (flat_map (drawn_request client) (client_words seed client n))

-- one word more
pub drawn_bytes-more : (seed client n : ℕ) → drawn_bytes seed client (n + 1)
    ≡ drawn_bytes seed client n ++ flat_map sent (drawn_request client (stream_word seed (1 + client) n))
drawn_bytes-more seed client n =
    let word = stream_word seed (1 + client) in
    let words = client_words seed client n in
    let request = drawn_request client in
    ap (λ ws. flat_map sent (flat_map request ws)) (map-range_with_len_more word 0 n n (zero-add n))
    ∙ ap (flat_map sent) (flat_map-append request words (word n ∷ []))
    ∙ flat_map-append sent (flat_map request words) (request (word n) ++ [])
    ∙ ap (λ (rest : List _). flat_map sent (flat_map request words) ++ flat_map sent rest) (append-nil (request (word n)))
