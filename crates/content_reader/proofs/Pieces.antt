-- Pieces of a slice, one after another.
use Rattle.std.proofs.Common.{◌≡◌, ◌⊎◌, ℕ, ◌+◌, ◌-◌, ◌*◌, ◌/◌, ◌%◌, ◌<◌, ◌≤◌, min, List, ◌++◌, length, take, drop, Option, Some, None, sym, ap, subst, ◌∙◌, arith, inl, length-take, length-drop, length-append}
use Rattle.std.specs.Option.{option_map, option_and_then}
use Rattle.std.proofs.lemmas.List.{take_at}
use Rattle.vault_keys.specs.Keys.{KeyPair}
use Rattle.tree_model.specs.Rows.{Content, slice_of}
use Rattle.file_chunks.specs.Header.{Head, header_opens}
use Rattle.file_chunks.specs.Chunk.{chunk_opens}
use Rattle.file_chunks.specs.File.{IsKey, clear_length, content_of, sealed_at}
use Rattle.content_reader.specs.Reading.{IsSpan}
use Rattle.content_reader.proofs.Spans.{part_of_front}

-- what a slice is by the chunk of its first byte
pub record SliceLaws : Type 0 where
  pub sealed : (bytes : List ℕ) (n at : ℕ) → clear_length (length bytes) ≡ Some n → at < n
      → length (sealed_at bytes (at / 32768)) ≡ min 32768 (n - 32768 * (at / 32768)) + 28
  pub damaged : (keys : KeyPair) (bytes : List ℕ) (n at count : ℕ) (head : Head) → IsKey keys.enc → clear_length (length bytes) ≡ Some n → at < n → 0 < count
      → header_opens keys (take 68 bytes) ≡ Some head → chunk_opens head (at / 32768) (sealed_at bytes (at / 32768)) ≡ None → slice_of (content_of keys bytes) at count ≡ None
  pub opened : (keys : KeyPair) (bytes : List ℕ) (n at count : ℕ) (head : Head) (plaintext : List ℕ) → IsKey keys.enc → clear_length (length bytes) ≡ Some n → at < n
      → header_opens keys (take 68 bytes) ≡ Some head → chunk_opens head (at / 32768) (sealed_at bytes (at / 32768)) ≡ Some plaintext
      → (at % 32768 + count ≤ 32768) ⊎ (n ≤ 32768 * (at / 32768 + 1)) → slice_of (content_of keys bytes) at count ≡ Some (take count (drop (at % 32768) plaintext))
  pub joined : (content : Content) (at first second : ℕ)
      → slice_of content at (first + second) ≡ option_and_then (λ front. option_map (λ back. front ++ back) (slice_of content (at + first) second)) (slice_of content at first)

-- how far a gathering is: the next piece's chunk, and its sealed bytes
pub record IsNextPiece (at count done index : ℕ) (sealed chunk : List ℕ) : Type 0 where
  pub more : done < count
  pub place : index ≡ (at + done) / 32768
  pub bytes : chunk ≡ take 32796 (drop (32796 * (index - at / 32768)) sealed)

-- a piece of a slice, after those that were gathered
pub record NextPiece : Type 0 where
  pub keys : KeyPair
  pub head : Head
  pub at : ℕ
  pub count : ℕ
  pub done : ℕ
  pub index : ℕ
  pub sealed : List ℕ
  pub chunk : List ℕ
  pub bytes : List ℕ
  pub out : List ℕ
  pub span : IsSpan keys head at count sealed bytes
  pub next : IsNextPiece at count done index sealed chunk
  pub so_far : slice_of (content_of keys bytes) at done ≡ Some (take done out)

module _ (laws : SliceLaws) (piece : NextPiece) where
  open piece use {keys, head, at, count, done, index, chunk, bytes, out, span, next, so_far}

  is_chunk : chunk ≡ sealed_at bytes index
  is_chunk =
      let more : done < count = next.more in
      let place : index ≡ (at + done) / 32768 = next.place in
      next.bytes ∙ span.chunks index (omega arith) (omega arith)

  opens_at : (found : Option (List ℕ)) → chunk_opens head index chunk ≡ found → chunk_opens head ((at + done) / 32768) (sealed_at bytes ((at + done) / 32768)) ≡ found
  opens_at found is = subst (λ (i : ℕ). chunk_opens head i (sealed_at bytes i) ≡ found) next.place (sym (ap (chunk_opens head index) is_chunk) ∙ is)

  pub gathered_none : chunk_opens head index chunk ≡ None → slice_of (content_of keys bytes) at count ≡ None
  gathered_none none =
      let more : done < count = next.more in
      let within : at + count ≤ span.size = span.inside in
      let rest : slice_of (content_of keys bytes) (at + done) (count - done) ≡ None =
      laws.damaged keys bytes span.size (at + done) (count - done) head span.key span.sized (omega arith) (omega arith) span.header (opens_at None none) in
      let whole : done + (count - done) ≡ count = omega arith in
      subst (λ (n : ℕ). slice_of (content_of keys bytes) at n ≡ None) whole
      (laws.joined (content_of keys bytes) at done (count - done)
      ∙ ap (option_and_then (λ front. option_map (λ back. front ++ back) (slice_of (content_of keys bytes) (at + done) (count - done)))) so_far
      ∙ ap (option_map (λ back. take done out ++ back)) rest)

  module _ (more opened : ℕ) (fits : (at + done) % 32768 + more ≤ 32768) (within : done + more ≤ count) where
    pub not_short : opened + 28 ≡ length chunk → opened < (at + done) % 32768 + more → ⊥
    not_short counted short =
        let inside : at + count ≤ span.size = span.inside in
        let first_more : done < count = next.more in
        let len = laws.sealed bytes span.size (at + done) span.sized (omega arith) in
        let same : length chunk ≡ length (sealed_at bytes ((at + done) / 32768)) = ap length is_chunk ∙ ap (λ (i : ℕ). length (sealed_at bytes i)) next.place in
        omega (arith, len, same)

    pub gathered_more : (clear new : List ℕ) → chunk_opens head index chunk ≡ Some (take opened clear) → (at + done) % 32768 + more ≤ opened → opened ≤ length clear → done ≤ length out
        → new ≡ take done out ++ take more (drop ((at + done) % 32768) clear) ++ drop (done + more) out
        → slice_of (content_of keys bytes) at (done + more) ≡ Some (take (done + more) new)
    gathered_more clear new opens enough there room put =
        let inside : at + count ≤ span.size = span.inside in
        let first_more : done < count = next.more in
        let piece : slice_of (content_of keys bytes) (at + done) more ≡ Some (take more (drop ((at + done) % 32768) (take opened clear))) =
        laws.opened keys bytes span.size (at + done) more head (take opened clear) span.key span.sized (omega arith) span.header (opens_at (Some (take opened clear)) opens) (inl fits) in
        let shown : take more (drop ((at + done) % 32768) (take opened clear)) ≡ take more (drop ((at + done) % 32768) clear) = part_of_front ((at + done) % 32768) more opened clear enough in
        let len : length (take done out ++ take more (drop ((at + done) % 32768) clear)) ≡ done + more =
        simp (length-append, length-take, length-drop) (omega arith) in
        laws.joined (content_of keys bytes) at done more
        ∙ ap (option_and_then (λ front. option_map (λ back. front ++ back) (slice_of (content_of keys bytes) (at + done) more))) so_far
        ∙ ap (option_map (λ back. take done out ++ back)) (piece ∙ ap Some shown)
        ∙ ap Some (sym (ap (take (done + more)) put ∙ take_at (take done out ++ take more (drop ((at + done) % 32768) clear)) (drop (done + more) out) (done + more) len))

-- a piece as it was put
pub put_is : (offset more done : ℕ) (clear out new : List ℕ) → offset + more ≤ length clear
    → new ≡ take done out ++ take (offset + more - offset) (drop offset clear) ++ drop (done + length (take (offset + more - offset) (drop offset clear))) out
    → new ≡ take done out ++ take more (drop offset clear) ++ drop (done + more) out
put_is offset more done clear out new within is =
    let size : offset + more - offset ≡ more = omega arith in
    let len : length (take more (drop offset clear)) ≡ more = simp (length-take, length-drop) (omega arith) in
    is ∙ ap (λ (n : ℕ). take done out ++ take n (drop offset clear) ++ drop (done + length (take n (drop offset clear))) out) size
    ∙ ap (λ (n : ℕ). take done out ++ take more (drop offset clear) ++ drop (done + n) out) len
