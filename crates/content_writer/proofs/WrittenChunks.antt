-- What a write makes of one chunk, by what was read of it.
use Rattle.std.proofs.Common.{◌≡◌, inl, inr, ℕ, ◌+◌, ◌-◌, ◌*◌, ◌<◌, ◌≤◌, min, List, [], length, take, drop, Option, Some, None, sym, ap, subst, ◌∙◌, arith, length-take, length-drop}
use Rattle.std.proofs.lemmas.Bool.{cases_lt}
use Rattle.std.proofs.lemmas.List.{take_all, take_rest}
use Rattle.outside.proofs.Told.{told_then, told_always}
use Rattle.vault_keys.specs.Keys.{KeyPair}
use Rattle.tree_model.specs.Rows.{good}
use Rattle.tree_model.specs.Contents.{sealed_chunk}
use Rattle.file_chunks.specs.Chunk.{chunk_opens}
use Rattle.file_chunks.specs.File.{content_of, sealed_at}
use Rattle.content_laws.specs.Laws.{IsOpened, IsPartlyKept, after_write, patched_at}
use Rattle.content_reader.proofs.Spans.{take_min}
use Rattle.content_writer.specs.Sealing.{IsOldPlaintext, IsDamagedChunk, IsPushed, Writing, length_after, IsWrittenChunk, IsLostChunk, HasSealed}
use Rattle.content_writer.proofs.Patching.{length-patched}

-- the laws on the chunk of an index
pub record ChunkLaws (w : Writing) (index : ℕ) : Type 0 where
  pub opened : (keys : KeyPair) (bytes plaintext : List ℕ) → IsOpened keys w.head w.length bytes → 32768 * index < w.length → chunk_opens w.head index (sealed_at bytes index) ≡ Some plaintext
      → sealed_chunk (after_write (content_of keys bytes) w.at w.input) index ≡ Some (good (patched_at index plaintext w.at w.input))
  pub behind : (keys : KeyPair) (bytes : List ℕ) → IsOpened keys w.head w.length bytes → w.length ≤ 32768 * index
      → sealed_chunk (after_write (content_of keys bytes) w.at w.input) index ≡ Some (good (patched_at index [] w.at w.input))
  pub replaced : (keys : KeyPair) (bytes : List ℕ) → IsOpened keys w.head w.length bytes → w.at ≤ 32768 * index → min w.length (32768 * (index + 1)) ≤ w.at + length w.input
      → sealed_chunk (after_write (content_of keys bytes) w.at w.input) index ≡ Some (good (take 32768 (drop (32768 * index - w.at) w.input)))
  pub damaged : (keys : KeyPair) (bytes : List ℕ) → IsOpened keys w.head w.length bytes → 32768 * index < w.length → chunk_opens w.head index (sealed_at bytes index) ≡ None
      → IsPartlyKept w.length w.at (length w.input) index → sealed_chunk (after_write (content_of keys bytes) w.at w.input) index ≡ None

module _ (w : Writing) (index : ℕ) (laws : ChunkLaws w index) where
  -- by its old plaintext
  pub patched_chunk : (old : List ℕ) → IsOldPlaintext w.contents w.path w.head w.length index old → IsWrittenChunk w index (patched_at index old w.at w.input)
  patched_chunk old is = elim (cases_lt (32768 * index) w.length) [
    | inl inside ↦ told_then w.contents _ _ (is.opens inside) (λ d opens keys bytes file. laws.opened keys bytes old file.opened inside (opens keys bytes file))
    | inr past ↦
        let long : length old ≡ min 32768 (w.length - 32768 * index) = is.long in
        let none : old ≡ [] = sym (take_all 0 old (omega arith)) in
        told_always w.contents _ (λ d keys bytes file. laws.behind keys bytes file.opened past ∙ ap (λ (p : List ℕ). Some (good (patched_at index p w.at w.input))) (sym none))
  ]

  -- by the write alone
  pub replaced_chunk : w.at ≤ 32768 * index → min w.length (32768 * (index + 1)) ≤ w.at + length w.input → IsWrittenChunk w index (take 32768 (drop (32768 * index - w.at) w.input))
  replaced_chunk from over = told_always w.contents _ (λ d keys bytes file. laws.replaced keys bytes file.opened from over)

  pub lost_chunk : IsDamagedChunk w.contents w.path w.head w.length index → IsPartlyKept w.length w.at (length w.input) index → IsLostChunk w index
  lost_chunk is kept = told_then w.contents _ _ is.closed (λ d closed keys bytes file. laws.damaged keys bytes file.opened is.inside (closed keys bytes file) kept)

-- a byte is kept of a chunk that isn't replaced whole
pub partly_kept : (n at count index : ℕ) → 32768 * index < n → (at ≤ 32768 * index → min n (32768 * (index + 1)) ≤ at + count → ⊥) → IsPartlyKept n at count index
partly_kept n at count index inside not_whole = elim (cases_lt (32768 * index) at) [
  | inl before ↦ inl (omega arith)
  | inr from ↦ elim (cases_lt (at + count) (min n (32768 * (index + 1)))) [
    | inl behind ↦ inr behind
    | inr over ↦ absurd (not_whole from over)
  ]
]

pub length-patched_at : (w : Writing) (index : ℕ) (old : List ℕ) → length old ≡ min 32768 (w.length - 32768 * index) → 32768 * index < w.at + length w.input
    → length (patched_at index old w.at w.input) ≡ min 32768 (length_after w - 32768 * index)
length-patched_at w index old long met =
    omega (arith, length-patched old (w.at - 32768 * index) (drop (32768 * index - w.at) w.input), length-drop (32768 * index - w.at) w.input)

pub length-replaced : (w : Writing) (index : ℕ) → w.at ≤ 32768 * index → min w.length (32768 * (index + 1)) ≤ w.at + length w.input → 32768 * index < w.at + length w.input
    → length (take 32768 (drop (32768 * index - w.at) w.input)) ≡ min 32768 (length_after w - 32768 * index)
length-replaced w index from over met =
    omega (arith, length-take 32768 (drop (32768 * index - w.at) w.input), length-drop (32768 * index - w.at) w.input)

-- a part of the input up to its end, and what of it is a chunk
pub input_rest : (input : List ℕ) (from at : ℕ) → from ≡ at → take (length input - from) (drop from input) ≡ drop at input
input_rest input from at same = take_rest input from ∙ ap (λ (n : ℕ). drop n input) same

pub input_chunk : (input : List ℕ) (from at count : ℕ) → from ≡ at → count ≡ min (length (take (length input - from) (drop from input))) 32768
    → take count (take (length input - from) (drop from input)) ≡ take 32768 (drop at input)
input_chunk input from at count same is =
    let rest : take (length input - from) (drop from input) ≡ drop at input = input_rest input from at same in
    ap (take count) rest ∙ take_min 32768 count (drop at input) (omega (arith, is, ap length rest))

-- what was sealed is this
pub sealed_as : (w : Writing) (index : ℕ) (given plaintext : List ℕ) (old new : List (List ℕ)) (drawn drawn' : Option (List ℕ)) → given ≡ plaintext
    → IsPushed w.head index given old new drawn drawn' → length plaintext ≡ min 32768 (length_after w - 32768 * index) → IsWrittenChunk w index plaintext
    → HasSealed w index old new drawn drawn'
sealed_as w index given plaintext old new drawn drawn' same pushed long clear = record {
  plaintext = plaintext;
  long = long;
  clear = clear;
  pushed = subst (λ (p : List ℕ). IsPushed w.head index p old new drawn drawn') same pushed;
}
