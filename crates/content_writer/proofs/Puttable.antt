-- What the sealed chunks of a write make of the content, and that they can be put into the host file.
use Rattle.std.proofs.Common.{◌≡◌, ◌⊎◌, inl, inr, ℕ, ◌+◌, ◌-◌, ◌*◌, ◌/◌, ◌%◌, ◌^◌, ◌<◌, ◌≤◌, min, max, List, [], ◌∷◌, length, Some, None, sym, subst, arith}
use Rattle.std.specs.Prelude.{All}
use Rattle.std.specs.Int.{div_ceil}
use Rattle.std.proofs.lemmas.List.Elements.{All-nil, All-cons}
use Rattle.outside.proofs.Told.{told_then}
use Rattle.vault_keys.specs.Keys.{KeyPair}
use Rattle.tree_model.specs.Rows.{Content}
use Rattle.tree_model.specs.Contents.{sealed_chunk, written}
use Rattle.file_chunks.specs.Header.{Head}
use Rattle.file_chunks.specs.File.{chunk_count, clear_length, content_of}
use Rattle.content_laws.specs.Rewriting.{Rewriting, AreSealed, CanPutChunks, sealed_size}
use Rattle.content_laws.specs.Laws.{IsOpened, AreChunksOf, IsMet, IsWrite, IsRewritten, after_write}
use Rattle.content_laws.proofs.Sizes.{IsGood, is_good, IsGrown, grown, is_put}
use Rattle.content_writer.specs.Sealed.{IsPuttable}
use Rattle.content_writer.specs.Sealing.{IsOpenFile, OfOpen, Writing, length_after, AreLong, AreSealedTo, IsLost}
use Rattle.content_writer.proofs.SealedRuns.{counted_to}

-- none is too long
short_chunks : (head : Head) (m first : ℕ) (sealed plaintexts : List (List ℕ)) → AreSealed head first sealed plaintexts → AreLong m first plaintexts
    → All (λ chunk. length chunk ≤ 32796) sealed
short_chunks head m first [] [] are long = All-nil (λ (chunk : List ℕ). length chunk ≤ 32796)
short_chunks head m first [] (p ∷ ps) are long = absurd are
short_chunks head m first (s ∷ more) [] are long = absurd are
short_chunks head m first (s ∷ more) (p ∷ ps) are long =
    All-cons (λ (chunk : List ℕ). length chunk ≤ 32796) s more (omega (arith, are.0.long, long.0)) (short_chunks head m (first + 1) more ps are.1 long.1)

-- they can be put, by their lengths alone
can_put : (old size n high m : ℕ) → IsGrown old size n high m → (head : Head) (sealed plaintexts : List (List ℕ)) (first now : ℕ) → AreLong (max n high) first plaintexts
    → AreSealed head first sealed plaintexts → first + length plaintexts ≡ high / 32768 + min 1 (high % 32768) → old ≤ now
    → (first < high / 32768 + min 1 (high % 32768) → 68 + 32796 * first ≤ now) → (high / 32768 + min 1 (high % 32768) ≤ first → size ≤ now)
    → CanPutChunks size now first sealed
can_put old size n high m facts head [] [] first now long are count held begins done = done (omega arith)
can_put old size n high m facts head [] (p ∷ ps) first now long are count held begins done = absurd are
can_put old size n high m facts head (s ∷ more) [] first now long are count held begins done = absurd are
can_put old size n high m facts head (s ∷ more) (p ∷ ps) first now long are count held begins done =
    let sealed_long : length s ≡ length p + 28 = are.0.long in
    let part : length p ≡ min 32768 (max n high - 32768 * first) = long.0 in
    let this = is_put old size n high m first (length s) now facts (omega arith) (omega arith) held in (
      record { short = this.short; whole = this.whole; begins = begins (omega arith); ends = this.ends },
      can_put old size n high m facts head more ps (first + 1) (max now (68 + 32796 * first + length s)) long.1 are.1 (omega arith) (omega arith) this.more this.done,
    )

module _ (w : Writing) (sealed : List (List ℕ)) (all : AreSealedTo w (div_ceil (w.at + length w.input) 32768) sealed) (old low size : ℕ) (is_low : low ≡ min w.at w.length)
    (is_size : size ≡ max old (sealed_size (w.at + length w.input))) where
  is_write : (content : Content) → AreChunksOf (after_write content w.at w.input) (min w.at w.length / 32768) all.plaintexts
      → IsWrite w.head w.length content old w.at w.input all.plaintexts (record { first = low / 32768; sealed = sealed; size = size })
  is_write content clear =
      subst (λ (l : ℕ). IsWrite w.head w.length content old w.at w.input all.plaintexts (record { first = l / 32768; sealed = sealed; size = size })) (sym is_low)
      (record { first = omega arith; count = all.count; clear = clear; sealed = all.are; size = is_size })

  -- what it makes of the content
  pub is_written : ((keys : KeyPair) (bytes : List ℕ) (plaintexts : List (List ℕ)) (r : Rewriting) → IsOpened keys w.head w.length bytes → 0 < length w.input
      → IsWrite w.head w.length (content_of keys bytes) (length bytes) w.at w.input plaintexts r → IsRewritten keys bytes r (written (content_of keys bytes) w.at w.input))
      → 0 < length w.input
      → OfOpen w.contents w.path w.head w.length (λ keys bytes. length bytes ≡ old
      → IsRewritten keys bytes (record { first = low / 32768; sealed = sealed; size = size }) (written (content_of keys bytes) w.at w.input))
  is_written law some =
      told_then w.contents
      (λ d. (keys : KeyPair) (bytes : List ℕ) → IsOpenFile d w.path keys w.head w.length bytes → AreChunksOf (after_write (content_of keys bytes) w.at w.input) (min w.at w.length / 32768) all.plaintexts)
      (λ d. (keys : KeyPair) (bytes : List ℕ) → IsOpenFile d w.path keys w.head w.length bytes → length bytes ≡ old
      → IsRewritten keys bytes (record { first = low / 32768; sealed = sealed; size = size }) (written (content_of keys bytes) w.at w.input))
      all.clear (λ d clear keys bytes file long.
      law keys bytes all.plaintexts (record { first = low / 32768; sealed = sealed; size = size }) file.opened some
      (subst (λ (was : ℕ). IsWrite w.head w.length (content_of keys bytes) was w.at w.input all.plaintexts (record { first = low / 32768; sealed = sealed; size = size })) (sym long)
      (is_write (content_of keys bytes) (clear keys bytes file))))

  pub is_puttable : 0 < length w.input → clear_length old ≡ Some w.length → div_ceil (w.at + length w.input) 32768 ≤ min w.at w.length / 32768 + 36 → size < 2 ^ 64
      → IsPuttable old (record { first = low / 32768; sealed = sealed; size = size })
  is_puttable some sized few fits =
      let high : ℕ = w.at + length w.input in
      let was : IsGood old w.length (chunk_count old) = is_good old w.length sized in
      let was_len : old ≡ 68 + w.length + 28 * chunk_count old = was.len in
      let was_count : chunk_count old ≡ (old - 68 + 32795) / 32796 = was.count in
      let was_whole : ((old - 68) % 32796 ≡ 0) ⊎ (28 ≤ (old - 68) % 32796) = was.whole in
      let facts : IsGrown old size w.length (w.at + length w.input) (chunk_count old) = grown old size w.length (w.at + length w.input) (chunk_count old) was is_size in
      let begins : 68 + 32796 * (min w.at w.length / 32768) ≤ old = elim was_whole [ inl none ↦ omega arith | inr enough ↦ omega arith ] in
      let count : min w.at w.length / 32768 + length all.plaintexts ≡ (w.at + length w.input) / 32768 + min 1 ((w.at + length w.input) % 32768) = all.count in
      subst (λ (l : ℕ). IsPuttable old (record { first = l / 32768; sealed = sealed; size = size })) (sym is_low) (record {
        can = can_put old size w.length high (chunk_count old) facts w.head sealed all.plaintexts (min w.at w.length / 32768) old all.long all.are count (omega arith) (λ _. begins)
            (λ none. absurd (omega (arith, none, some)));
        few = omega (arith, few, counted_to w (div_ceil (w.at + length w.input) 32768) sealed all);
        short = short_chunks w.head (length_after w) (min w.at w.length / 32768) sealed all.plaintexts all.are all.long;
        fits = fits;
      })

-- a write that would keep a byte of a chunk that doesn't open makes nothing
pub is_lost : (w : Writing) → ((keys : KeyPair) (bytes : List ℕ) (index : ℕ) → IsOpened keys w.head w.length bytes → IsMet w.length w.at (length w.input) index
    → sealed_chunk (after_write (content_of keys bytes) w.at w.input) index ≡ None → written (content_of keys bytes) w.at w.input ≡ None)
    → IsLost w → OfOpen w.contents w.path w.head w.length (λ keys bytes. written (content_of keys bytes) w.at w.input ≡ None)
is_lost w law lost =
    told_then w.contents
    (λ d. (keys : KeyPair) (bytes : List ℕ) → IsOpenFile d w.path keys w.head w.length bytes → sealed_chunk (after_write (content_of keys bytes) w.at w.input) lost.index ≡ None)
    (λ d. (keys : KeyPair) (bytes : List ℕ) → IsOpenFile d w.path keys w.head w.length bytes → written (content_of keys bytes) w.at w.input ≡ None)
    lost.lost (λ d none keys bytes file. law keys bytes lost.index file.opened lost.met (none keys bytes file))
