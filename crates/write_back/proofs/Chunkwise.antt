-- Chunks that are put after what waits, one by one.
use Rattle.std.proofs.Common.{◌≡◌, ℕ, ◌+◌, ◌<◌, min, List, [], ◌∷◌, ◌++◌, length, refl, sym, ap, ◌∙◌, subst, arith, length-append}
use Rattle.outside.specs.Disk.{Path}
use Rattle.deeds.specs.Deeds.{PlainDeed}
use Rattle.pending_files.specs.Pending.{HasRoom, ArePending, put_in}
use Rattle.content_laws.specs.Rewriting.{place_of_chunk, CanPutChunk, CanPutChunks}
use Rattle.write_back.specs.Deeds.{longer, chunks_in, puts_or_cut}
use Rattle.write_back.specs.Sealed.{chunks_of}
use Rattle.write_back.proofs.Cutting.{first_piece, cut_first}

nothing : (bytes : List ℕ) → length bytes ≡ 0 → bytes ≡ []
nothing [] none = refl
nothing (b ∷ bytes) none = absurd (omega arith)

-- these bytes are left, and putting their chunks too puts all that there are; the file has this many bytes by then
pub record IsBehindSoFar (path : Path) (size first before : ℕ) (bytes : List ℕ) (old : List PlainDeed) (left : List ℕ) (count reached : ℕ) (deeds : List PlainDeed) : Type 0 where
  pub rest : chunks_in path size reached (first + count) (chunks_of 32796 left) deeds ≡ chunks_in path size before first (chunks_of 32796 bytes) old
  pub can : CanPutChunks size reached (first + count) (chunks_of 32796 left)
  pub room : HasRoom deeds path (length (chunks_of 32796 left))
  pub pending : length left < length bytes → ArePending deeds

-- the change of some chunks
pub some_put : (path : Path) (size before first : ℕ) (bytes : List ℕ) (old : List PlainDeed) → 0 < length bytes
    → puts_or_cut path size before first (chunks_of 32796 bytes) old ≡ chunks_in path size before first (chunks_of 32796 bytes) old
some_put path size before first bytes old some =
    let parts = first_piece bytes some in
    ap (λ (l : List (List ℕ)). puts_or_cut path size before first l old) parts ∙ sym (ap (λ (l : List (List ℕ)). chunks_in path size before first l old) parts)

module _ {path : Path} {size first before : ℕ} {bytes : List ℕ} {old : List PlainDeed} {left : List ℕ} {count reached : ℕ} {deeds : List PlainDeed}
    (so_far : IsBehindSoFar path size first before bytes old left count reached deeds) where
  -- all of them, once nothing is left
  pub all_behind : length left ≡ 0 → 0 < length bytes → deeds ≡ puts_or_cut path size before first (chunks_of 32796 bytes) old
  all_behind none some =
      sym (ap (λ (l : List ℕ). chunks_in path size reached (first + count) (chunks_of 32796 l) deeds) (nothing left none)) ∙ so_far.rest ∙ sym (some_put path size before first bytes old some)

  module _ (piece : ℕ) (x rest : List ℕ) (full : piece ≡ 32796) (parts : left ≡ x ++ rest) (long : length x ≡ min piece (length left)) (some : 0 < length left) where
    is_next : chunks_of 32796 left ≡ x ∷ chunks_of 32796 rest
    is_next =
        let sum : length left ≡ length x + length rest = ap length parts ∙ length-append x rest in
        ap (chunks_of 32796) parts ∙ cut_first x rest (omega arith) (omega arith)

    can_next : CanPutChunks size reached (first + count) (x ∷ chunks_of 32796 rest)
    can_next = subst (CanPutChunks size reached (first + count)) is_next so_far.can

    pub this_can : CanPutChunk size reached (first + count) x
    this_can = can_next.0

    pub this_room : HasRoom deeds path 1
    this_room = record { inside = so_far.room.inside; fits = omega (arith, so_far.room.fits, ap length is_next); files = so_far.room.files }

    pub one_behind : (new : List PlainDeed) → new ≡ put_in path (min size (longer reached (first + count) x)) (place_of_chunk (first + count)) x deeds → ArePending new
        → ((chunks : ℕ) → HasRoom deeds path (chunks + 1) → HasRoom new path chunks)
        → IsBehindSoFar path size first before bytes old rest (count + 1) (longer reached (first + count) x) new
    one_behind new is are room =
        let index : first + (count + 1) ≡ first + count + 1 = omega arith in
        let after : ℕ = longer reached (first + count) x in
        record {
          rest = ap (λ (i : ℕ). chunks_in path size after i (chunks_of 32796 rest) new) index ∙ ap (chunks_in path size after (first + count + 1) (chunks_of 32796 rest)) is
              ∙ sym (ap (λ (l : List (List ℕ)). chunks_in path size reached (first + count) l deeds) is_next) ∙ so_far.rest;
          can = subst (λ (i : ℕ). CanPutChunks size after i (chunks_of 32796 rest)) (sym index) can_next.1;
          room = room (length (chunks_of 32796 rest)) (record { inside = so_far.room.inside; fits = omega (arith, so_far.room.fits, ap length is_next); files = so_far.room.files });
          pending = λ fewer. are;
        }
