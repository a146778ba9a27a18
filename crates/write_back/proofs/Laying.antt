-- The change of a file after what waits, laid over a disk.
use Rattle.std.proofs.Common.{◌≡◌, ◌≢◌, ℕ, suc, ◌+◌, ◌≤◌, ◌<◌, ◌^◌, min, max, List, [], ◌∷◌, length, take, Some, refl, sym, ap, ◌∙◌, subst, inl, inr, arith, length-take}
use Rattle.std.proofs.lemmas.Bool.{cases_lt}
use Rattle.std.proofs.lemmas.List.{take_all, take-take}
use Rattle.outside.specs.Disk.{Disk, Path, node_at, file, IsTree}
use Rattle.outside.specs.Changes.{overwritten}
use Rattle.deeds.specs.Deeds.{PlainDeed, DoesAll, in_order}
use Rattle.pending_files.specs.Pending.{IsInside, IsPlace, HasRoom, ArePending, cut_in, put_in}
use Rattle.pending_files.specs.Later.{IsChangedTo, IsWhole}
use Rattle.pending_files.specs.Laid.{laid, CanWait}
use Rattle.pending_files.proofs.Later.{cut_later, put_later}
use Rattle.pending_files.proofs.Laying.{is_laid, laid_tree}
use Rattle.pending_files.proofs.RoomLeft.{cut_pending, put_pending, put_room}
use Rattle.pending_files.proofs.Written.{put_bytes}
use Rattle.content_laws.specs.Rewriting.{Rewriting, place_of_chunk, put_chunks, CanPutChunk, CanPutChunks, CanPut}
use Rattle.content_laws.proofs.Putting.{length-overwritten}
use Rattle.write_back.specs.Deeds.{longer, chunks_in, puts_or_cut, rewriting_in, RewritesLaid}

-- ---- one change more

-- what waits can be done on a disk, and leaves the file with these bytes and all else as another disk has it
record IsLaid (base d : Disk) (path : Path) (bytes : List ℕ) (ds : List PlainDeed) : Type 0 where
  can : CanWait ds d
  here : node_at (laid ds d) path ≡ Some (file bytes)
  others : (q : Path) → q ≢ path → node_at (laid ds d) q ≡ node_at base q

one_more : (base d : Disk) (path : Path) (was bytes : List ℕ) (ds new : List PlainDeed) → IsLaid base d path was ds → ArePending new
    → (next : Disk) × DoesAll (in_order new) d next × IsChangedTo path bytes (laid ds d) next → IsLaid base d path bytes new
one_more base d path was bytes ds new laid_on are changed =
    let same : changed.0 ≡ laid new d = is_laid new d changed.0 are changed.1 in
    let is : IsChangedTo path bytes (laid ds d) (laid new d) = subst (IsChangedTo path bytes (laid ds d)) same changed.2 in
    record {
      can = record { pending = are; does = subst (DoesAll (in_order new) d) same changed.1 };
      here = is.here;
      others = λ q ne. is.others q ne ∙ laid_on.others q ne;
    }

one_cut : (base d : Disk) (path : Path) (bytes : List ℕ) (size : ℕ) (ds : List PlainDeed) → IsLaid base d path bytes ds → HasRoom ds path 0 → size < 2 ^ 64 → size ≤ length bytes
    → IsLaid base d path (take size bytes) (cut_in path size ds)
one_cut base d path bytes size ds laid_on room fits short =
    let are = cut_pending path size ds laid_on.can.pending room fits in
    one_more base d path bytes (take size bytes) ds (cut_in path size ds) laid_on are
    (cut_later ds d (laid ds d) path bytes size laid_on.can.pending are laid_on.can.does laid_on.here short)

one_put : (base d : Disk) (path : Path) (bytes : List ℕ) (size at : ℕ) (sealed : List ℕ) (ds : List PlainDeed) → IsLaid base d path bytes ds → HasRoom ds path 1 → size < 2 ^ 64
    → IsPlace at → length sealed ≤ 32796 → at ≤ length bytes → at + length sealed ≤ size → size ≤ max (length bytes) (at + length sealed) → IsWhole size at sealed
    → IsLaid base d path (take size (overwritten bytes at sealed)) (put_in path size at sealed ds)
one_put base d path bytes size at sealed ds laid_on room fits place short here ends no_gap whole =
    let are = put_pending path size at sealed ds laid_on.can.pending room fits place short ends in
    one_more base d path bytes (take size (overwritten bytes at sealed)) ds (put_in path size at sealed ds) laid_on are
    (put_later ds d (laid ds d) path bytes size at sealed laid_on.can.pending are laid_on.can.does laid_on.here place short here ends no_gap whole)

-- ---- a chunk put into a front of the bytes

-- the first so many bytes are the same
abbrev HaveFront : ℕ → List ℕ → List ℕ → Type 0
HaveFront size a b = take size a ≡ take size b

fronts_long : (size : ℕ) (a b : List ℕ) → HaveFront size a b → min size (length a) ≡ min size (length b)
fronts_long size a b same = omega (arith, ap length same, length-take size a, length-take size b)

shorter_front : (n size : ℕ) (a b : List ℕ) → n ≤ size → HaveFront size a b → HaveFront n a b
shorter_front n size a b le same = sym (take-take n size a le) ∙ ap (take n) same ∙ take-take n size b le

whole_front : (size n : ℕ) (a : List ℕ) → n ≡ min size (length a) → take n a ≡ take size a
whole_front size n a is = elim (cases_lt size (length a)) [
  | inl lt ↦ let same : n ≡ size = omega arith in ap (λ (k : ℕ). take k a) same
  | inr ge ↦ take_all n a (omega arith) ∙ sym (take_all size a ge)
]

-- what it leaves of the front is the front of what it leaves of all
put_front : (size index : ℕ) (s front all : List ℕ) → HaveFront size front all → CanPutChunk size (length all) index s
    → HaveFront size (take (min size (longer (length all) index s)) (overwritten front (place_of_chunk index) s)) (overwritten all (place_of_chunk index) s)
put_front size index s front all same this =
    let at : ℕ = place_of_chunk index in
    let after : ℕ = min size (longer (length all) index s) in
    let long : length (overwritten all at s) ≡ longer (length all) index s = length-overwritten all at s this.begins in
    let fronts = fronts_long size front all same in
    let put = put_bytes after at (length all) s front all (shorter_front after size front all (omega arith) same) (omega arith) this.begins (omega (arith, this.ends)) (omega arith)
    (λ le. omega (arith, le, fronts)) in
    take_all size (take after (overwritten front at s)) (omega (arith, length-take after (overwritten front at s)))
    ∙ put.2 ∙ ap (λ (l : List ℕ). take after (overwritten l at s)) (take_all (length all) all (omega arith))
    ∙ whole_front size after (overwritten all at s) (omega (arith, long))

-- ---- all of them

one_room : (ds : List PlainDeed) (path : Path) (n : ℕ) → HasRoom ds path (suc n) → HasRoom ds path 1
one_room ds path n room = record { inside = room.inside; fits = omega (arith, room.fits); files = room.files }

last_room : (ds : List PlainDeed) (path : Path) (n : ℕ) → HasRoom ds path (suc n) → HasRoom ds path (n + 1)
last_room ds path n room = record { inside = room.inside; fits = omega (arith, room.fits); files = room.files }

module _ (base d : Disk) (path : Path) (size : ℕ) (fits : size < 2 ^ 64) where
  all_put : (sealed : List (List ℕ)) (first : ℕ) (front all : List ℕ) (ds : List PlainDeed) → IsLaid base d path front ds → HasRoom ds path (length sealed)
      → HaveFront size front all → (sealed ≡ [] → length front ≤ size) → CanPutChunks size (length all) first sealed
      → IsLaid base d path (take size (put_chunks all first sealed)) (chunks_in path size (length all) first sealed ds)
  all_put [] first front all ds laid_on room same short can =
      subst (λ (l : List ℕ). IsLaid base d path l ds) (sym (take_all size front (short refl)) ∙ same) laid_on
  all_put (s ∷ more) first front all ds laid_on room same short can =
      let at : ℕ = place_of_chunk first in
      let len : ℕ = longer (length all) first s in
      let after : ℕ = min size len in
      let this : CanPutChunk size (length all) first s = can.0 in
      let long : length (overwritten all at s) ≡ len = length-overwritten all at s this.begins in
      let fronts = fronts_long size front all same in
      let whole : IsWhole after at s = elim this.whole [ inl full ↦ inl full | inr last ↦ inr (omega (arith, last)) ] in
      let put : IsLaid base d path (take after (overwritten front at s)) (put_in path after at s ds) =
      one_put base d path front after at s ds laid_on (one_room ds path (length more) room) (omega (arith, fits)) (first, refl) this.short
      (omega (arith, this.begins, this.ends, fronts)) (omega (arith, this.ends)) (omega (arith, this.ends, fronts)) whole in
      subst (λ (n : ℕ). IsLaid base d path (take size (put_chunks (overwritten all at s) (first + 1) more)) (chunks_in path size n (first + 1) more (put_in path after at s ds))) long
      (all_put more (first + 1) (take after (overwritten front at s)) (overwritten all at s) (put_in path after at s ds) put
      (put_room path after at s ds laid_on.can.pending (length more) (last_room ds path (length more) room))
      (put_front size first s front all same this)
      (λ none. omega (arith, length-take after (overwritten front at s)))
      (subst (λ (n : ℕ). CanPutChunks size n (first + 1) more) (sym long) can.1))

  put_or_cut : (sealed : List (List ℕ)) (first : ℕ) (bytes : List ℕ) (ds : List PlainDeed) → IsLaid base d path bytes ds → HasRoom ds path (length sealed)
      → CanPutChunks size (length bytes) first sealed → IsLaid base d path (take size (put_chunks bytes first sealed)) (puts_or_cut path size (length bytes) first sealed ds)
  put_or_cut [] first bytes ds laid_on room can = one_cut base d path bytes size ds laid_on room fits can
  put_or_cut (s ∷ more) first bytes ds laid_on room can = all_put (s ∷ more) first bytes bytes ds laid_on room refl (λ none. absurd cc) can

pub rewrites_laid : (ds : List PlainDeed) (d : Disk) (path : Path) (bytes : List ℕ) (r : Rewriting) → CanWait ds d → IsTree d → IsInside path
    → node_at (laid ds d) path ≡ Some (file bytes) → CanPut bytes r → HasRoom ds path (length r.sealed) → r.size < 2 ^ 64 → RewritesLaid ds d path bytes r
rewrites_laid ds d path bytes r can tree inside there puts room fits =
    let start : IsLaid (laid ds d) d path bytes ds = record { can = can; here = there; others = λ q ne. refl } in
    let end = put_or_cut (laid ds d) d path r.size fits r.sealed r.first bytes ds start room puts in
    record {
      waits = end.can;
      is = record { tree = laid_tree (rewriting_in path (length bytes) r ds) d end.can tree; file = end.here; others = end.others };
    }
