-- What waits with a change more, and the room that is left.
use Rattle.std.proofs.Common.{ℕ, ◌+◌, ◌≤◌, ◌<◌, ◌^◌, List, [], ◌∷◌, ◌++◌, length, sym, ◌∙◌, arith}
use Rattle.outside.specs.Disk.{Path}
use Rattle.deeds.specs.Reshape.{Ranges}
use Rattle.deeds.specs.Deeds.{PlainDeed, Reshapes}
use Rattle.pending_files.specs.Pending.{without, ranges_of, cut_to, with_chunk, cut_in, put_in, IsPlace, ArePending, HasRoom}
use Rattle.pending_files.proofs.Files.{count_without, count_pushed, few_without, ranges_are, pending_with}
use Rattle.pending_files.proofs.Ranges.{cut_short, cut_chunks, chunks_with, with_short}
use Rattle.pending_files.proofs.Later.{file_changed, none_some}

-- a file's new deed, with so many chunks more than its earlier one
more_room : (path : Path) (len more : ℕ) (rs : Ranges) (ds : List PlainDeed) → ArePending ds → length rs ≤ length (ranges_of path ds) + more
    → (chunks : ℕ) → HasRoom ds path (chunks + more) → HasRoom (without path ds ++ Reshapes path len rs ∷ []) path chunks
more_room path len more rs ds are few chunks room = record {
  inside = room.inside;
  fits = omega (arith, room.fits, few, count_without path ds, count_pushed (without path ds) (Reshapes path len rs));
  files = λ none. absurd (none_some (sym none ∙ file_changed path len rs ds are));
}

pub cut_room : (path : Path) (len : ℕ) (ds : List PlainDeed) → ArePending ds → (chunks : ℕ) → HasRoom ds path chunks → HasRoom (cut_in path len ds) path chunks
cut_room path len ds are chunks room =
    more_room path len 0 (cut_to len (ranges_of path ds)) ds are (omega (arith, cut_short len (ranges_of path ds))) chunks
    (record { inside = room.inside; fits = omega (arith, room.fits); files = room.files })

pub put_room : (path : Path) (size at : ℕ) (sealed : List ℕ) (ds : List PlainDeed) → ArePending ds → (chunks : ℕ) → HasRoom ds path (chunks + 1) → HasRoom (put_in path size at sealed ds) path chunks
put_room path size at sealed ds are chunks room =
    more_room path size 1 (with_chunk at sealed (cut_to size (ranges_of path ds))) ds are (omega (arith, cut_short size (ranges_of path ds), with_short at sealed (cut_to size (ranges_of path ds)))) chunks room

pub cut_pending : (path : Path) (len : ℕ) (ds : List PlainDeed) → ArePending ds → HasRoom ds path 0 → len < 2 ^ 64 → ArePending (cut_in path len ds)
cut_pending path len ds are room fits =
    let chunks = ranges_are path ds are.each in
    pending_with path len (cut_to len (ranges_of path ds)) ds are
    (record { inside = room.inside; fits = fits; chunks = cut_chunks 0 chunks.0 len (ranges_of path ds) chunks.1 })
    (few_without path ds are.few_files room.files) (omega (arith, room.fits, count_without path ds, cut_short len (ranges_of path ds)))

pub put_pending : (path : Path) (size at : ℕ) (sealed : List ℕ) (ds : List PlainDeed) → ArePending ds → HasRoom ds path 1 → size < 2 ^ 64 → IsPlace at → length sealed ≤ 32796 → at + length sealed ≤ size
    → ArePending (put_in path size at sealed ds)
put_pending path size at sealed ds are room fits place short ends =
    let chunks = ranges_are path ds are.each in
    let cut = cut_to size (ranges_of path ds) in
    pending_with path size (with_chunk at sealed cut) ds are
    (record { inside = room.inside; fits = fits; chunks = chunks_with 0 size at sealed cut (cut_chunks 0 chunks.0 size (ranges_of path ds) chunks.1) (omega arith) place short ends })
    (few_without path ds are.few_files room.files)
    (omega (arith, room.fits, count_without path ds, cut_short size (ranges_of path ds), with_short at sealed cut))
