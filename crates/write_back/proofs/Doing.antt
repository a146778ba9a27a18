-- The deed of a change, done on a disk.
use Rattle.std.proofs.Common.{◌≡◌, ℕ, ◌+◌, ◌≤◌, ◌<◌, ◌^◌, max, List, [], ◌∷◌, length, take, Some, refl, sym, ap, ◌∙◌, subst, inr, arith}
use Rattle.outside.specs.Disk.{Disk, Path, node_at, file, IsTree}
use Rattle.outside.specs.Changes.{overwritten, in_file}
use Rattle.outside.proofs.Paths.{set_here, set_there}
use Rattle.deeds.specs.Reshape.{Ranges, written, CanWrite}
use Rattle.deeds.specs.Deeds.{PlainDeed, Reshapes, DoesAll, done_deed, reshaped}
use Rattle.deeds.proofs.Amid.{tree_run}
use Rattle.pending_files.specs.Pending.{IsInside, AreChunks, ArePending}
use Rattle.pending_files.proofs.Batched.{is_batch, is_repeatable}
use Rattle.content_laws.specs.Rewriting.{Rewriting, place_of_chunk, put_chunks, CanPutChunks, CanPut}
use Rattle.content_laws.proofs.Putting.{length-overwritten, long_enough}
use Rattle.write_back.specs.Deeds.{ranges_in, deeds_of, Rewrites}
use Rattle.write_back.proofs.WaitingChunks.{ends_within, ranges_long}

-- the ranges are chunks that can wait
are_chunks : (from size : ℕ) (sealed : List (List ℕ)) (first len : ℕ) → from ≤ place_of_chunk first → CanPutChunks size len first sealed → AreChunks from size (ranges_in first sealed)
are_chunks from size [] first len low can = tt
are_chunks from size (s ∷ more) first len low can =
    (low, (first, refl), can.0.short, can.0.ends, are_chunks (place_of_chunk first + 32796) size more (first + 1) (max len (place_of_chunk first + length s)) (omega arith) can.1)

are_pending : (path : Path) (bytes : List ℕ) (r : Rewriting) → IsInside path → CanPut bytes r → r.size < 2 ^ 64 → length r.sealed ≤ 64 → ArePending (deeds_of path r)
are_pending path bytes r inside can fits few = record {
  each = (record { inside = inside; fits = fits; chunks = are_chunks 0 r.size r.sealed r.first (length bytes) (omega arith) can }, tt);
  apart = (tt, tt);
  few_files = omega arith;
  few_chunks = omega (arith, ranges_long r.first r.sealed, few);
}

-- writing the ranges is putting the chunks
written_put : (sealed : List (List ℕ)) (first : ℕ) (bytes : List ℕ) → written (ranges_in first sealed) bytes ≡ put_chunks bytes first sealed
written_put [] first bytes = refl
written_put (s ∷ more) first bytes = written_put more (first + 1) (overwritten bytes (place_of_chunk first) s)

can_write : (size : ℕ) (sealed : List (List ℕ)) (first : ℕ) (bytes : List ℕ) → CanPutChunks size (length bytes) first sealed → CanWrite (ranges_in first sealed) bytes
can_write size [] first bytes can = tt
can_write size (s ∷ more) first bytes can =
    let after = overwritten bytes (place_of_chunk first) s in
    let long = length-overwritten bytes (place_of_chunk first) s can.0.begins in
    (can.0.begins, can_write size more (first + 1) after (subst (λ (n : ℕ). CanPutChunks size n (first + 1) more) (sym long) can.1))

pub deed_rewrites : (d : Disk) (path : Path) (bytes : List ℕ) (r : Rewriting) → IsTree d → IsInside path → node_at d path ≡ Some (file bytes) → CanPut bytes r → r.size < 2 ^ 64 → length r.sealed ≤ 64
    → Rewrites d path bytes r
deed_rewrites d path bytes r tree inside there can fits few =
    let ranges : Ranges = ranges_in r.first r.sealed in
    let deed : PlainDeed = Reshapes path r.size ranges in
    let after : Disk = done_deed deed d in
    let pending : ArePending (deeds_of path r) = are_pending path bytes r inside can fits few in
    let put : written ranges bytes ≡ put_chunks bytes r.first r.sealed = written_put r.sealed r.first bytes in
    let long : r.size ≤ length (written ranges bytes) = omega (arith, ap length put, long_enough r.size r.sealed r.first bytes can) in
    let does : DoesAll (deed ∷ []) d after = (after, inr ((bytes, there, ends_within r.size r.sealed r.first (length bytes) can, can_write r.size r.sealed r.first bytes can, long), refl), refl) in
    record {
      after = after;
      does = does;
      repeatable = is_repeatable (deeds_of path r) pending;
      batch = is_batch (deeds_of path r) pending;
      is = record {
        tree = tree_run (deed ∷ []) d after tree does;
        file = set_here d path (in_file (reshaped r.size ranges) (node_at d path)) path refl ∙ ap (in_file (reshaped r.size ranges)) there ∙ ap (λ (l : List ℕ). Some (file (take r.size l))) put;
        others = λ q ne. set_there d path (in_file (reshaped r.size ranges) (node_at d path)) q ne;
      };
    }
