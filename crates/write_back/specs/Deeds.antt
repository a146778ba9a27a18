-- The deed that does a change of a content file, and what it leaves on a disk.
use Rattle.std.specs.Prelude.{◌≡◌, ℕ, ◌+◌, ◌^◌, ◌<◌, ◌≤◌, min, max, List, [], ◌∷◌, length, Some}
use Rattle.outside.specs.Disk.{Disk, Path, node_at, file, IsTree}
use Rattle.deeds.specs.Reshape.{Ranges}
use Rattle.deeds.specs.Deeds.{PlainDeed, Reshapes, DoesAll, in_order}
use Rattle.deeds.specs.Grammar.{IsBatch}
use Rattle.deeds.specs.Repeatable.{IsRepeatable}
use Rattle.pending_files.specs.Pending.{IsInside, HasRoom, cut_in, put_in}
use Rattle.pending_files.specs.Laid.{laid, CanWait}
use Rattle.content_laws.specs.Rewriting.{Rewriting, place_of_chunk, CanPut, rewritten}
use Rattle.live_tree_laws.specs.Writing.{IsRewritten}

-- the chunks from an index on, each at its place of the host file
abbrev pub ranges_in : ℕ → List (List ℕ) → Ranges
ranges_in first [] = []
ranges_in first (sealed ∷ more) = (place_of_chunk first, sealed) ∷ ranges_in (first + 1) more

-- the host file is written in these chunks and cut, by one deed
abbrev pub deeds_of : Path → Rewriting → List PlainDeed
deeds_of path r = Reshapes path r.size (ranges_in r.first r.sealed) ∷ []

-- the deed of the change can be done on the disk, and again after a stop, and leaves the file with the rewritten bytes and all
-- else as it was
pub record Rewrites (d : Disk) (path : Path) (bytes : List ℕ) (r : Rewriting) : Type 0 where
  pub after : Disk
  pub does : DoesAll (in_order (deeds_of path r)) d after
  pub repeatable : IsRepeatable (deeds_of path r)
  pub batch : IsBatch (deeds_of path r)
  pub is : IsRewritten d after path (rewritten bytes r)

abbrev pub DeedsRewrite : Type 0
DeedsRewrite = (d : Disk) (path : Path) (bytes : List ℕ) (r : Rewriting) → IsTree d → IsInside path → node_at d path ≡ Some (file bytes) → CanPut bytes r
    → r.size < 2 ^ 64 → length r.sealed ≤ 64 → Rewrites d path bytes r

-- ---- after what waits already

-- how many bytes a file of `len` bytes has, once a chunk is put at the place of an index
abbrev pub longer : ℕ → ℕ → List ℕ → ℕ
longer len index sealed = max len (place_of_chunk index + length sealed)

-- The chunks from an index on are put after what waits, one after the other. With each of them the file has as many bytes as it
-- then needs, and no more than the size that it is to have.
abbrev pub chunks_in : Path → ℕ → ℕ → ℕ → List (List ℕ) → List PlainDeed → List PlainDeed
chunks_in path size len first [] deeds = deeds
chunks_in path size len first (sealed ∷ more) deeds =
    chunks_in path size (longer len first sealed) (first + 1) more (put_in path (min size (longer len first sealed)) (place_of_chunk first) sealed deeds)

-- without chunks the file is only cut
abbrev pub puts_or_cut : Path → ℕ → ℕ → ℕ → List (List ℕ) → List PlainDeed → List PlainDeed
puts_or_cut path size len first [] deeds = cut_in path size deeds
puts_or_cut path size len first (sealed ∷ more) deeds = chunks_in path size len first (sealed ∷ more) deeds

-- the change of a file that has `len` bytes once what waits is done, after what waits
abbrev pub rewriting_in : Path → ℕ → Rewriting → List PlainDeed → List PlainDeed
rewriting_in path len r deeds = puts_or_cut path r.size len r.first r.sealed deeds

-- the change can wait too, and then the file has the rewritten bytes in place of those that it would have had, and all else is
-- as it would have been
pub record RewritesLaid (deeds : List PlainDeed) (d : Disk) (path : Path) (bytes : List ℕ) (r : Rewriting) : Type 0 where
  pub waits : CanWait (rewriting_in path (length bytes) r deeds) d
  pub is : IsRewritten (laid deeds d) (laid (rewriting_in path (length bytes) r deeds) d) path (rewritten bytes r)

abbrev pub WaitingRewrites : Type 0
WaitingRewrites = (deeds : List PlainDeed) (d : Disk) (path : Path) (bytes : List ℕ) (r : Rewriting) → CanWait deeds d → IsTree d → IsInside path
    → node_at (laid deeds d) path ≡ Some (file bytes) → CanPut bytes r → HasRoom deeds path (length r.sealed) → r.size < 2 ^ 64
    → RewritesLaid deeds d path bytes r
