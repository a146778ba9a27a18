use Rattle.std.proofs.Common.{◌≡◌, ℕ, ◌*◌, List, length, Some}
use Rattle.outside.specs.Calls.{Told}
use Rattle.outside.specs.Images.{disk_in}
use Rattle.tree_model.specs.Rows.{slice_of}
use Rattle.file_chunks.specs.File.{content_of}
use Rattle.content_reader.specs.Reading.{IsFileOf}
use Rattle.demonstration.proofs.contents.read_whole.Given as goal

-- the bytes so far are those of the slices before this one
abbrev pub invariant-loop-index : goal.invariant-loop-index
invariant-loop-index g l = record {
  log : g.R.Reads.log l.folder ≡ g.R.Reads.log l.fn.folder;
  room : length l.piece.items ≡ 65536;
  many : length l.bytes.items ≡ l.index * 65536;
  bytes : Told (disk_in (g.R.Reads.log l.fn.folder)) (λ d. (sealed : List ℕ) → IsFileOf d l.file.path l.file.size sealed
      → slice_of (content_of l.keys sealed) 0 (l.index * 65536) ≡ Some l.bytes.items);
}
