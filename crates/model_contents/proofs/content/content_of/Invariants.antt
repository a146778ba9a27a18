use Rattle.std.proofs.Common.{◌≡◌, map}
use Rattle.std.specs.List.{range_with_len}
use Rattle.std.specs.Option.{option_map}
use Rattle.file_chunks.specs.File.{cell_of, sealed_at}
use Rattle.model_contents.specs.Seen.{cell_seen, head_seen}
use Rattle.model_contents.proofs.content.content_of.Given as goal

-- the first i chunks are there
abbrev pub invariant-loop-i : goal.invariant-loop-i
invariant-loop-i l =
    map cell_seen l.cells.items ≡ map (λ i. cell_of (option_map head_seen l.head) i (sealed_at l.bytes i)) (range_with_len 0 l.i)
