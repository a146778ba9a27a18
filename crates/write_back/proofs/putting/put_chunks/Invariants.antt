use Rattle.std.proofs.Common.{◌≡◌}
use Rattle.std.specs.Slice.Iter.{chunks_rest, chunks_size}
use Rattle.write_back.specs.Sealed.{rewriting_of}
use Rattle.write_back.proofs.WaitingChunks.{IsPutSoFar}
use Rattle.write_back.proofs.putting.put_chunks.Given as goal

abbrev pub invariant-loop-index : goal.invariant-loop-index
invariant-loop-index l =
    (chunks_size l.index-iterator.iter ≡ 32796)
    × IsPutSoFar l.path l.change.size l.change.first (rewriting_of l.change).sealed (chunks_rest l.index-iterator.iter) l.index-iterator.count l.pending
