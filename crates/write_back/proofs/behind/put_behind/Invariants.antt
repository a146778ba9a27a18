use Rattle.std.proofs.Common.{◌≡◌}
use Rattle.std.specs.Slice.Iter.{chunks_rest, chunks_size}
use Rattle.write_back.proofs.Chunkwise.{IsBehindSoFar}
use Rattle.write_back.proofs.behind.put_behind.Given as goal

abbrev pub invariant-loop-index : goal.invariant-loop-index
invariant-loop-index l =
    (chunks_size l.index-iterator.iter ≡ 32796)
    × IsBehindSoFar l.path l.change.size l.change.first l.len l.change.sealed.now l.fn.pending (chunks_rest l.index-iterator.iter) l.index-iterator.count l.reached l.pending
