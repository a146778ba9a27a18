use Rattle.file_chunks.proofs.Contents.{bad_content, good_content, length-content, slice_empty, length-sealed_chunk, slice_closed, slice_damaged, slice_opened, slices_joined}
use Rattle.file_chunks.proofs.KeptLengths.{keeps_length}
use Rattle.file_chunks.proofs.slices.reads_are_slices.Goals as goal

pub returns : goal.returns
returns c = record {
  keeps = keeps_length;
  bad = bad_content;
  good = good_content;
  len = length-content;
  empty = slice_empty;
  sealed = length-sealed_chunk;
  closed = slice_closed;
  damaged = slice_damaged;
  opened = slice_opened;
  joined = slices_joined;
}
