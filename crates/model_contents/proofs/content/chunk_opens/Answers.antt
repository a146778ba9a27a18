use Rattle.std.proofs.Common.{◌≡◌, ◌-◌, length, drop, false, ltb, arith}
use Rattle.file_chunks.proofs.Envelopes.{long_enough}
use Rattle.file_chunks.specs.Chunk.{chunk_opens}
use Rattle.model_contents.proofs.Openings.{tag_behind}
use Rattle.model_contents.proofs.content.chunk_opens.Goals as goal

pub returns : goal.returns
unfolding chunk_opens
returns c =
    let sealed = c.args.sealed.now in
    let enough : ltb (length sealed) 28 ≡ false = long_enough (length sealed) (omega arith) in
    let tag : c.array_at-2.result ≡ drop (length sealed - 16) sealed = tag_behind sealed c.array_at-2.result (length sealed - 16) (omega arith) c.array_at-2.ensures in
    let cut : length sealed - 16 - 12 ≡ length sealed - 28 = omega arith in
    rw (enough, ← tag, ← cut, ← c.associated_data.ensures, ← c.array_at.ensures) c.gcm_opened.ensures
