use Rattle.content_laws.proofs.Parts.{patched-opened, patched-behind, patched-replaced, patched-damaged}
use Rattle.content_laws.proofs.chunks.written_chunk.Goals as goal

pub returns : goal.returns
returns c = record {
  opened = λ keys head n bytes at input index plaintext file inside opens. patched-opened keys head n bytes file at input index plaintext inside opens;
  behind = λ keys head n bytes at input index file past. patched-behind keys head n bytes file at input index past;
  replaced = λ keys head n bytes at input index file from over. patched-replaced keys head n bytes file at input index from over;
  damaged = λ keys head n bytes at input index file inside none kept. patched-damaged keys head n bytes file at input index inside none kept;
}
