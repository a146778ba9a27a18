use Rattle.content_laws.proofs.Parts.{cut-opened, cut-damaged}
use Rattle.content_laws.proofs.chunks.cut_chunk.Goals as goal

pub returns : goal.returns
returns c = record {
  opened = λ keys head n bytes m plaintext file shorter within opens. cut-opened keys head n bytes file m shorter within plaintext opens;
  damaged = λ keys head n bytes m file shorter within none. cut-damaged keys head n bytes file m shorter within none;
}
