use Rattle.content_laws.proofs.Writing.{written-rewritten, written-none}
use Rattle.content_laws.proofs.changing.written_content.Goals as goal

pub returns : goal.returns
returns c = record {
  content = λ keys head n bytes at input plaintexts r file some write. written-rewritten keys head n bytes file at input plaintexts r some write;
  damaged = λ keys head n bytes at input index file met none. written-none keys head n bytes file at input index met none;
}
