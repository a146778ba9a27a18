use Rattle.content_laws.proofs.Resizing.{cut-at_border, cut-within, cut-none, grown-is}
use Rattle.content_laws.proofs.changing.resized_content.Goals as goal

pub returns : goal.returns
returns c = record {
  border = λ keys head n bytes m file shorter border. cut-at_border keys head n bytes file m shorter border;
  within = λ keys head n bytes m sealed plaintext file shorter inside clear is_sealed. cut-within keys head n bytes file m sealed plaintext shorter inside clear is_sealed;
  damaged = λ keys head n bytes m file shorter inside none. cut-none keys head n bytes file m shorter inside none;
  grown = λ keys head n bytes m file longer. grown-is keys head n bytes file m longer;
}
