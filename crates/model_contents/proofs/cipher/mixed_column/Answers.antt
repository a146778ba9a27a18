use Rattle.std.proofs.Common.{rules}
use Rattle.model_contents.proofs.CipherArrays.{from_fn-is}
use Rattle.model_contents.proofs.FieldLemmas.{mixed-is, row_of}
use Rattle.model_contents.proofs.cipher.mixed_column.Goals as goal

pub returns : goal.returns
returns c = mixed-is c.args.column c.from_fn.result (from_fn-is (row_of c.args.column) c.from_fn.ensures.items (λ i y q h called. search rules))
