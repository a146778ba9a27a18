use Rattle.std.proofs.Common.{arith}
use Rattle.file_chunks.proofs.Spans.{met_by}
use Rattle.file_chunks.proofs.size.span.Goals as goal

pub returns-clause-chunks : goal.returns-clause-chunks
returns-clause-chunks c = λ k. met_by c.args.at c.args.count k (omega arith)
