use Rattle.content_reader.proofs.Spans.{few_chunks}
use Rattle.content_reader.proofs.fetching.few_chunks.Goals as goal

pub returns-clause-few : goal.returns-clause-few
returns-clause-few c = few_chunks c.args.at c.args.count c.span.result.0 c.span.result.1 c.requires.few c.span.ensures.first c.span.ensures.chunks
