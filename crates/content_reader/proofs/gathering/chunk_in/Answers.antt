use Rattle.std.proofs.Common.{◌*◌}
use Rattle.content_reader.proofs.Spans.{part_to_end}
use Rattle.content_reader.proofs.gathering.chunk_in.Goals as goal

pub returns : goal.returns
returns c = part_to_end (32796 * c.args.index) 32796 c.min-start.result c.min-end.result c.args.sealed.now c.min-start.ensures c.min-end.ensures
