use Rattle.std.proofs.Common.{arith}
use Rattle.model_step.proofs.Putting.{place_equal, place_less}
use Rattle.model_step.proofs.listing.place_of.Goals as goal

pub returns-in-Less : goal.returns-in-Less
returns-in-Less c =
    place_less c.args.entries.now c.args.name.now c.loop-index.index c.index-entries-index.result c.as_slice.result.now (omega arith) c.index-entries-index.is c.as_slice.ensures.value c.loop-index.invariant c.in-Less.ensures

pub returns-in-Equal : goal.returns-in-Equal
returns-in-Equal c =
    place_equal c.args.entries.now c.args.name.now c.loop-index.index c.index-entries-index.result c.as_slice.result.now (omega arith) c.index-entries-index.is c.as_slice.ensures.value c.loop-index.invariant c.in-Equal.ensures
