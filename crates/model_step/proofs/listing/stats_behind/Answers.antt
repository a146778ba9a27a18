use Rattle.std.proofs.Common.{arith}
use Rattle.model_step.proofs.Fitting.{stats_more}
use Rattle.model_step.proofs.listing.stats_behind.Goals as goal

pub loop-entry-preserved : goal.loop-entry-preserved
loop-entry-preserved c = stats_more _ _ _ _ _ c.loop-entry.entry-index c.entry-item.result (omega arith) c.entry-item.is c.in_ok-put_stat.ensures c.loop-entry.invariant
