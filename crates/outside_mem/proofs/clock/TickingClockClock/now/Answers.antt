use Rattle.std.proofs.Common.{rules}
use Rattle.outside_mem.proofs.Clocks.{ticks}
use Rattle.outside_mem.proofs.clock.TickingClockClock.now.Goals as goal

pub returns : goal.returns
returns c = rw (← c.self.view_is) (ticks c.self.inside.second c.saturating_add-self-inside.result (search rules) c.saturating_add-self-inside.ensures)
