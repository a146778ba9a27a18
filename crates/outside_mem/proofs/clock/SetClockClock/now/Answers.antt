use Rattle.outside_mem.proofs.Clocks.{stands}
use Rattle.outside_mem.proofs.clock.SetClockClock.now.Goals as goal

pub returns : goal.returns
returns c = rw (← c.self.view_is) (stands c.self.inside.second)
