use Rattle.std.proofs.Common.{subst, sym}
use Rattle.host_calls.specs.Volume.{Names}
use Rattle.mem_host.specs.Filing.{Filing}
use Rattle.mem_host.specs.Entries.{bare}
use Rattle.mem_host.specs.Holding.{CanHold}
use Rattle.mem_host.proofs.Keeping.{can_hold_bare}
use Rattle.mem_host.proofs.host.MemHost.new.Goals as goal

pub holding-requires-clause-fits : goal.holding-requires-clause-fits
holding-requires-clause-fits c =
    subst (λ (n : Names). CanHold n c.new.result) (sym c.in_ok-bare.ensures)
    (subst (λ (f : Filing). CanHold bare f) (sym c.new.ensures) can_hold_bare)
