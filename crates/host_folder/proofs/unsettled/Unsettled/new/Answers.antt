use Rattle.host_folder.proofs.Unsettling.{told_begun}
use Rattle.host_folder.proofs.unsettled.Unsettled.new.Goals as goal

pub invariant_of-result : goal.invariant_of-result
invariant_of-result g c = (
  c.in_ok-host.ensures.unsettled,
  c.in_ok-host.ensures.tells,
  told_begun g.H.HostCalls.story g.H.HostCalls.top c.in_ok-host.host c.args.host c.args.path.now c.in_ok-host.ensures.host c.in_ok-host.ensures.texts c.requires.top c.requires.begun,
)

pub returns : goal.returns
returns g c = λ i. record { host = c.in_ok-host.ensures.host i; base = c.in_ok-host.ensures.texts.0 i; faults = 0 }
