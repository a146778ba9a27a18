use Rattle.host_folder.specs.Behind.{IsKept}
use Rattle.host_folder.proofs.Unsettling.{told_none}
use Rattle.host_folder.proofs.folder.HostFolder.untold.Goals as goal

pub invariant_of-result : goal.invariant_of-result
invariant_of-result g c =
    told_none c.in_ok-host.host.tells (g.H.HostCalls.story c.in_ok-host.host.host) (IsKept g.H.HostCalls.top c.in_ok-host.host) c.in_ok-host.ensures.tells

pub returns : goal.returns
returns g c = λ i. record {
  host = c.in_ok-host.ensures.host i;
  base = c.in_ok-host.ensures.texts.0 i;
  touched = c.in_ok-host.ensures.unsettled.touched i;
  failed = c.in_ok-host.ensures.unsettled.failed i;
  tells = c.in_ok-host.ensures.tells i;
  faults = 0;
  changes = 0;
}
