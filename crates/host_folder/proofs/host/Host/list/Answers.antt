use Rattle.outside.specs.Disk.{IsFolder}
use Rattle.host_calls.specs.Calls.{IsFound}
use Rattle.host_folder.proofs.Seen.{not_folder, seen_no_folder, log_looked}
use Rattle.host_folder.proofs.host.Host.list.Goals as goal

pub returns-in-Nothing-clause-unfit : goal.returns-in-Nothing-clause-unfit
returns-in-Nothing-clause-unfit g c = λ unfit.
    log_looked g.H.HostCalls.story g.H.HostCalls.top c.args.self.now c.find.new.self (λ s. IsFound c.in_ok-find.field-0 s c.args.path.now)
    (λ d. IsFolder d c.args.path.now → ⊥) c.find.ensures.looked c.requires c.in_ok-find.ensures.found
    (λ s at. seen_no_folder c.in_ok-find.field-0 s c.args.path.now (not_folder c.in_ok-find.field-0 c.in-Nothing.is) at)
