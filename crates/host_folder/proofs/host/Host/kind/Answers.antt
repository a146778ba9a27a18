use Rattle.std.proofs.Common.{◌≡◌}
use Rattle.outside.specs.Disk.{kind_at}
use Rattle.host_calls.specs.Calls.{IsFound}
use Rattle.host_folder.proofs.Seen.{seen_kind, log_looked}
use Rattle.host_folder.proofs.host.Host.kind.Goals as goal

pub returns-clause-kind : goal.returns-clause-kind
returns-clause-kind g c =
    log_looked g.H.HostCalls.story g.H.HostCalls.top c.args.self.now c.find_inside.new.self (λ s. IsFound c.in_ok-find_inside.field-0 s c.args.path.now)
    (λ d. c.kind_of.result ≡ kind_at d c.args.path.now) c.find_inside.ensures.looked c.requires c.in_ok-find_inside.ensures.found
    (λ s at. seen_kind c.in_ok-find_inside.field-0 c.kind_of.result s c.args.path.now c.kind_of.ensures.dir c.kind_of.ensures.file c.kind_of.ensures.absent at)
