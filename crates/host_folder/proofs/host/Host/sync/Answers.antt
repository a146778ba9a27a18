use Rattle.std.proofs.Common.{refl}
use Rattle.host_folder.specs.declared.host.Host.{Host}
use Rattle.host_folder.proofs.HostSteps.{kept_synced, log_synced}
use Rattle.host_folder.proofs.host.Host.sync.Goals as goal

pub returns-clause-kept : goal.returns-clause-kept
returns-clause-kept g c =
    let mid = c.flush_all.new.self in
    let new : Host g.row.H.Denot = record mid { host = c.synced.new.self } in
    let none = c.in_ok-flush_all.ensures.none in
    kept_synced g.H.HostCalls.story g.H.HostCalls.top mid new refl c.synced.ensures.top refl refl none.0 none.1 none.2 none.0 none.1 none.2 c.synced.ensures.noted c.flush_all.ensures.kept

pub returns-clause-synced : goal.returns-clause-synced
returns-clause-synced g c =
    let mid = c.flush_all.new.self in
    let new : Host g.row.H.Denot = record mid { host = c.synced.new.self } in
    log_synced g.H.HostCalls.story c.args.self.now mid new refl c.synced.ensures.noted c.flush_all.ensures.log
