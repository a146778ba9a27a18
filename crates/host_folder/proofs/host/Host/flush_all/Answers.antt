use Rattle.std.proofs.Common.{true, List, refl, subst, string_bytes}
use Rattle.outside.specs.Calls.{Changes}
use Rattle.outside.specs.Disk.{Path}
use Rattle.host_folder.specs.Held.{HaveCome}
use Rattle.host_folder.specs.Ready.{IfReady}
use Rattle.host_folder.specs.declared.host.Host.{Host}
use Rattle.host_folder.proofs.HostSteps.{HasFlushes, kept_failed, kept_settled}
use Rattle.host_folder.proofs.host.Host.flush_all.Goals as goal

pub returns-in-Err-clause-kept : goal.returns-in-Err-clause-kept
returns-in-Err-clause-kept g c =
    let new : Host g.row.H.Denot = record c.args.self.now { host = c.flush_each.new.host; paths = c.flush_each.new.paths; flush_failed = true } in
    let flushed : HasFlushes g.H.HostCalls.story g.H.HostCalls.top c.args.self.now new =
    record { later = c.flush_each.ensures.later; top = c.flush_each.ensures.top; base = c.flush_each.ensures.base; target = refl; tells = refl } in
    kept_failed g.H.HostCalls.story g.H.HostCalls.top c.args.self.now new flushed refl refl refl c.requires

pub returns-clause-kept : goal.returns-clause-kept
returns-clause-kept g c =
    let old = c.args.self.now in
    let new : Host g.row.H.Denot = record c.args.self.now { host = c.flush_each.new.host; paths = c.flush_each.new.paths; touched = c.clear.new.self; moved = c.clear-2.new.self } in
    let flushed : HasFlushes g.H.HostCalls.story g.H.HostCalls.top old new =
    record { later = c.flush_each.ensures.later; top = c.flush_each.ensures.top; base = c.flush_each.ensures.base; target = refl; tells = refl } in
    kept_settled g.H.HostCalls.story g.H.HostCalls.top old new flushed
    (subst (λ (l : List Path). Changes (g.H.HostCalls.story old.host) (g.H.HostCalls.story c.flush_each.new.host) (IfReady (string_bytes old.paths.base) (g.H.HostCalls.top old.host) (HaveCome l)))
    c.paths.ensures c.in_default.ensures.come)
    c.if-self.false c.clear.ensures c.clear-2.ensures c.if-self.false c.requires
