use Rattle.std.proofs.Common.{drop, string_bytes}
use Rattle.outside.proofs.Told.{changed_by}
use Rattle.host_folder.specs.Held.{IsSure, HasCome, HaveCome}
use Rattle.host_folder.specs.Ready.{IfReady}
use Rattle.host_folder.proofs.FlushSteps.{IsFlushing, later_through, begins_flushing, flushing_then, sure_more, sure_end}
use Rattle.host_folder.proofs.flushing.flush_each.Goals as goal

pub loop-path-init : goal.loop-path-init
loop-path-init g c =
    begins_flushing (string_bytes c.args.paths.now.base) (g.H.HostCalls.top c.args.host.now) (g.H.HostCalls.story c.args.host.now)
    (λ s t. IsSure s c.args.touched.now → IsSure t (drop 0 c.args.touched.now)) (λ s ready sure. sure)

pub loop-path-preserved : goal.loop-path-preserved
loop-path-preserved g c =
    let story = g.H.HostCalls.story in
    let top = g.H.HostCalls.top in
    let old = c.loop-path.host in
    let new = c.flush_path.new.host in
    let path = c.path-item.result in
    let next : IsFlushing (string_bytes c.loop-path.paths.base) (top old) (string_bytes c.flush_path.new.paths.base) (top new) (story old)
    (story new) (HasCome path) = record {
      base = c.flush_path.ensures.base;
      top = c.flush_path.ensures.top;
      later = c.flush_path.ensures.later;
      come = c.in_ok-flush_path.ensures.come;
    } in
    flushing_then c.loop-path.invariant next
    (λ s t u so_far come sure.
    sure_more t u c.args.touched.now c.loop-path.path-index path c.loop-path-test.true c.path-item.is come (so_far sure))

pub returns-clause-come : goal.returns-clause-come
returns-clause-come g c =
    let base = string_bytes c.args.paths.now.base in
    let top = g.H.HostCalls.top c.args.host.now in
    changed_by (g.H.HostCalls.story c.args.host.now) (g.H.HostCalls.story c.loop-path.host)
    (IfReady base top (λ s t. IsSure s c.args.touched.now → IsSure t (drop c.loop-path.path-index c.args.touched.now)))
    (IfReady base top (HaveCome c.args.touched.now))
    (λ s t so_far ready sure. sure_end t c.args.touched.now c.loop-path.path-index c.loop-path-test.false (so_far ready sure))
    c.loop-path.invariant.come

pub returns-in_err-flush_path-clause-later : goal.returns-in_err-flush_path-clause-later
returns-in_err-flush_path-clause-later g c =
    let story = g.H.HostCalls.story in
    later_through (story c.args.host.now) (story c.loop-path.host) (story c.flush_path.new.host) (string_bytes c.args.paths.now.base) (g.H.HostCalls.top c.args.host.now)
    (string_bytes c.loop-path.paths.base) (g.H.HostCalls.top c.loop-path.host) c.loop-path.invariant.base c.loop-path.invariant.top c.loop-path.invariant.later c.flush_path.ensures.later
