use Rattle.std.proofs.Common.{◌∙◌, string_bytes}
use Rattle.std.specs.List.{flat_map}
use Rattle.outside.proofs.Told.{changed_by}
use Rattle.host_folder.specs.First.{with_folder}
use Rattle.host_folder.specs.Held.{HasCome, HaveComeFirst}
use Rattle.host_folder.specs.Ready.{IfReady}
use Rattle.host_folder.proofs.FlushSteps.{IsFlushing, later_through, begins_flushing, flushing_then}
use Rattle.host_folder.proofs.OpeningSteps.{ComesTo, pair_comes, next_comes, come_all}
use Rattle.host_folder.proofs.flushing.flush_with_folders.Goals as goal

pub loop-path-init : goal.loop-path-init
loop-path-init g c =
    begins_flushing (string_bytes c.args.paths.now.base) (g.H.HostCalls.top c.args.host.now) (g.H.HostCalls.story c.args.host.now)
    (ComesTo c.args.touched.now 0) (λ s ready others sure. sure)

pub loop-path-preserved : goal.loop-path-preserved
loop-path-preserved g c =
    let story = g.H.HostCalls.story in
    let top = g.H.HostCalls.top in
    let old = c.loop-path.host in
    let mid = c.flush_path.new.host in
    let new = c.flush_path-in-loop-path.new.host in
    let old_base = string_bytes c.loop-path.paths.base in
    let mid_base = string_bytes c.flush_path.new.paths.base in
    let new_base = string_bytes c.flush_path-in-loop-path.new.paths.base in
    let path = c.path-item.result in
    let first : IsFlushing old_base (top old) mid_base (top mid) (story old) (story mid) (HasCome path) = record {
      base = c.flush_path.ensures.base;
      top = c.flush_path.ensures.top;
      later = c.flush_path.ensures.later;
      come = c.in_ok-flush_path.ensures.come;
    } in
    let second : IsFlushing mid_base (top mid) new_base (top new) (story mid) (story new) (HasCome c.parent.result) = record {
      base = c.flush_path-in-loop-path.ensures.base;
      top = c.flush_path-in-loop-path.ensures.top;
      later = c.flush_path-in-loop-path.ensures.later;
      come = c.in_ok-flush_path-2.ensures.come;
    } in
    let both : IsFlushing old_base (top old) new_base (top new) (story old) (story new) (HaveComeFirst (with_folder path)) =
    flushing_then first second (λ s t u. pair_comes path c.parent.result s t u c.parent.ensures) in
    flushing_then c.loop-path.invariant both
    (λ s t u. next_comes c.args.touched.now c.loop-path.path-index path s t u c.loop-path-test.true c.path-item.is)

pub returns-clause-come : goal.returns-clause-come
returns-clause-come g c =
    let base = string_bytes c.args.paths.now.base in
    let top = g.H.HostCalls.top c.args.host.now in
    changed_by (g.H.HostCalls.story c.args.host.now) (g.H.HostCalls.story c.loop-path.host) (IfReady base top (ComesTo c.args.touched.now c.loop-path.path-index))
    (IfReady base top (HaveComeFirst (flat_map with_folder c.args.touched.now)))
    (λ s t so_far ready. come_all c.args.touched.now c.loop-path.path-index s t c.loop-path-test.false (so_far ready)) c.loop-path.invariant.come

pub returns-in_err-flush_path-clause-later : goal.returns-in_err-flush_path-clause-later
returns-in_err-flush_path-clause-later g c =
    let story = g.H.HostCalls.story in
    later_through (story c.args.host.now) (story c.loop-path.host) (story c.flush_path.new.host) (string_bytes c.args.paths.now.base) (g.H.HostCalls.top c.args.host.now)
    (string_bytes c.loop-path.paths.base) (g.H.HostCalls.top c.loop-path.host) c.loop-path.invariant.base c.loop-path.invariant.top c.loop-path.invariant.later c.flush_path.ensures.later

pub returns-in_err-flush_path-2-clause-later : goal.returns-in_err-flush_path-2-clause-later
returns-in_err-flush_path-2-clause-later g c =
    let story = g.H.HostCalls.story in
    let base = string_bytes c.args.paths.now.base in
    let top = g.H.HostCalls.top c.args.host.now in
    later_through (story c.args.host.now) (story c.flush_path.new.host) (story c.flush_path-in-loop-path.new.host) base top
    (string_bytes c.flush_path.new.paths.base) (g.H.HostCalls.top c.flush_path.new.host) (c.flush_path.ensures.base ∙ c.loop-path.invariant.base) (c.flush_path.ensures.top ∙ c.loop-path.invariant.top)
    (later_through (story c.args.host.now) (story c.loop-path.host) (story c.flush_path.new.host) base top
    (string_bytes c.loop-path.paths.base) (g.H.HostCalls.top c.loop-path.host) c.loop-path.invariant.base c.loop-path.invariant.top c.loop-path.invariant.later c.flush_path.ensures.later)
    c.flush_path-in-loop-path.ensures.later
