use Rattle.std.proofs.Common.{ℕ, List, sym, subst, string_bytes}
use Rattle.outside.proofs.Told.{told_same}
use Rattle.host_calls.specs.Calls.{IsTextOf, AtPath, IsFound}
use Rattle.host_folder.specs.Held.{HasCome}
use Rattle.host_folder.specs.Ready.{IfReady}
use Rattle.host_folder.proofs.FlushSteps.{named_by, come_nothing, answers_later, answers_come}
use Rattle.host_folder.proofs.flushing.flush_path.Goals as goal

pub returns-in-Nothing-clause-come : goal.returns-in-Nothing-clause-come
returns-in-Nothing-clause-come g c =
    let base = string_bytes c.args.paths.now.base in
    let top = g.H.HostCalls.top c.args.host.now in
    let path = c.args.path.now in
    let text = c.text.result.now in
    let named : IsTextOf base text path = subst (λ (r : List ℕ). IsTextOf base r path) (sym c.text.ensures) c.compose.ensures.text in
    told_same (g.H.HostCalls.story c.args.host.now) (g.H.HostCalls.story c.stat.new.self) (λ s. AtPath top text (IsFound c.in_ok-seen.seen s)) (IfReady base top (HasCome path)) c.stat.ensures.story
    (λ s at ready. come_nothing c.in_ok-seen.seen path s c.in-Nothing.is ready.sound (at path (named_by base top text path s ready named)))
    c.in_ok-seen.ensures.found

pub returns-in_default-clause-later : goal.returns-in_default-clause-later
returns-in_default-clause-later g c =
    answers_later c.fsync.result (g.H.HostCalls.story c.args.host.now) (g.H.HostCalls.story c.stat.new.self) (g.H.HostCalls.story c.fsync.new.self) (string_bytes c.args.paths.now.base) (g.H.HostCalls.top c.args.host.now)
    (g.H.HostCalls.top c.stat.new.self) _ c.text-in_default.result.now c.args.path.now c.stat.ensures.story c.stat.ensures.top c.text-in_default.ensures c.compose.ensures.text c.fsync.ensures.done c.fsync.ensures.doubt

pub returns-in_default-clause-come : goal.returns-in_default-clause-come
returns-in_default-clause-come g c =
    answers_come c.fsync.result (g.H.HostCalls.story c.args.host.now) (g.H.HostCalls.story c.stat.new.self) (g.H.HostCalls.story c.fsync.new.self) (string_bytes c.args.paths.now.base) (g.H.HostCalls.top c.args.host.now)
    (g.H.HostCalls.top c.stat.new.self) _ c.text-in_default.result.now c.args.path.now c.stat.ensures.story c.stat.ensures.top c.text-in_default.ensures c.compose.ensures.text c.fsync.ensures.done
