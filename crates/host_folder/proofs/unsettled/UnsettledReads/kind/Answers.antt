use Rattle.std.specs.Option.{option_map}
use Rattle.host_folder.specs.Behind.{log_of, IsShown}
use Rattle.host_folder.specs.Telling.{diary_of}
use Rattle.host_folder.proofs.Shown.{told_too}
use Rattle.host_folder.proofs.PassingReads.{kind_passed, still_unsettled, tree_shown}
use Rattle.host_folder.proofs.Unsettling.{kept_unsettled}
use Rattle.host_folder.proofs.unsettled.UnsettledReads.kind.Goals as goal

pub returns : goal.returns
returns g c =
    kind_passed c.counted_in_folder.result c.kind-answer.result c.args.path.now (log_of g.H.HostCalls.story c.self.inside.host) (option_map diary_of (g.H.HostCalls.story c.args.self.now.host)) (option_map diary_of (g.H.HostCalls.story c.kind-answer.new.self.host)) _ _ _ _ _
    (still_unsettled g.H.HostCalls.story c.self.inside.host.tells _ c.args.self.now (g.H.HostCalls.story c.kind-answer.new.self.host) c.self.view_is c.self.invariant.1 c.kind-answer.ensures.looked.story)
    c.counted_in_folder.ensures (tree_shown g.H.HostCalls.story g.H.HostCalls.top c.self.inside.host (told_too c.self.inside.host.tells (g.H.HostCalls.story c.self.inside.host.host) (IsShown g.H.HostCalls.top c.self.inside.host) c.self.invariant.2)) c.kind-answer.ensures.kind c.kind-answer.ensures.failed

pub kind-answer-requires : goal.kind-answer-requires
kind-answer-requires g c = told_too c.self.inside.host.tells (g.H.HostCalls.story c.self.inside.host.host) (IsShown g.H.HostCalls.top c.self.inside.host) c.self.invariant.2

pub invariant_of-self : goal.invariant_of-self
invariant_of-self g c = kept_unsettled g.H.HostCalls.story g.H.HostCalls.top c.self.inside.host c.kind-answer.new.self c.kind-answer.ensures.looked c.self.invariant
