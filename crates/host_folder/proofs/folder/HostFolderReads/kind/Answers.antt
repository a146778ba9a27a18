use Rattle.host_folder.specs.Behind.{story_of, log_of}
use Rattle.host_folder.specs.Holding.{log_in}
use Rattle.host_folder.proofs.Shown.{story_looked, kept_looked, shown_kept}
use Rattle.host_folder.proofs.PassingReads.{kind_passed, still_held, tree_shown}
use Rattle.host_folder.proofs.folder.HostFolderReads.kind.Goals as goal

pub returns : goal.returns
returns g c =
    kind_passed c.counted_in_folder.result c.kind-answer.result c.args.path.now (log_of g.H.HostCalls.story c.self.inside.host) (log_in g.H.HostCalls.story c.args.self.now) (log_of g.H.HostCalls.story c.kind-answer.new.self) _ _ _ _ _
    (still_held g.H.HostCalls.story _ c.args.self.now (story_of g.H.HostCalls.story c.kind-answer.new.self) c.self.view_is (story_looked g.H.HostCalls.story g.H.HostCalls.top c.self.inside.host c.kind-answer.new.self c.kind-answer.ensures.looked))
    c.counted_in_folder.ensures (tree_shown g.H.HostCalls.story g.H.HostCalls.top c.self.inside.host (shown_kept g.H.HostCalls.story g.H.HostCalls.top c.self.inside.host c.self.invariant)) c.kind-answer.ensures.kind c.kind-answer.ensures.failed

pub kind-answer-requires : goal.kind-answer-requires
kind-answer-requires g c = shown_kept g.H.HostCalls.story g.H.HostCalls.top c.self.inside.host c.self.invariant

pub invariant_of-self : goal.invariant_of-self
invariant_of-self g c = kept_looked g.H.HostCalls.story g.H.HostCalls.top c.self.inside.host c.kind-answer.new.self c.kind-answer.ensures.looked c.self.invariant
