use Rattle.host_folder.specs.Behind.{story_of, log_of}
use Rattle.host_folder.specs.Holding.{log_in}
use Rattle.host_folder.proofs.Shown.{story_looked, kept_looked, shown_kept}
use Rattle.host_folder.proofs.PassingReads.{list_passed, still_held}
use Rattle.host_folder.proofs.folder.HostFolderReads.list.Goals as goal

pub returns : goal.returns
returns g c =
    list_passed c.counted_in_folder.result c.list-answer.result c.args.path.now (log_of g.H.HostCalls.story c.self.inside.host) (log_in g.H.HostCalls.story c.args.self.now) (log_of g.H.HostCalls.story c.list-answer.new.self) _ _ _ _ _
    (still_held g.H.HostCalls.story _ c.args.self.now (story_of g.H.HostCalls.story c.list-answer.new.self) c.self.view_is (story_looked g.H.HostCalls.story g.H.HostCalls.top c.self.inside.host c.list-answer.new.self c.list-answer.ensures.looked))
    c.counted_in_folder.ensures c.list-answer.ensures.names c.list-answer.ensures.unfit

pub list-answer-requires : goal.list-answer-requires
list-answer-requires g c = shown_kept g.H.HostCalls.story g.H.HostCalls.top c.self.inside.host c.self.invariant

pub invariant_of-self : goal.invariant_of-self
invariant_of-self g c = kept_looked g.H.HostCalls.story g.H.HostCalls.top c.self.inside.host c.list-answer.new.self c.list-answer.ensures.looked c.self.invariant
