use Rattle.std.specs.Option.{option_map}
use Rattle.host_folder.specs.Behind.{log_of, IsShown}
use Rattle.host_folder.specs.Telling.{diary_of}
use Rattle.host_folder.proofs.Shown.{told_too}
use Rattle.host_folder.proofs.PassingReads.{list_passed, still_unsettled}
use Rattle.host_folder.proofs.Unsettling.{kept_unsettled}
use Rattle.host_folder.proofs.unsettled.UnsettledReads.list.Goals as goal

pub returns : goal.returns
returns g c =
    list_passed c.counted_in_folder.result c.list-answer.result c.args.path.now (log_of g.H.HostCalls.story c.self.inside.host) (option_map diary_of (g.H.HostCalls.story c.args.self.now.host)) (option_map diary_of (g.H.HostCalls.story c.list-answer.new.self.host)) _ _ _ _ _
    (still_unsettled g.H.HostCalls.story c.self.inside.host.tells _ c.args.self.now (g.H.HostCalls.story c.list-answer.new.self.host) c.self.view_is c.self.invariant.1 c.list-answer.ensures.looked.story)
    c.counted_in_folder.ensures c.list-answer.ensures.names c.list-answer.ensures.unfit

pub list-answer-requires : goal.list-answer-requires
list-answer-requires g c = told_too c.self.inside.host.tells (g.H.HostCalls.story c.self.inside.host.host) (IsShown g.H.HostCalls.top c.self.inside.host) c.self.invariant.2

pub invariant_of-self : goal.invariant_of-self
invariant_of-self g c = kept_unsettled g.H.HostCalls.story g.H.HostCalls.top c.self.inside.host c.list-answer.new.self c.list-answer.ensures.looked c.self.invariant
