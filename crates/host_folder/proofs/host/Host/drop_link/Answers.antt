use Rattle.outside.specs.Changes.{Move, RemoveFile}
use Rattle.host_calls.specs.Names.{HasFile}
use Rattle.host_calls.specs.Story.{names_now}
use Rattle.host_folder.specs.Answers.{IsAnswer}
use Rattle.host_folder.specs.Behind.{IsKept, IsComposed}
use Rattle.host_folder.proofs.Links.{of_none_touched, changes_of_none}
use Rattle.host_folder.proofs.host.Host.drop_link.Goals as goal

pub returns-in_err-touch_move-clause-kept : goal.returns-in_err-touch_move-clause-kept
returns-in_err-touch_move-clause-kept g c =
    of_none_touched g.H.HostCalls.story c.args.self.now c.touch_move.new.self (IsKept g.H.HostCalls.top c.touch_move.new.self)
    (record { touched = c.touch_move.ensures.more; moved = c.touch_move.ensures.more_moved; rest = c.touch_move.ensures.rest }) c.requires

pub drop_file-requires : goal.drop_file-requires
drop_file-requires g c =
    of_none_touched g.H.HostCalls.story c.args.self.now c.touch_move.new.self
    (λ s. IsComposed g.H.HostCalls.top c.touch_move.new.self c.args.from.now s × HasFile (names_now s) c.args.from.now)
    (record { touched = c.touch_move.ensures.more; moved = c.touch_move.ensures.more_moved; rest = c.touch_move.ensures.rest }) c.requires

pub returns-clause-answer : goal.returns-clause-answer
returns-clause-answer g c =
    changes_of_none g.H.HostCalls.story c.args.self.now c.touch_move.new.self c.drop_file.new.self
    (IsAnswer (RemoveFile c.args.from.now) c.drop_file.result) (IsAnswer (Move c.args.from.now c.args.to.now) c.drop_file.result)
    (record { touched = c.touch_move.ensures.more; moved = c.touch_move.ensures.more_moved; rest = c.touch_move.ensures.rest }) c.requires c.drop_file.ensures.answer
