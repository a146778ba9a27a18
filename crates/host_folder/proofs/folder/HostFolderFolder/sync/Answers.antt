use Rattle.std.proofs.Common.{ap}
use Rattle.outside.specs.Images.{IsSound}
use Rattle.outside.proofs.Told.{told_then}
use Rattle.host_folder.specs.Behind.{story_of, IsKept}
use Rattle.host_folder.specs.Holding.{log_in}
use Rattle.host_folder.proofs.Passing.{passed_synced, passed_same, passed_sound}
use Rattle.host_folder.proofs.folder.HostFolderFolder.sync.Goals as goal

pub returns-clause-synced : goal.returns-clause-synced
returns-clause-synced g c =
    passed_synced c.counted_in_folder.result c.sync-answer.result (log_in g.H.HostCalls.story c.args.self.now)
    (story_of g.H.HostCalls.story c.self.inside.host) (story_of g.H.HostCalls.story c.sync-answer.new.self)
    c.counted_in_folder.ensures.same (ap (log_in g.H.HostCalls.story) c.self.view_is) c.sync-answer.ensures.synced

pub returns-clause-failed : goal.returns-clause-failed
returns-clause-failed g c =
    passed_same c.counted_in_folder.result c.sync-answer.result (log_in g.H.HostCalls.story c.args.self.now)
    (story_of g.H.HostCalls.story c.self.inside.host) (story_of g.H.HostCalls.story c.sync-answer.new.self)
    c.counted_in_folder.ensures.same (ap (log_in g.H.HostCalls.story) c.self.view_is) c.sync-answer.ensures.log

pub returns-clause-sound : goal.returns-clause-sound
returns-clause-sound g c =
    passed_sound (story_of g.H.HostCalls.story c.self.inside.host) (log_in g.H.HostCalls.story c.args.self.now) (ap (log_in g.H.HostCalls.story) c.self.view_is)
    (told_then (story_of g.H.HostCalls.story c.self.inside.host) (IsKept g.H.HostCalls.top c.self.inside.host) (λ s. IsSound s.diary.start s.diary.calls) c.self.invariant (λ s is. is.held.log))
