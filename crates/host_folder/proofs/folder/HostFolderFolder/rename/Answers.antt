use Rattle.outside.specs.Changes.{Move}
use Rattle.host_folder.specs.Behind.{story_of}
use Rattle.host_folder.proofs.Passing.{change_passed}
use Rattle.host_folder.proofs.folder.HostFolderFolder.rename.Goals as goal

pub returns : goal.returns
returns g c =
    change_passed g.H.HostCalls.story (Move c.args.from.now c.args.to.now) c.counted_in_folder.result c.rename-answer.result _ c.args.self.now (story_of g.H.HostCalls.story c.rename-answer.new.self) _ _
    c.self.view_is c.rename-answer.ensures.answer c.rename-answer.ensures.no_memory c.counted_in_folder.ensures c.count_change.ensures
