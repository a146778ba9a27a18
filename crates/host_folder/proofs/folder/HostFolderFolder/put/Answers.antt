use Rattle.outside.specs.Changes.{Put}
use Rattle.host_folder.specs.Behind.{story_of}
use Rattle.host_folder.proofs.Passing.{change_passed}
use Rattle.host_folder.proofs.folder.HostFolderFolder.put.Goals as goal

pub returns : goal.returns
returns g c =
    change_passed g.H.HostCalls.story (Put c.args.path.now c.args.bytes.now) c.counted_in_folder.result c.put-answer.result _ c.args.self.now (story_of g.H.HostCalls.story c.put-answer.new.self) _ _
    c.self.view_is c.put-answer.ensures.answer c.put-answer.ensures.no_memory c.counted_in_folder.ensures c.count_change.ensures
