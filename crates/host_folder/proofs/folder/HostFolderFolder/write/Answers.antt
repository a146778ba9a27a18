use Rattle.outside.specs.Changes.{Write}
use Rattle.host_folder.specs.Behind.{story_of}
use Rattle.host_folder.proofs.Passing.{change_passed}
use Rattle.host_folder.proofs.folder.HostFolderFolder.write.Goals as goal

pub returns : goal.returns
returns g c =
    change_passed g.H.HostCalls.story (Write c.args.path.now c.args.at c.args.bytes.now) c.counted_in_folder.result c.write-answer.result _ c.args.self.now (story_of g.H.HostCalls.story c.write-answer.new.self) _ _
    c.self.view_is c.write-answer.ensures.answer c.write-answer.ensures.no_memory c.counted_in_folder.ensures c.count_change.ensures
