use Rattle.outside.specs.Changes.{RemoveFile}
use Rattle.host_folder.specs.Behind.{story_of}
use Rattle.host_folder.proofs.Passing.{change_passed}
use Rattle.host_folder.proofs.folder.HostFolderFolder.remove_file.Goals as goal

pub returns : goal.returns
returns g c =
    change_passed g.H.HostCalls.story (RemoveFile c.args.path.now) c.counted_in_folder.result c.remove_file-answer.result _ c.args.self.now (story_of g.H.HostCalls.story c.remove_file-answer.new.self) _ _
    c.self.view_is c.remove_file-answer.ensures.answer c.remove_file-answer.ensures.no_memory c.counted_in_folder.ensures c.count_change.ensures
