use Rattle.outside.specs.Changes.{SetLen}
use Rattle.host_folder.specs.Behind.{story_of}
use Rattle.host_folder.proofs.Passing.{change_passed}
use Rattle.host_folder.proofs.folder.HostFolderFolder.set_len.Goals as goal

pub returns : goal.returns
returns g c =
    change_passed g.H.HostCalls.story (SetLen c.args.path.now c.args.len) c.counted_in_folder.result c.set_len-answer.result _ c.args.self.now (story_of g.H.HostCalls.story c.set_len-answer.new.self) _ _
    c.self.view_is c.set_len-answer.ensures.answer c.set_len-answer.ensures.no_memory c.counted_in_folder.ensures c.count_change.ensures
