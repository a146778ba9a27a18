use Rattle.outside.specs.Changes.{MakeDir}
use Rattle.host_folder.specs.Behind.{story_of}
use Rattle.host_folder.proofs.Passing.{change_passed}
use Rattle.host_folder.proofs.folder.HostFolderFolder.make_dir.Goals as goal

pub returns : goal.returns
returns g c =
    change_passed g.H.HostCalls.story (MakeDir c.args.path.now) c.counted_in_folder.result c.make_dir-answer.result _ c.args.self.now (story_of g.H.HostCalls.story c.make_dir-answer.new.self) _ _
    c.self.view_is c.make_dir-answer.ensures.answer c.make_dir-answer.ensures.no_memory c.counted_in_folder.ensures c.count_change.ensures
