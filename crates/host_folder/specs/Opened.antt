-- A folder that is opened.
use Rattle.std.specs.Prelude.{◌≡◌, false, List, []}
use Rattle.outside.specs.Disk.{Path, IsTree}
use Rattle.host_calls.specs.Story.{Story, IsSoundStory, disk_now}
use Rattle.host_folder.specs.Held.{IsSure}
use Rattle.host_folder.specs.First.{to_settle}

-- The log begins with what reads give: nothing was noted yet.
pub record IsBegun (story : Story) : Type 0 where
  pub sound : IsSoundStory story
  pub tree : IsTree (disk_now story)
  pub diary : story.diary ≡ record { start = disk_now story; calls = [] }
  pub noted : story.unnoted ≡ false

-- And what an earlier run left off the disk is at these paths, in their folders and in the first ones.
pub record IsOpened (paths : List Path) (story : Story) : Type 0 where
  pub begun : IsBegun story
  pub sure : IsSure story (to_settle paths)
