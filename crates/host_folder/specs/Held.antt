-- What a folder over a host keeps: how the host's story and the folder's log belong together.
use Rattle.std.specs.Prelude.{◌≡◌, ◌⊎◌, Bool, false, List, [], ◌∷◌, ◌++◌, Some, Contains}
use Rattle.std.specs.List.{flat_map}
use Rattle.outside.specs.Disk.{Path}
use Rattle.outside.specs.Images.{Log, IsSound, IsImage, now}
use Rattle.outside.specs.Unsynced.{touched, unsynced}
use Rattle.host_calls.specs.declared.found.Inode.{Inode}
use Rattle.host_calls.specs.Volume.{Volume, File, entry_at, disk_of}
use Rattle.host_calls.specs.Story.{Story, IsLeft, IsSoundStory, IsLooseAt, names_now, disk_now}
use Rattle.host_folder.specs.First.{with_folder}

-- a file that is left under a name has it now, if it has one that it wasn't moved to
abbrev pub AreUnmoved : Story → List Path → Type 0
AreUnmoved story moved =
    (volume : Volume) → IsLeft story volume → (left there : Path) (inode : Inode)
    → entry_at volume.names left ≡ Some (File inode) → entry_at (names_now story) there ≡ Some (File inode) → (left ≡ there) ⊎ Contains moved there

-- no flush failed, and what isn't on the disk yet is at the paths that the next sync flushes
pub record IsSure (story : Story) (touched : List Path) : Type 0 where
  pub sure : story.doubt ≡ false
  pub loose : IsLooseAt story touched

-- where the changes since the last sync were made: at their paths, and in the folders that these are in
abbrev pub unsynced_paths : Log → List Path
unsynced_paths log = flat_map with_folder (touched (unsynced log.calls))

-- Reads give what the log says, a power cut leaves an image of it, what isn't on the disk yet is where the log says that a change was made
-- since its last sync, and a sync can bring all to the disk unless a flush failed.
pub record IsHeld (story : Story) (touched moved : List Path) (failed : Bool) : Type 0 where
  pub log : IsSound story.diary.start story.diary.calls
  pub noted : story.unnoted ≡ false
  pub sound : IsSoundStory story
  pub shows : disk_now story ≡ now story.diary
  pub images : (volume : Volume) → IsLeft story volume → IsImage story.diary (disk_of volume)
  pub unmoved : AreUnmoved story moved
  pub loose : IsLooseAt story (unsynced_paths story.diary)
  pub surely : failed ≡ false → IsSure story touched

-- ---- flushes

-- what flushes leave: no other volume, what reads gave, and no more that isn't on the disk
pub record IsLater (old new : Story) : Type 0 where
  pub sound : IsSoundStory new
  pub left : (volume : Volume) → IsLeft new volume → IsLeft old volume
  pub names : names_now new ≡ names_now old
  pub disk : disk_now new ≡ disk_now old
  pub diary : new.diary ≡ old.diary
  pub unnoted : new.unnoted ≡ old.unnoted
  pub loose : (paths : List Path) → IsLooseAt old paths → IsLooseAt new paths

-- what was first among what isn't on the disk has come there
pub record HasCome (path : Path) (old new : Story) : Type 0 where
  pub sure : new.doubt ≡ old.doubt
  pub rest : old.doubt ≡ false → (paths : List Path) → IsLooseAt old (path ∷ paths) → IsLooseAt new paths

-- all of it has come there
abbrev pub HaveCome : List Path → Story → Story → Type 0
HaveCome paths old new = IsSure old paths → IsSure new []

-- these first, whatever others there are
abbrev pub HaveComeFirst : List Path → Story → Story → Type 0
HaveComeFirst paths old new = (others : List Path) → IsSure old (paths ++ others) → IsSure new others
