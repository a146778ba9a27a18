-- What was done to a vault's folder on a host: all that decides what reads give and what a power cut may leave.
--
-- A kill of the program keeps the story, since the host goes on. A power cut leaves one of the volumes that may be left.
use Rattle.std.specs.Prelude.{◌≡◌, ◌≢◌, ◌⊎◌, ⊤, ℕ, Bool, true, false, List, [], ◌∷◌, ◌++◌, Option, Some, None, map as each_of, Contains}
use Rattle.std.specs.List.{AllByRecursion}
use Rattle.std.specs.FinMap as map
use Rattle.outside.specs.Disk.{Disk, Path}
use Rattle.outside.specs.Changes.{Change}
use Rattle.outside.specs.Images.{Log, Call, Did, Broke, Synced, adds}
use Rattle.host_calls.specs.declared.found.Inode.{Inode}
use Rattle.host_calls.specs.Volume.{Names, Contents, Volume, Entry, Folder, File, entry_at, bytes_in, inode_cmp, each_value, disk_of}
use Rattle.host_calls.specs.Names.{NameStep, MadeFile, Pending, begun, flushed, before_step, names_after, MayName, AreFitting, HasFolder}
use Rattle.host_calls.specs.Bytes.{Filed, FileStep, bytes_after, MayHold, AreWithin}

abbrev pub Files : Type 0
Files = map.FinMap inode_cmp Filed

-- The names that the steps began with, the steps, the newest first, and the files. A flush may have failed: then the host may
-- take for written what isn't, and no later flush promises anything. The diary is the log of the folder whose calls they were, and
-- a step may have been taken that it doesn't have yet.
pub record Story : Type 0 where
  pub base : Names
  pub naming : List Pending
  pub files : Files
  pub doubt : Bool
  pub diary : Log
  pub unnoted : Bool

-- ---- what reads give

abbrev pub names_now : Story → Names
names_now story = names_after story.base story.naming

abbrev pub bytes_of : Filed → List ℕ
bytes_of filed = bytes_after filed.lasting filed.steps

abbrev pub volume_now : Story → Volume
volume_now story = record { names = names_now story; contents = each_value bytes_of story.files }

abbrev pub disk_now : Story → Disk
disk_now story = disk_of (volume_now story)

-- the bytes of a file
abbrev pub bytes_now : Story → Inode → List ℕ
bytes_now story inode = bytes_in (volume_now story).contents inode

-- ---- what a power cut may leave

abbrev pub MayBe : Option Filed → Option (List ℕ) → Type 0
MayBe None None = ⊤
MayBe None (Some held) = ⊥
MayBe (Some filed) None = ⊥
MayBe (Some filed) (Some held) = MayHold filed.lasting filed.steps held

pub record IsLeft (story : Story) (volume : Volume) : Type 0 where
  pub names : MayName story.base story.naming volume.names
  pub bytes : (inode : Inode) → MayBe (map.get story.files inode) (map.get volume.contents inode)

-- ---- what calls do

abbrev pub takes : NameStep → Story → Story
takes step story = record {
  base = story.base;
  naming = begun step ∷ before_step step story.naming;
  files = story.files;
  doubt = story.doubt;
  diary = story.diary;
  unnoted = true;
}

-- a file after more steps, the newest first; a new one has no bytes at first
abbrev pub filed_after : List FileStep → Option Filed → Filed
filed_after steps None = record { lasting = []; steps = steps }
filed_after steps (Some filed) = record { lasting = filed.lasting; steps = steps ++ filed.steps }

abbrev pub writes : Inode → List FileStep → Story → Story
writes inode steps story = record {
  base = story.base;
  naming = story.naming;
  files = map.insert story.files inode (filed_after steps (map.get story.files inode));
  doubt = story.doubt;
  diary = story.diary;
  unnoted = true;
}

-- a new file with a name
abbrev pub creates : Path → Inode → List FileStep → Story → Story
creates path inode steps story = writes inode steps (takes (MadeFile path inode) story)

-- an inode that no file has, and that no name is of, whatever is left
pub record IsNew (story : Story) (inode : Inode) : Type 0 where
  pub unknown : map.get story.files inode ≡ None
  pub unnamed : (path : Path) → entry_at (names_now story) path ≢ Some (File inode)
  pub unleft : (volume : Volume) → IsLeft story volume → (path : Path) → entry_at volume.names path ≢ Some (File inode)

-- a folder's entries come to the disk
abbrev pub flushes_folder : Path → Story → Story
flushes_folder path story = record {
  base = story.base;
  naming = each_of (flushed path) story.naming;
  files = story.files;
  doubt = story.doubt;
  diary = story.diary;
  unnoted = story.unnoted;
}

abbrev pub settled_file : Option Filed → Filed
settled_file None = record { lasting = []; steps = [] }
settled_file (Some filed) = record { lasting = bytes_of filed; steps = [] }

-- a file's bytes come to the disk
abbrev pub flushes_file : Inode → Story → Story
flushes_file inode story = record {
  base = story.base;
  naming = story.naming;
  files = map.insert story.files inode (settled_file (map.get story.files inode));
  doubt = story.doubt;
  diary = story.diary;
  unnoted = story.unnoted;
}

abbrev pub flushes_entry : Path → Option Entry → Story → Story
flushes_entry path None story = story
flushes_entry path (Some Folder) story = flushes_folder path story
flushes_entry path (Some (File inode)) story = flushes_file inode story

-- a flush that failed
abbrev pub doubts : Story → Story
doubts story = record { base = story.base; naming = story.naming; files = story.files; doubt = true; diary = story.diary; unnoted = story.unnoted }

-- the diary with a call more
abbrev pub notes : Call → Story → Story
notes call story = record {
  base = story.base;
  naming = story.naming;
  files = story.files;
  doubt = story.doubt;
  diary = adds story.diary call;
  unnoted = false;
}

-- a host that lives on, as a folder of it is opened anew
abbrev pub restarted : Story → Story
restarted story = record {
  base = story.base;
  naming = story.naming;
  files = story.files;
  doubt = story.doubt;
  diary = record { start = disk_now story; calls = [] };
  unnoted = false;
}

-- ---- what holds of a story

-- no file has two names
abbrev pub AreApart : Names → Type 0
AreApart names = (path other : Path) (inode : Inode) → entry_at names path ≡ Some (File inode) → entry_at names other ≡ Some (File inode) → path ≡ other

-- each file that has a name is one of these
abbrev pub AreKnown : Names → Files → Type 0
AreKnown names files = (path : Path) (inode : Inode) → entry_at names path ≡ Some (File inode) → (filed : Filed) × (map.get files inode ≡ Some filed)

-- the folders that are still to be flushed are there
abbrev pub AreThere : Names → List Pending → Type 0
AreThere names naming = AllByRecursion (λ (pending : Pending). AllByRecursion (HasFolder names) pending.to_flush) naming

-- Each step could be taken when it was, and within the file that it changed.
pub record IsSoundStory (story : Story) : Type 0 where
  pub fitting : AreFitting story.base story.naming
  pub within : (inode : Inode) (filed : Filed) → map.get story.files inode ≡ Some filed → AreWithin filed.lasting filed.steps
  pub folders : AreThere (names_now story) story.naming
  pub apart : AreApart (names_now story)
  pub known : AreKnown (names_now story) story.files

-- all that isn't on the disk yet is at these paths: folders whose entries aren't, and files whose bytes aren't
pub record IsLooseAt (story : Story) (paths : List Path) : Type 0 where
  pub names : AllByRecursion (λ (pending : Pending). AllByRecursion (Contains paths) pending.to_flush) story.naming
  pub bytes : (path : Path) (inode : Inode) (filed : Filed) → entry_at (names_now story) path ≡ Some (File inode)
      → map.get story.files inode ≡ Some filed → (filed.steps ≡ []) ⊎ Contains paths path
