-- What is behind a folder over a host.
use Rattle.std.specs.Prelude.{◌≡◌, ℕ, false, List, [], Option, string_bytes}
use Rattle.std.specs.Option.{option_map}
use Rattle.outside.specs.Disk.{Path}
use Rattle.outside.specs.Images.{Log, IsSound, now}
use Rattle.host_calls.specs.Story.{Story, disk_now}
use Rattle.host_calls.specs.Calls.{IsTextOf}
use Rattle.host_folder.specs.Held.{IsHeld}
use Rattle.host_folder.specs.First.{first_paths}
use Rattle.host_folder.specs.Telling.{told_if, diary_of}
use Rattle.host_folder.specs.declared.host.Host.{Host}

-- the story of a host, of which its folder tells
abbrev pub story_of : {H : Type 0} → (H → Option Story) → Host H → Option Story
story_of story host = told_if host.tells (story host.host)

-- the folder's log
abbrev pub log_of : {H : Type 0} → (H → Option Story) → Host H → Option Log
log_of story host = option_map diary_of (story_of story host)

-- both texts are those of paths in the host's own folder
pub record HasTexts {H : Type 0} (top : H → List ℕ) (host : Host H) : Type 0 where
  pub base : string_bytes host.paths.base ≡ top host.host
  pub target : string_bytes host.target.base ≡ top host.host

-- reads give what the log says
pub record IsShown {H : Type 0} (top : H → List ℕ) (host : Host H) (story : Story) : Type 0 where
  pub texts : HasTexts top host
  pub log : IsSound story.diary.start story.diary.calls
  pub shows : disk_now story ≡ now story.diary

-- the paths are kept for the story
pub record IsKept {H : Type 0} (top : H → List ℕ) (host : Host H) (story : Story) : Type 0 where
  pub texts : HasTexts top host
  pub held : IsHeld story host.touched.paths.items host.moved.paths.items host.flush_failed

-- and the text of this path is composed
pub record IsComposed {H : Type 0} (top : H → List ℕ) (host : Host H) (path : Path) (story : Story) : Type 0 where
  pub kept : IsKept top host story
  pub text : IsTextOf (top host.host) (string_bytes host.paths.room) path

-- What an earlier run may have left off the disk isn't flushed yet.
pub record IsUnsettled {H : Type 0} (host : Host H) : Type 0 where
  pub touched : host.touched.paths.items ≡ first_paths
  pub moved : host.moved.paths.items ≡ []
  pub failed : host.flush_failed ≡ false

-- what a look at the host leaves as it was: all but the text that was composed last
pub record HasLooked {H : Type 0} (tell : H → Option Story) (text : H → List ℕ) (old new : Host H) : Type 0 where
  pub story : tell new.host ≡ tell old.host
  pub top : text new.host ≡ text old.host
  pub base : string_bytes new.paths.base ≡ string_bytes old.paths.base
  pub target : string_bytes new.target.base ≡ string_bytes old.target.base
  pub touched : new.touched.paths.items ≡ old.touched.paths.items
  pub moved : new.moved.paths.items ≡ old.moved.paths.items
  pub failed : new.flush_failed ≡ old.flush_failed
  pub tells : new.tells ≡ old.tells
