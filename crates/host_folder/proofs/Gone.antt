-- What a change answers that is to remove what is gone already.
use Rattle.std.proofs.Common.{◌≡◌, ℕ, List, Option, None, Ok, Contains}
use Rattle.outside.specs.Calls.{Told}
use Rattle.outside.specs.Disk.{Disk, Path, node_at}
use Rattle.outside.specs.Changes.{Change, CanDo, done, set_at}
use Rattle.outside.specs.Images.{Did}
use Rattle.host_calls.specs.Volume.{entry_at}
use Rattle.host_calls.specs.Story.{Story, names_now, disk_now}
use Rattle.host_calls.specs.Calls.{HasNoted}
use Rattle.host_folder.specs.Behind.{story_of, IsKept}
use Rattle.host_folder.specs.declared.host.Host.{Host}
use Rattle.host_folder.proofs.Answering.{nothing_there}
use Rattle.host_folder.proofs.Changing.{HasAnswered, HasNotes, kept_alone, found_at}

-- nothing is at a path
abbrev IsGone : Path → Story → Type 0
IsGone path story = entry_at (names_now story) path ≡ None

pub kept_gone : {H : Type 0} (tell : H → Option Story) (top : H → List ℕ) (old new : Host H) (path : Path)
    → ((other : Path) → Contains old.touched.paths.items other → Contains new.touched.paths.items other) → new ≡ record old { touched = new.touched }
    → Told (story_of tell old) (λ s. IsKept top old s × IsGone path s) → Told (story_of tell new) (IsKept top new)
kept_gone tell top old new path more rest told = kept_alone tell top old new (IsGone path) more rest told

-- by what such a change can do where nothing is, and leaves there
pub found_gone : {H : Type 0} (tell : H → Option Story) (top : H → List ℕ) (old host : Host H) (last : H) (path : Path) (change : Change)
    → ((disk : Disk) → node_at disk path ≡ None → CanDo change disk) → ((disk : Disk) → disk ≡ set_at disk path None → disk ≡ done change disk)
    → ((other : Path) → Contains old.touched.paths.items other → Contains host.touched.paths.items other) → host ≡ record old { touched = host.touched }
    → Told (story_of tell old) (λ s. IsKept top old s × IsGone path s) → HasNotes tell top host.host last (HasNoted (Did change))
    → HasAnswered tell top change (Ok (tt {0})) old (record host { host = last })
found_gone tell top old host last path change can same more rest told note =
    found_at tell top old host last change (IsGone path) more rest told note
    (λ s held gone. let none = nothing_there path s gone in (can (disk_now s) none.0, same (disk_now s) none.1))
