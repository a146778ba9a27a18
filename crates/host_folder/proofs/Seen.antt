-- What reads of a host say of what a folder shows.
use Rattle.std.proofs.Common.{◌≡◌, ◌⊎◌, ℕ, List, Option, Some, None, refl, sym, ap, subst, ◌∙◌, inl, inr}
use Rattle.std.specs.Option.{option_map}
use Rattle.outside.specs.declared.folder.Kind.{Kind}
use Rattle.outside.specs.declared.folder.Kind.TheVariants as kinds
use Rattle.outside.specs.Calls.{Told}
use Rattle.outside.specs.Disk.{Disk, Path, kind_of, kind_at, node_at, file, IsFolder, IsFile}
use Rattle.outside.specs.Images.{disk_in, now}
use Rattle.outside.proofs.Told.{told_then}
use Rattle.host_calls.specs.declared.found.Inode.{Inode}
use Rattle.host_calls.specs.declared.found.Found.{Found}
use Rattle.host_calls.specs.declared.found.Found.TheVariants as found
use Rattle.host_calls.specs.Story.{Story, volume_now, disk_now, bytes_now}
use Rattle.host_calls.specs.Calls.{IsFound}
use Rattle.host_calls.proofs.Volumes.{none_in, folder_in, file_in}
use Rattle.host_folder.specs.Telling.{diary_of}
use Rattle.host_folder.specs.Behind.{story_of, log_of, IsShown, HasLooked}
use Rattle.host_folder.specs.declared.host.Host.{Host}
use Rattle.host_folder.proofs.Shown.{story_looked}

-- ---- what was found at a path

-- its kind
pub seen_kind : (what : Found) (kind : Option Kind) (story : Story) (path : Path)
    → ((inode : Inode) → what ≡ found.Dir inode → kind ≡ Some kinds.Dir)
    → ((inode : Inode) (size : ℕ) → what ≡ found.File inode size → kind ≡ Some (kinds.File size))
    → ((what ≡ found.Nothing) ⊎ (what ≡ found.Other) → kind ≡ None)
    → IsFound what story path → kind ≡ kind_at (disk_now story) path
seen_kind found.Nothing kind story path dir file_of none at = none (inl refl) ∙ sym (ap (option_map kind_of) (none_in (volume_now story) path at))
seen_kind (found.Dir inode) kind story path dir file_of none at = dir inode refl ∙ sym (ap (option_map kind_of) (folder_in (volume_now story) path at))
seen_kind (found.File inode size) kind story path dir file_of none at =
    file_of inode size refl
    ∙ ap (λ (n : ℕ). Some (kinds.File n)) at.1
    ∙ sym (ap (option_map kind_of) (file_in (volume_now story) path inode at.0))
seen_kind found.Other kind story path dir file_of none at = absurd at

none_or_folder : (disk : Disk) (path : Path) → node_at disk path ≡ None → IsFolder disk path → ⊥
none_or_folder disk path none is = cc

file_or_folder : (disk : Disk) (path : Path) (bytes : List ℕ) → node_at disk path ≡ Some (file bytes) → IsFolder disk path → ⊥
file_or_folder disk path bytes there is = cc

-- what is one thing is no other
pub not_folder : (what : Found) → (what ≡ found.Nothing) ⊎ (((inode : Inode) × (size : ℕ) × (what ≡ found.File inode size)) ⊎ (what ≡ found.Other)) → (inode : Inode) → what ≡ found.Dir inode → ⊥
not_folder what (inl e) inode is = cc
not_folder what (inr (inl seen)) inode is = let e = seen.2 in cc
not_folder what (inr (inr e)) inode is = cc

pub not_file : (what : Found) → (what ≡ found.Nothing) ⊎ (((inode : Inode) × (what ≡ found.Dir inode)) ⊎ (what ≡ found.Other)) → (inode : Inode) (size : ℕ) → what ≡ found.File inode size → ⊥
not_file what (inl e) inode size is = cc
not_file what (inr (inl dir)) inode size is = let e = dir.1 in cc
not_file what (inr (inr e)) inode size is = cc

-- what isn't found as a folder is none
pub seen_no_folder : (what : Found) (story : Story) (path : Path) → ((inode : Inode) → what ≡ found.Dir inode → ⊥) → IsFound what story path → IsFolder (disk_now story) path → ⊥
seen_no_folder found.Nothing story path never at is = none_or_folder (disk_now story) path (none_in (volume_now story) path at) is
seen_no_folder (found.Dir inode) story path never at is = never inode refl
seen_no_folder (found.File inode size) story path never at is = file_or_folder (disk_now story) path (bytes_now story inode) (file_in (volume_now story) path inode at.0) is
seen_no_folder found.Other story path never at is = at

none_or_file : (disk : Disk) (path : Path) (bytes : List ℕ) → node_at disk path ≡ None → node_at disk path ≡ Some (file bytes) → ⊥
none_or_file disk path bytes none there = cc

-- what isn't found as a file is none
pub seen_no_file : (what : Found) (story : Story) (path : Path) → ((inode : Inode) (size : ℕ) → what ≡ found.File inode size → ⊥) → IsFound what story path → IsFile (disk_now story) path → ⊥
seen_no_file found.Nothing story path never at is = none_or_file (disk_now story) path is.0 (none_in (volume_now story) path at) is.1
seen_no_file (found.Dir inode) story path never at is = file_or_folder (disk_now story) path is.0 is.1 (folder_in (volume_now story) path at)
seen_no_file (found.File inode size) story path never at is = never inode size refl
seen_no_file found.Other story path never at is = at

-- ---- what is told

told_shown : (a b : Option Story) (F : Story → Type 0) (Q : Disk → Type 0) → b ≡ a → Told a (λ s. disk_now s ≡ now s.diary) → Told b F
    → ((s : Story) → F s → Q (disk_now s)) → Told (disk_in (option_map diary_of a)) Q
told_shown None b F Q is shows seen f = tt
told_shown (Some s) b F Q is shows seen f = subst Q shows (f s (subst (λ (o : Option Story). Told o F) is seen))

-- what a look at the host saw is of the log
pub log_looked : {H : Type 0} (tell : H → Option Story) (text : H → List ℕ) (old new : Host H) (F : Story → Type 0) (Q : Disk → Type 0)
    → HasLooked tell text old new → Told (story_of tell old) (IsShown text old) → Told (story_of tell new) F → ((s : Story) → F s → Q (disk_now s))
    → Told (disk_in (log_of tell old)) Q
log_looked tell text old new F Q looked shown seen f =
    told_shown (story_of tell old) (story_of tell new) F Q (story_looked tell text old new looked)
    (told_then (story_of tell old) (IsShown text old) (λ s. disk_now s ≡ now s.diary) shown (λ s is. is.shows)) seen f
