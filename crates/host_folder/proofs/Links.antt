-- A file with two names, which no story that is told has.
use Rattle.std.proofs.Common.{◌≡◌, ◌≢◌, ℕ, List, Option, Some, sym, subst}
use Rattle.outside.specs.Calls.{Told, Changes}
use Rattle.outside.specs.Disk.{Path}
use Rattle.outside.proofs.Told.{told_then, told_both, changed_from}
use Rattle.host_calls.specs.declared.found.Found.{Found}
use Rattle.host_calls.specs.declared.found.Found.TheVariants.{Nothing, Dir, File, Other}
use Rattle.host_calls.specs.declared.found.Inode.{Inode}
use Rattle.host_calls.specs.Volume.{File as Named, entry_at}
use Rattle.host_calls.specs.Same.{IsSame}
use Rattle.host_calls.specs.Story.{Story, AreApart, names_now}
use Rattle.host_calls.specs.Calls.{IsFound}
use Rattle.host_folder.specs.Behind.{story_of, IsKept}
use Rattle.host_folder.specs.declared.host.Host.{Host}
use Rattle.host_folder.proofs.Changing.{IsTouched, story_still}
use Rattle.host_folder.proofs.Since.{kept_and}

-- ---- what is told of no story

pub of_none : {X : Type 0} (a : Option X) (P : X → Type 0) → Told a (λ _. ⊥) → Told a P
of_none a P never = told_then a (λ _. ⊥) P never (λ x no. absurd no)

pub of_none_touched : {H : Type 0} (tell : H → Option Story) (old new : Host H) (P : Story → Type 0) → IsTouched old new
    → Told (story_of tell old) (λ _. ⊥) → Told (story_of tell new) P
of_none_touched tell old new P is never = subst (λ (o : Option Story). Told o P) (sym (story_still tell old new is)) (of_none (story_of tell old) P never)

pub changes_of_none : {H : Type 0} (tell : H → Option Story) (old host last : Host H) (P Q : Story → Story → Type 0) → IsTouched old host
    → Told (story_of tell old) (λ _. ⊥) → Changes (story_of tell host) (story_of tell last) P → Changes (story_of tell old) (story_of tell last) Q
changes_of_none tell old host last P Q is never changed =
    changed_from (story_of tell old) (story_of tell last) (λ _. ⊥) P Q (λ s t no _. absurd no) never
    (subst (λ (o : Option Story). Changes o (story_of tell last) P) (story_still tell old host is) changed)

-- ---- one file at two paths

same_path : (found there : Found) (inode : Inode) (n : ℕ) (from to : Path) (s : Story) → found ≡ File inode n → AreApart (names_now s) → IsSame found there
    → IsFound found s from → IsFound there s to → from ≡ to
same_path Nothing there inode n from to s is apart same at also = cc
same_path (Dir i) there inode n from to s is apart same at also = cc
same_path Other there inode n from to s is apart same at also = absurd at
same_path (File i m) Nothing inode n from to s is apart same at also = absurd same
same_path (File i m) (Dir j) inode n from to s is apart same at also = absurd same
same_path (File i m) Other inode n from to s is apart same at also = absurd same
same_path (File i m) (File j k) inode n from to s is apart same at also =
    apart from to i at.0 (subst (λ (x : Inode). entry_at (names_now s) to ≡ Some (Named x)) (sym same) also.0)

-- none is told
pub no_link : {H : Type 0} (tell : H → Option Story) (top : H → List ℕ) (host : Host H) (found there : Found) (inode : Inode) (n : ℕ) (from to : Path) → found ≡ File inode n → from ≢ to → IsSame found there
    → Told (story_of tell host) (IsKept top host) → Told (story_of tell host) (λ s. IsFound found s from) → Told (story_of tell host) (λ s. IsFound there s to) → Told (story_of tell host) (λ _. ⊥)
no_link tell top host found there inode n from to is apart same kept at also =
    told_both (story_of tell host) (λ s. IsKept top host s × IsFound found s from) (λ s. IsFound there s to) (λ _. ⊥)
    (kept_and tell top host (λ s. IsFound found s from) kept at) also
    (λ s k t. apart (same_path found there inode n from to s is k.0.held.sound.apart same k.1 t))
