-- What a folder owes after it was asked what is at a path or for its names, by its host's answer.
use Rattle.std.proofs.Common.{◌≡◌, ℕ, Bool, true, List, Option, Result, Ok, Err, IfOk, IsErrOf, IsOkUnless, refl, sym, ap, subst, ◌∙◌, Vec, Global}
use Rattle.std.specs.Option.{option_map}
use Rattle.vault_path.specs.declared.text.Text.{Text}
use Rattle.outside.specs.declared.folder.FolderErr.{FolderErr}
use Rattle.outside.specs.declared.folder.FolderErr.TheVariants.{Failed, Unfit, Memory}
use Rattle.outside.specs.declared.folder.Kind.{Kind}
use Rattle.outside.specs.Calls.{Told, HasCause, IsUnfit}
use Rattle.outside.specs.Disk.{Path, IsTree, IsFolder, IsListing, kind_at}
use Rattle.outside.specs.Images.{Log, IsSound, disk_in}
use Rattle.outside.proofs.Told.{told_then}
use Rattle.host_calls.specs.Story.{Story}
use Rattle.host_folder.specs.Behind.{story_of, log_of, IsShown}
use Rattle.host_folder.specs.Holding.{Holding, Reading, story_in, log_in}
use Rattle.host_folder.specs.Telling.{told_if, diary_of}
use Rattle.host_folder.specs.declared.host.Host.{Host}
use Rattle.host_folder.proofs.Passing.{IsCounted, passed, passed_no, told_log, tree_of}

-- ---- what a read leaves

-- the log before it under two names and after it, and the counts
pub record IsStill (a b after : Option Log) (had first earlier later : ℕ) : Type 0 where
  pub log : a ≡ b
  pub same : after ≡ b
  pub faults : had ≡ first
  pub changes : later ≡ earlier

-- of a folder, by what clauses see of it
pub still_held : {H : Type 0} (tell : H → Option Story) (held old : Holding H) (after : Option Story) → held ≡ old → after ≡ story_in tell held
    → IsStill (log_in tell held) (log_in tell old) (option_map diary_of after) held.faults old.faults old.changes held.changes
still_held {H = H} tell held old after is same = record {
  log = ap (log_in tell) is;
  same = ap (option_map diary_of) same ∙ ap (log_in tell) is;
  faults = ap (λ (h : Holding H). h.faults) is;
  changes = ap (λ (h : Holding H). h.changes) is;
}

-- and of one that isn't settled yet
pub still_unsettled : {H : Type 0} (tell : H → Option Story) (tells : Bool) (held old : Reading H) (after : Option Story) → held ≡ old → tells ≡ true → after ≡ tell held.host
    → IsStill (option_map diary_of (told_if tells (tell held.host))) (option_map diary_of (tell old.host)) (option_map diary_of after) held.faults old.faults 0 0
still_unsettled {H = H} tell tells held old after is telling same =
    let story = ap (λ (h : Reading H). tell h.host) is in
    record {
      log = told_log tells (tell held.host) (tell old.host) telling story;
      same = ap (option_map diary_of) (same ∙ story);
      faults = ap (λ (h : Reading H). h.faults) is;
      changes = refl;
    }

-- ---- what is at a path

pub tree_shown : {H : Type 0} (tell : H → Option Story) (text : H → List ℕ) (host : Host H) → Told (story_of tell host) (IsShown text host) → Told (disk_in (log_of tell host)) IsTree
tree_shown tell text host shown = tree_of (story_of tell host) (told_then (story_of tell host) (IsShown text host) (λ s. IsSound s.diary.start s.diary.calls) shown (λ s is. is.log))

fails_only : {T : Type 0} (r : Result T FolderErr) → IsOkUnless r Failed → (IsErrOf r Unfit → ⊥) × (IsErrOf r Memory → ⊥)
fails_only (Ok x) failed = (λ is. cc, λ is. cc)
fails_only (Err e) failed = let is : e ≡ Failed = failed in (λ unfit. cc, λ memory. cc)

pub kind_passed : (q r : Result (Option Kind) FolderErr) (path : Path) (a b after : Option Log) (had first last earlier later : ℕ) → IsStill a b after had first earlier later → IsCounted q r had last
    → Told (disk_in a) IsTree → IfOk r (λ kind. Told (disk_in a) (λ d. kind ≡ kind_at d path)) → IsOkUnless r Failed
    → record {
      kind : IfOk q (λ kind. Told (disk_in b) (λ d. kind ≡ kind_at d path));
      tree : Told (disk_in b) IsTree;
      fits : IsErrOf q Unfit → ⊥;
      no_memory : IsErrOf q Memory → ⊥;
      log : after ≡ b;
      changes : later ≡ earlier;
      cause : HasCause first last (IsErrOf q Failed);
    }
kind_passed q r path a b after had first last earlier later still count tree kind failed =
    let never = fails_only r failed in
    record {
      kind = passed q r a b (λ (x : Result (Option Kind) FolderErr) (l : Option Log). IfOk x (λ k. Told (disk_in l) (λ d. k ≡ kind_at d path))) count.same still.log kind;
      tree = subst (λ (l : Option Log). Told (disk_in l) IsTree) still.log tree;
      fits = λ unfit. never.0 (sym count.same ∙ unfit);
      no_memory = λ memory. never.1 (sym count.same ∙ memory);
      log = still.same;
      changes = still.changes;
      cause = subst (λ (n : ℕ). HasCause n last (IsErrOf q Failed)) still.faults count.cause;
    }

-- ---- the names in a folder

pub list_passed : (q r : Result (Vec Text Global) FolderErr) (path : Path) (a b after : Option Log) (had first last earlier later : ℕ) → IsStill a b after had first earlier later → IsCounted q r had last
    → IfOk r (λ names. Told (disk_in a) (λ d. IsFolder d path × IsListing d path names.items)) → (IsErrOf r Unfit → Told (disk_in a) (λ d. IsFolder d path → ⊥))
    → record {
      names : IfOk q (λ names. Told (disk_in b) (λ d. IsFolder d path × IsListing d path names.items));
      unfit : IsErrOf q Unfit → IsUnfit (disk_in b) first last (λ d. IsFolder d path);
      log : after ≡ b;
      changes : later ≡ earlier;
      cause : HasCause first last (IsErrOf q Failed);
    }
list_passed q r path a b after had first last earlier later still count names unfit = record {
  names = passed q r a b (λ (x : Result (Vec Text Global) FolderErr) (l : Option Log). IfOk x (λ found. Told (disk_in l) (λ d. IsFolder d path × IsListing d path found.items))) count.same still.log names;
  unfit = passed_no q r a b had first last (λ d. IsFolder d path) count.same still.log still.faults unfit count.unfit;
  log = still.same;
  changes = still.changes;
  cause = subst (λ (n : ℕ). HasCause n last (IsErrOf q Failed)) still.faults count.cause;
}
