-- What a folder passes on of its host's answers, by its own log and counts.
use Rattle.std.proofs.Common.{◌≡◌, ℕ, Bool, true, Option, Some, None, Result, Ok, Err, OnOk, OnErr, IsErrOf, refl, sym, ap, subst, ◌∙◌}
use Rattle.std.specs.Option.{option_map}
use Rattle.outside.specs.declared.folder.FolderErr.{FolderErr}
use Rattle.outside.specs.declared.folder.FolderErr.TheVariants.{Failed, Unfit, Memory}
use Rattle.outside.specs.Calls.{Told, Changes, HasCause, Rose, IsUnfit, risen}
use Rattle.outside.specs.Disk.{Disk, IsTree}
use Rattle.outside.specs.Changes.{Change}
use Rattle.outside.specs.Images.{Log, IsSound, Synced, HasDone, HasBroken, DoesNotFit, adds, disk_in}
use Rattle.outside.proofs.Steady.{sound_tree}
use Rattle.host_calls.specs.Story.{Story}
use Rattle.host_folder.specs.Answers.{IsAnswer, IsSameLog, HasSynced}
use Rattle.host_folder.specs.Holding.{Holding, story_in, log_in}
use Rattle.host_folder.specs.Telling.{told_if, diary_of}
use Rattle.host_folder.proofs.Answered.{answered_done, answered_refused, answered_broken, answered_unfit}

-- the same of one answer and one log, under other names
pub passed : {R X : Type 0} (q r : R) (a b : X) (P : R → X → Type 0) → q ≡ r → a ≡ b → P r a → P q b
passed q r a b P same is p = subst (P q) is (subst (λ x. P x a) (sym same) p)

-- an answer is passed on and counted
abbrev pub IsCounted : {T : Type 0} → Result T FolderErr → Result T FolderErr → ℕ → ℕ → Type 0
IsCounted q r had last = record {
  same : q ≡ r;
  cause : HasCause had last (IsErrOf q Failed);
  unfit : IsErrOf q Unfit → Rose had last;
}

-- ---- changes

passed_done : {T : Type 0} (change : Change) (q r : Result T FolderErr) (before : Option Log) (a b : Option Story) → q ≡ r → option_map diary_of a ≡ before
    → Changes a b (IsAnswer change r) → OnOk q (Changes before (option_map diary_of b) (HasDone change))
passed_done {T = T} change q r before a b same is answer =
    passed q r (option_map diary_of a) before (λ (x : Result T FolderErr) (l : Option Log). OnOk x (Changes l (option_map diary_of b) (HasDone change))) same is
    (answered_done change r a b answer)

passed_broken : {T : Type 0} (change : Change) (q r : Result T FolderErr) (before : Option Log) (a b : Option Story) → q ≡ r → option_map diary_of a ≡ before
    → Changes a b (IsAnswer change r) → OnErr q (Changes before (option_map diary_of b) (HasBroken change))
passed_broken {T = T} change q r before a b same is answer =
    passed q r (option_map diary_of a) before (λ (x : Result T FolderErr) (l : Option Log). OnErr x (Changes l (option_map diary_of b) (HasBroken change))) same is
    (answered_broken change r a b answer)

passed_refused : {T : Type 0} (change : Change) (q r : Result T FolderErr) (before : Option Log) (a b : Option Story) → q ≡ r → option_map diary_of a ≡ before
    → Changes a b (IsAnswer change r) → IsErrOf q Unfit → option_map diary_of b ≡ before
passed_refused change q r before a b same is answer unfit = answered_refused change r a b answer (sym same ∙ unfit) ∙ is

passed_unfit : {T : Type 0} (change : Change) (q r : Result T FolderErr) (before : Option Log) (a b : Option Story) (had first last : ℕ) → q ≡ r → option_map diary_of a ≡ before → had ≡ first
    → Changes a b (IsAnswer change r) → (IsErrOf q Unfit → Rose had last) → IsErrOf q Unfit → DoesNotFit change before first last
passed_unfit change q r before a b had first last same is count answer rose unfit =
    subst (λ (l : Option Log). DoesNotFit change l first last) is
    (answered_unfit change r a b first last answer (λ e. subst (λ (n : ℕ). Rose n last) count (rose (same ∙ e))) (sym same ∙ unfit))

-- what a folder owes after each of its changes: its log before and after, its faults, and how many changes there were
abbrev pub HasPassed : {T : Type 0} → Change → Result T FolderErr → Option Log → Option Log → ℕ → ℕ → ℕ → ℕ → Type 0
HasPassed change q before after first last earlier later = record {
  done : OnOk q (Changes before after (HasDone change));
  unfit : IsErrOf q Unfit → DoesNotFit change before first last;
  refused : IsErrOf q Unfit → after ≡ before;
  broken : OnErr q (Changes before after (HasBroken change));
  no_memory : IsErrOf q Memory → ⊥;
  cause : HasCause first last (IsErrOf q Failed);
  counted : later ≡ risen earlier;
}

-- by what it held, which is what clauses see of it, and what its host answered
pub change_passed : {H T : Type 0} (tell : H → Option Story) (change : Change) (q r : Result T FolderErr) (held old : Holding H) (after : Option Story) (last later : ℕ) → held ≡ old
    → Changes (story_in tell held) after (IsAnswer change r) → (IsErrOf r Memory → ⊥) → IsCounted q r held.faults last → later ≡ risen held.changes
    → HasPassed change q (log_in tell old) (option_map diary_of after) old.faults last old.changes later
change_passed {H = H} tell change q r held old after last later is answer never count more =
    let story = story_in tell held in
    let before = log_in tell old in
    let same = ap (log_in tell) is in
    let faults = ap (λ (h : Holding H). h.faults) is in
    record {
      done = passed_done change q r before story after count.same same answer;
      unfit = passed_unfit change q r before story after held.faults old.faults last count.same same faults answer count.unfit;
      refused = passed_refused change q r before story after count.same same answer;
      broken = passed_broken change q r before story after count.same same answer;
      no_memory = λ e. never (sym count.same ∙ e);
      cause = subst (λ (n : ℕ). HasCause n last (IsErrOf q Failed)) faults count.cause;
      counted = more ∙ ap (λ (h : Holding H). risen h.changes) is;
    }

-- ---- reads

unfit_if : (log : Option Log) (first last : ℕ) (P : Disk → Type 0) → Told (disk_in log) (λ d. P d → ⊥) → Rose first last → IsUnfit (disk_in log) first last P
unfit_if None first last P never rose = rose
unfit_if (Some log) first last P never rose = never

pub passed_no : {T : Type 0} (q r : Result T FolderErr) (a b : Option Log) (had first last : ℕ) (P : Disk → Type 0) → q ≡ r → a ≡ b → had ≡ first
    → (IsErrOf r Unfit → Told (disk_in a) (λ d. P d → ⊥)) → (IsErrOf q Unfit → Rose had last) → IsErrOf q Unfit → IsUnfit (disk_in b) first last P
passed_no q r a b had first last P same is count never rose unfit =
    subst (λ (l : Option Log). IsUnfit (disk_in l) first last P) is
    (unfit_if a first last P (never (sym same ∙ unfit)) (subst (λ (n : ℕ). Rose n last) count (rose unfit)))

pub tree_of : (a : Option Story) → Told a (λ s. IsSound s.diary.start s.diary.calls) → Told (disk_in (option_map diary_of a)) IsTree
tree_of None sound = tt
tree_of (Some s) sound = sound_tree s.diary.start s.diary.calls sound

-- ---- a log that is told

pub told_log : (tells : Bool) (a b : Option Story) → tells ≡ true → a ≡ b → option_map diary_of (told_if tells a) ≡ option_map diary_of b
told_log tells a b is same = ap (λ (t : Bool). option_map diary_of (told_if t a)) is ∙ ap (option_map diary_of) same

-- ---- a sync

logs : (a b : Option Story) (P : Log → Log → Type 0) → Changes a b (λ s t. P s.diary t.diary) → Changes (option_map diary_of a) (option_map diary_of b) P
logs None None P changed = tt
logs None (Some t) P changed = absurd changed
logs (Some s) None P changed = absurd changed
logs (Some s) (Some t) P changed = changed

same_logs : (a b : Option Story) → Changes a b IsSameLog → option_map diary_of b ≡ option_map diary_of a
same_logs None None same = refl
same_logs None (Some t) same = absurd same
same_logs (Some s) None same = absurd same
same_logs (Some s) (Some t) same = ap (λ (log : Log). Some log) same

on_ok : {T E : Type 0} (r : Result T E) (P Q : Type 0) → (P → Q) → OnOk r P → OnOk r Q
on_ok (Ok x) P Q f p = f p
on_ok (Err e) P Q f p = tt

on_err : {T E : Type 0} (r : Result T E) (P Q : Type 0) → (P → Q) → OnErr r P → OnErr r Q
on_err (Ok x) P Q f p = tt
on_err (Err e) P Q f p = f p

pub passed_synced : {T : Type 0} (q r : Result T FolderErr) (before : Option Log) (a b : Option Story) → q ≡ r → option_map diary_of a ≡ before
    → OnOk r (Changes a b HasSynced) → OnOk q (Changes before (option_map diary_of b) (λ old new. new ≡ adds old Synced))
passed_synced {T = T} q r before a b same is synced =
    passed q r (option_map diary_of a) before (λ (x : Result T FolderErr) (l : Option Log). OnOk x (Changes l (option_map diary_of b) (λ old new. new ≡ adds old Synced))) same is
    (on_ok r (Changes a b HasSynced) (Changes (option_map diary_of a) (option_map diary_of b) (λ old new. new ≡ adds old Synced)) (logs a b (λ old new. new ≡ adds old Synced)) synced)

pub passed_same : {T : Type 0} (q r : Result T FolderErr) (before : Option Log) (a b : Option Story) → q ≡ r → option_map diary_of a ≡ before
    → OnErr r (Changes a b IsSameLog) → OnErr q (option_map diary_of b ≡ before)
passed_same {T = T} q r before a b same is log =
    passed q r (option_map diary_of a) before (λ (x : Result T FolderErr) (l : Option Log). OnErr x (option_map diary_of b ≡ l)) same is
    (on_err r (Changes a b IsSameLog) (option_map diary_of b ≡ option_map diary_of a) (same_logs a b) log)

sound_of : (a : Option Story) → Told a (λ s. IsSound s.diary.start s.diary.calls) → Told (option_map diary_of a) (λ log. IsSound log.start log.calls)
sound_of None sound = tt
sound_of (Some s) sound = sound

pub passed_sound : (a : Option Story) (before : Option Log) → option_map diary_of a ≡ before → Told a (λ s. IsSound s.diary.start s.diary.calls)
    → Told before (λ log. IsSound log.start log.calls)
passed_sound a before is sound = subst (λ (l : Option Log). Told l (λ log. IsSound log.start log.calls)) is (sound_of a sound)
