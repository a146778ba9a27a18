-- What is answered of a log that was looked at first.
use Rattle.std.proofs.Common.{◌≡◌, ℕ, List, Option, Some, None, Result, Ok, Err, refl, sym, subst, inl, string_bytes}
use Rattle.outside.specs.declared.folder.FolderErr.{FolderErr}
use Rattle.outside.specs.declared.folder.FolderErr.TheVariants.{Failed, Unfit, Memory}
use Rattle.outside.specs.Calls.{Told, Changes}
use Rattle.outside.specs.Disk.{Path}
use Rattle.outside.specs.Changes.{Change, CanDo}
use Rattle.outside.specs.Images.{Log, HasDone, HasBroken, now}
use Rattle.outside.proofs.Told.{told_then, told_both, unchanged, through, changed_by}
use Rattle.host_calls.specs.Story.{Story, disk_now}
use Rattle.host_calls.specs.Calls.{IsTextOf}
use Rattle.host_folder.specs.Answers.{IsAnswer, IsSameLog}
use Rattle.host_folder.specs.Behind.{story_of, HasTexts, IsKept, IsComposed, HasLooked}
use Rattle.host_folder.specs.declared.host.Host.{Host}
use Rattle.host_folder.proofs.Telling.{told_again}
use Rattle.host_folder.proofs.Shown.{story_looked, kept_looked}

-- ---- a change after a look

answer_since : {T : Type 0} (change : Change) (r : Result T FolderErr) (s t u : Story) → IsSameLog s t → IsAnswer change r t u → IsAnswer change r s u
answer_since change (Ok x) s t u same is = subst (λ (log : Log). HasDone change log u.diary) same is
answer_since change (Err Unfit) s t u same is = subst (λ (log : Log). (u.diary ≡ log) × ¬ CanDo change (now log)) same is
answer_since change (Err Failed) s t u same is = subst (λ (log : Log). HasBroken change log u.diary) same is
answer_since change (Err Memory) s t u same is = absurd is

pub answered_since : {T : Type 0} (a b c : Option Story) (change : Change) (r : Result T FolderErr) → Changes a b IsSameLog → Changes b c (IsAnswer change r) → Changes a c (IsAnswer change r)
answered_since a b c change r same is = through a b c IsSameLog (IsAnswer change r) (IsAnswer change r) (λ s t u. answer_since change r s t u) same is

-- ---- a look that failed

failed_at : (change : Change) (e : FolderErr) (s t : Story) → e ≡ Failed → IsSameLog s t → IsAnswer {T = Unit {0}} change (Err e) s t
failed_at change e s t is same = let at : IsAnswer {T = Unit {0}} change (Err Failed) s t = inl same in subst (λ (f : FolderErr). IsAnswer {T = Unit {0}} change (Err f) s t) (sym is) at

pub failed_since : (a b : Option Story) (change : Change) (e : FolderErr) → e ≡ Failed → Changes a b IsSameLog → Changes a b (IsAnswer {T = Unit {0}} change (Err e))
failed_since a b change e is same = changed_by a b IsSameLog (IsAnswer {T = Unit {0}} change (Err e)) (λ s t. failed_at change e s t is) same

-- ---- a change that doesn't fit what was seen

unfit_since : (a b : Option Story) (change : Change) (P : Story → Type 0) → ((t : Story) → P t → ¬ CanDo change (now t.diary)) → Changes a b IsSameLog → Told b P
    → Changes a b (IsAnswer {T = Unit {0}} change (Err Unfit))
unfit_since None None change P f same told = tt
unfit_since None (Some t) change P f same told = absurd same
unfit_since (Some s) None change P f same told = absurd same
unfit_since (Some s) (Some t) change P f same told = (same, λ can. f t told (subst (λ (log : Log). CanDo change (now log)) (sym same) can))

-- by all that is kept of the story, and what else holds of it
pub misfit_since : {H : Type 0} (tell : H → Option Story) (top : H → List ℕ) (old new : Host H) (change : Change) (E : Story → Type 0)
    → ((s : Story) → IsKept top new s → E s → ¬ CanDo change (disk_now s)) → Changes (story_of tell old) (story_of tell new) IsSameLog → Told (story_of tell new) (λ s. IsKept top new s × E s)
    → Changes (story_of tell old) (story_of tell new) (IsAnswer {T = Unit {0}} change (Err Unfit))
misfit_since tell top old new change E misfit same told =
    unfit_since (story_of tell old) (story_of tell new) change (λ s. IsKept top new s × E s)
    (λ s p can. misfit s p.0 p.1 (subst (CanDo change) (sym p.0.held.shows) can)) same told

-- by what is kept alone
pub misfit_here : {H : Type 0} (tell : H → Option Story) (top : H → List ℕ) (host : Host H) (change : Change) → ((s : Story) → IsKept top host s → ¬ CanDo change (disk_now s)) → Told (story_of tell host) (IsKept top host)
    → Changes (story_of tell host) (story_of tell host) (IsAnswer {T = Unit {0}} change (Err Unfit))
misfit_here tell top host change misfit kept =
    unfit_since (story_of tell host) (story_of tell host) change (IsKept top host) (λ s k can. misfit s k (subst (CanDo change) (sym k.held.shows) can))
    (unchanged (story_of tell host) (story_of tell host) IsSameLog refl (λ s. refl)) kept

-- ---- what was found at a path

-- what is kept, and what was found
pub kept_found : {H : Type 0} (tell : H → Option Story) (top : H → List ℕ) (host : Host H) (path : Path) (E F : Story → Type 0) → ((s : Story) → E s → F s)
    → Told (story_of tell host) (λ s. IsComposed top host path s × E s) → Told (story_of tell host) (λ s. IsKept top host s × F s)
kept_found tell top host path E F f told = told_then (story_of tell host) (λ s. IsComposed top host path s × E s) (λ s. IsKept top host s × F s) told (λ s p. (p.0.kept, f s p.1))

-- a change that doesn't fit what was found
pub misfit_found : {H : Type 0} (tell : H → Option Story) (top : H → List ℕ) (old new : Host H) (path : Path) (change : Change) (E : Story → Type 0) → ((s : Story) → E s → ¬ CanDo change (disk_now s))
    → Changes (story_of tell old) (story_of tell new) IsSameLog → Told (story_of tell new) (λ s. IsComposed top new path s × E s)
    → Changes (story_of tell old) (story_of tell new) (IsAnswer {T = Unit {0}} change (Err Unfit))
misfit_found tell top old new path change E misfit same told =
    misfit_since tell top old new change E (λ s kept there. misfit s there) same (kept_found tell top new path E E (λ s there. there) told)

-- and the text that was composed
pub composed_found : {H : Type 0} (tell : H → Option Story) (top : H → List ℕ) (host : Host H) (path : Path) (E F : Story → Type 0) → ((s : Story) → E s → F s)
    → Told (story_of tell host) (λ s. IsComposed top host path s × E s) → Told (story_of tell host) (λ s. IsComposed top host path s × F s)
composed_found tell top host path E F f told = told_then (story_of tell host) (λ s. IsComposed top host path s × E s) (λ s. IsComposed top host path s × F s) told (λ s p. (p.0, f s p.1))

-- ---- one look after another

pub texts_kept : {H : Type 0} (tell : H → Option Story) (top : H → List ℕ) (host : Host H) → Told (story_of tell host) (IsKept top host) → Told (story_of tell host) (λ _. HasTexts top host)
texts_kept tell top host kept = told_then (story_of tell host) (IsKept top host) (λ s. HasTexts top host) kept (λ s k. k.texts)

-- what was told before a look is told after it
pub told_looked : {H : Type 0} (tell : H → Option Story) (top : H → List ℕ) (old new : Host H) (P : Story → Type 0) → HasLooked tell top old new → Told (story_of tell old) P → Told (story_of tell new) P
told_looked tell top old new P looked told = subst (λ (o : Option Story). Told o P) (sym (story_looked tell top old new looked)) told

pub changed_looked : {H : Type 0} (tell : H → Option Story) (top : H → List ℕ) (a : Option Story) (old new : Host H) (P : Story → Story → Type 0) → HasLooked tell top old new
    → Changes a (story_of tell old) P → Changes a (story_of tell new) P
changed_looked tell top a old new P looked changed = subst (λ (o : Option Story). Changes a o P) (sym (story_looked tell top old new looked)) changed

-- what is kept, and what was found
pub kept_and : {H : Type 0} (tell : H → Option Story) (top : H → List ℕ) (host : Host H) (E : Story → Type 0) → Told (story_of tell host) (IsKept top host) → Told (story_of tell host) E
    → Told (story_of tell host) (λ s. IsKept top host s × E s)
kept_and tell top host E kept told = told_both (story_of tell host) (IsKept top host) E (λ s. IsKept top host s × E s) kept told (λ s k e. (k, e))

-- both texts of a rename are composed
pub to_move : {H : Type 0} (tell : H → Option Story) (top : H → List ℕ) (old new : Host H) (from to : Path) → HasLooked tell top old new → string_bytes new.target.room ≡ string_bytes old.target.room
    → Told (story_of tell old) (IsKept top old) → Told (story_of tell old) (λ _. IsTextOf (top old.host) (string_bytes old.target.room) to)
    → Told (story_of tell new) (λ _. IsTextOf (top new.host) (string_bytes new.paths.room) from)
    → Told (story_of tell new) (λ s. IsComposed top new from s × IsTextOf (top new.host) (string_bytes new.target.room) to)
to_move tell top old new from to looked same kept target text =
    told_both (story_of tell new) (IsComposed top new from) (λ s. IsTextOf (top new.host) (string_bytes new.target.room) to)
    (λ s. IsComposed top new from s × IsTextOf (top new.host) (string_bytes new.target.room) to)
    (told_both (story_of tell new) (IsKept top new) (λ s. IsTextOf (top new.host) (string_bytes new.paths.room) from) (IsComposed top new from) (kept_looked tell top old new looked kept) text
    (λ s k t. record { kept = k; text = t }))
    (told_again (story_of tell old) (story_of tell new) (λ s. IsTextOf (top old.host) (string_bytes old.target.room) to) (λ s. IsTextOf (top new.host) (string_bytes new.target.room) to)
    (story_looked tell top old new looked)
    (λ s t. subst (λ (l : List ℕ). IsTextOf (top new.host) l to) (sym same) (subst (λ (l : List ℕ). IsTextOf l (string_bytes old.target.room) to) (sym looked.top) t)) target)
    (λ s both t. (both, t))
