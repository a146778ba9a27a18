-- What a folder answers of its log, by what it answers of a story.
use Rattle.std.proofs.Common.{◌≡◌, ℕ, Option, Some, None, Result, Ok, Err, OnOk, OnErr, IsErrOf, refl, ap, inl}
use Rattle.std.specs.Option.{option_map}
use Rattle.outside.specs.declared.folder.FolderErr.{FolderErr}
use Rattle.outside.specs.declared.folder.FolderErr.TheVariants.{Failed, Unfit, Memory}
use Rattle.outside.specs.Calls.{Changes, Rose}
use Rattle.outside.specs.Changes.{Change}
use Rattle.outside.specs.Images.{Log, HasDone, HasBroken, DoesNotFit}
use Rattle.host_calls.specs.Story.{Story}
use Rattle.host_folder.specs.Answers.{IsAnswer}
use Rattle.host_folder.specs.Telling.{diary_of}

pub logs : (a b : Option Story) (P : Log → Log → Type 0) → Changes a b (λ s t. P s.diary t.diary) → Changes (option_map diary_of a) (option_map diary_of b) P
logs None None P changed = tt
logs None (Some t) P changed = absurd changed
logs (Some s) None P changed = absurd changed
logs (Some s) (Some t) P changed = changed

pub answered_done : {T : Type 0} (change : Change) (r : Result T FolderErr) (a b : Option Story) → Changes a b (IsAnswer change r)
    → OnOk r (Changes (option_map diary_of a) (option_map diary_of b) (HasDone change))
answered_done change (Ok x) a b answer = logs a b (HasDone change) answer
answered_done change (Err e) a b answer = tt

same_log : (change : Change) (a b : Option Story) → Changes a b (IsAnswer {T = Unit {0}} change (Err Unfit)) → option_map diary_of b ≡ option_map diary_of a
same_log change None None answer = refl
same_log change None (Some t) answer = absurd answer
same_log change (Some s) None answer = absurd answer
same_log change (Some s) (Some t) answer = ap (λ (log : Log). Some log) answer.0

pub answered_refused : {T : Type 0} (change : Change) (r : Result T FolderErr) (a b : Option Story) → Changes a b (IsAnswer change r)
    → IsErrOf r Unfit → option_map diary_of b ≡ option_map diary_of a
answered_refused change (Ok x) a b answer is = cc
answered_refused change (Err Unfit) a b answer is = same_log change a b answer
answered_refused change (Err Failed) a b answer is = cc
answered_refused change (Err Memory) a b answer is = cc

answered_broken_at : (change : Change) (a b : Option Story) → Changes a b (IsAnswer {T = Unit {0}} change (Err Unfit)) → Changes (option_map diary_of a) (option_map diary_of b) (HasBroken change)
answered_broken_at change None None answer = tt
answered_broken_at change None (Some t) answer = absurd answer
answered_broken_at change (Some s) None answer = absurd answer
answered_broken_at change (Some s) (Some t) answer = inl answer.0

pub answered_broken : {T : Type 0} (change : Change) (r : Result T FolderErr) (a b : Option Story) → Changes a b (IsAnswer change r)
    → OnErr r (Changes (option_map diary_of a) (option_map diary_of b) (HasBroken change))
answered_broken change (Ok x) a b answer = tt
answered_broken change (Err Unfit) a b answer = answered_broken_at change a b answer
answered_broken change (Err Failed) a b answer = logs a b (HasBroken change) answer
answered_broken change (Err Memory) None None answer = tt
answered_broken change (Err Memory) None (Some t) answer = absurd answer
answered_broken change (Err Memory) (Some s) None answer = absurd answer
answered_broken change (Err Memory) (Some s) (Some t) answer = absurd answer

unfit_at : (change : Change) (a b : Option Story) (before after : ℕ) → Changes a b (IsAnswer {T = Unit {0}} change (Err Unfit)) → Rose before after
    → DoesNotFit change (option_map diary_of a) before after
unfit_at change None None before after answer rose = rose
unfit_at change None (Some t) before after answer rose = absurd answer
unfit_at change (Some s) None before after answer rose = absurd answer
unfit_at change (Some s) (Some t) before after answer rose = answer.1

pub answered_unfit : {T : Type 0} (change : Change) (r : Result T FolderErr) (a b : Option Story) (before after : ℕ) → Changes a b (IsAnswer change r) → (IsErrOf r Unfit → Rose before after)
    → IsErrOf r Unfit → DoesNotFit change (option_map diary_of a) before after
answered_unfit change (Ok x) a b before after answer rose is = cc
answered_unfit change (Err Unfit) a b before after answer rose is = unfit_at change a b before after answer (rose is)
answered_unfit change (Err Failed) a b before after answer rose is = cc
answered_unfit change (Err Memory) a b before after answer rose is = cc
