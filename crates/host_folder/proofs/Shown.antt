-- What follows of what a folder tells and keeps, by its fields.
use Rattle.std.proofs.Common.{◌≡◌, ℕ, Bool, true, false, List, Option, sym, ap, subst, ◌∙◌}
use Rattle.outside.specs.Calls.{Told, Changes}
use Rattle.outside.specs.Disk.{Path}
use Rattle.outside.proofs.Told.{told_then}
use Rattle.host_calls.specs.Story.{Story}
use Rattle.host_folder.specs.Held.{IsHeld}
use Rattle.host_folder.specs.Telling.{told_if}
use Rattle.host_folder.specs.Behind.{story_of, HasTexts, IsKept, IsShown, HasLooked}
use Rattle.host_folder.specs.declared.host.Host.{Host}
use Rattle.host_folder.proofs.Telling.{told_again}

-- ---- what is told, if it is to be

pub told_too : {X : Type 0} (tells : Bool) (a : Option X) (P : X → Type 0) → Told a P → Told (told_if tells a) P
told_too true a P told = told
told_too false a P told = tt

pub changes_too : {X : Type 0} (tells : Bool) (a b : Option X) (P : X → X → Type 0) → Changes a b P → Changes (told_if tells a) (told_if tells b) P
changes_too true a b P changed = changed
changes_too false a b P changed = tt

pub told_all : {X : Type 0} (tells : Bool) (a : Option X) (P : X → Type 0) → tells ≡ true → Told (told_if tells a) P → Told a P
told_all true a P is told = told
told_all false a P is told = cc

-- ---- a look at the host

pub story_looked : {H : Type 0} (tell : H → Option Story) (text : H → List ℕ) (old new : Host H) → HasLooked tell text old new → story_of tell new ≡ story_of tell old
story_looked tell text old new looked =
    ap (λ (b : Bool). told_if b (tell new.host)) looked.tells ∙ ap (told_if old.tells) looked.story

pub texts_looked : {H : Type 0} (tell : H → Option Story) (text : H → List ℕ) (old new : Host H) → HasLooked tell text old new → HasTexts text old → HasTexts text new
texts_looked tell text old new looked texts = record {
  base = looked.base ∙ texts.base ∙ sym looked.top;
  target = looked.target ∙ texts.target ∙ sym looked.top;
}

kept_of : {H : Type 0} (tell : H → Option Story) (text : H → List ℕ) (old new : Host H) (s : Story) → HasLooked tell text old new → IsKept text old s → IsKept text new s
kept_of tell text old new s looked kept = record {
  texts = texts_looked tell text old new looked kept.texts;
  held =
      subst (λ (f : Bool). IsHeld s new.touched.paths.items new.moved.paths.items f) (sym looked.failed)
      (subst (λ (m : List Path). IsHeld s new.touched.paths.items m old.flush_failed) (sym looked.moved)
      (subst (λ (t : List Path). IsHeld s t old.moved.paths.items old.flush_failed) (sym looked.touched) kept.held));
}

-- the paths are kept as they were
pub kept_looked : {H : Type 0} (tell : H → Option Story) (text : H → List ℕ) (old new : Host H) → HasLooked tell text old new
    → Told (story_of tell old) (IsKept text old) → Told (story_of tell new) (IsKept text new)
kept_looked tell text old new looked kept =
    told_again (story_of tell old) (story_of tell new) (IsKept text old) (IsKept text new) (story_looked tell text old new looked)
    (λ s is. kept_of tell text old new s looked is) kept

-- reads of what is kept
shown_of : {H : Type 0} (text : H → List ℕ) (host : Host H) (s : Story) → IsKept text host s → IsShown text host s
shown_of text host s kept = record { texts = kept.texts; log = kept.held.log; shows = kept.held.shows }

pub shown_kept : {H : Type 0} (tell : H → Option Story) (text : H → List ℕ) (host : Host H) → Told (story_of tell host) (IsKept text host) → Told (story_of tell host) (IsShown text host)
shown_kept tell text host kept = told_then (story_of tell host) (IsKept text host) (IsShown text host) kept (λ s is. shown_of text host s is)
