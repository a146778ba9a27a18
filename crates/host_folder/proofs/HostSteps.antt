-- What flushes and a sync of a folder over a host keep, by its fields.
use Rattle.std.proofs.Common.{◌≡◌, ℕ, Bool, true, false, List, [], Option, refl, sym, ap, subst, ◌∙◌, string_bytes}
use Rattle.outside.specs.Calls.{Told, Changes}
use Rattle.outside.proofs.Told.{through, both_changed}
use Rattle.outside.specs.Disk.{Path}
use Rattle.outside.specs.Images.{Synced, adds}
use Rattle.host_calls.specs.Story.{Story}
use Rattle.host_calls.specs.Calls.{HasNoted}
use Rattle.host_folder.specs.Held.{IsHeld, IsLater, HaveCome}
use Rattle.host_folder.specs.Ready.{IsReady, IfReady}
use Rattle.host_folder.specs.Answers.{IsSameLog, HasSynced}
use Rattle.host_folder.specs.Telling.{told_if}
use Rattle.host_folder.specs.Behind.{story_of, HasTexts, IsKept}
use Rattle.host_folder.specs.declared.host.Host.{Host}
use Rattle.host_folder.proofs.Telling.{told_after}
use Rattle.host_folder.proofs.Keeping.{held_later, held_settled, held_synced}
use Rattle.host_folder.proofs.Shown.{changes_too}

-- ---- flushes

-- what flushes of a folder's paths leave of it
pub record HasFlushes {H : Type 0} (tell : H → Option Story) (text : H → List ℕ) (old new : Host H) : Type 0 where
  pub later : Changes (tell old.host) (tell new.host) (IfReady (string_bytes old.paths.base) (text old.host) IsLater)
  pub top : text new.host ≡ text old.host
  pub base : string_bytes new.paths.base ≡ string_bytes old.paths.base
  pub target : string_bytes new.target.base ≡ string_bytes old.target.base
  pub tells : new.tells ≡ old.tells

-- what changed of a host changed of what its folder tells
pub changes_of : {H : Type 0} (tell : H → Option Story) (old new : Host H) (P : Story → Story → Type 0) → new.tells ≡ old.tells → Changes (tell old.host) (tell new.host) P
    → Changes (story_of tell old) (story_of tell new) P
changes_of tell old new P same changed = subst (λ (b : Bool). Changes (story_of tell old) (told_if b (tell new.host)) P) (sym same) (changes_too old.tells (tell old.host) (tell new.host) P changed)

texts_flushed : {H : Type 0} (tell : H → Option Story) (text : H → List ℕ) (old new : Host H) → HasFlushes tell text old new → HasTexts text old → HasTexts text new
texts_flushed tell text old new flushed texts = record {
  base = flushed.base ∙ texts.base ∙ sym flushed.top;
  target = flushed.target ∙ texts.target ∙ sym flushed.top;
}

pub ready_of : {H : Type 0} (text : H → List ℕ) (host : Host H) (s : Story) → IsKept text host s → IsReady (string_bytes host.paths.base) (text host.host) s
ready_of text host s kept = record { sound = kept.held.sound; text = kept.texts.base }

pub kept_as : {H : Type 0} (text : H → List ℕ) (host : Host H) (s : Story) (touched moved : List Path) (failed : Bool) → HasTexts text host → host.touched.paths.items ≡ touched → host.moved.paths.items ≡ moved → host.flush_failed ≡ failed
    → IsHeld s touched moved failed → IsKept text host s
kept_as text host s touched moved failed texts is_touched is_moved is_failed held = record {
  texts = texts;
  held =
      subst (λ (f : Bool). IsHeld s host.touched.paths.items host.moved.paths.items f) (sym is_failed)
      (subst (λ (m : List Path). IsHeld s host.touched.paths.items m failed) (sym is_moved)
      (subst (λ (t : List Path). IsHeld s t moved failed) (sym is_touched) held));
}

-- a flush failed
pub kept_failed : {H : Type 0} (tell : H → Option Story) (text : H → List ℕ) (old new : Host H) → HasFlushes tell text old new
    → new.touched.paths.items ≡ old.touched.paths.items → new.moved.paths.items ≡ old.moved.paths.items → new.flush_failed ≡ true
    → Told (story_of tell old) (IsKept text old) → Told (story_of tell new) (IsKept text new)
kept_failed tell text old new flushed touched moved failed kept =
    told_after (story_of tell old) (story_of tell new) (IsKept text old) (IfReady (string_bytes old.paths.base) (text old.host) IsLater) (IsKept text new)
    (λ s t is later. kept_as text new t old.touched.paths.items old.moved.paths.items true (texts_flushed tell text old new flushed is.texts) touched moved failed
    (held_later s t old.touched.paths.items old.moved.paths.items old.flush_failed is.held (later (ready_of text old s is))))
    kept (changes_of tell old new (IfReady (string_bytes old.paths.base) (text old.host) IsLater) flushed.tells flushed.later)

-- all has come to the disk
pub kept_settled : {H : Type 0} (tell : H → Option Story) (text : H → List ℕ) (old new : Host H) → HasFlushes tell text old new
    → Changes (tell old.host) (tell new.host) (IfReady (string_bytes old.paths.base) (text old.host) (HaveCome old.touched.paths.items))
    → old.flush_failed ≡ false → new.touched.paths.items ≡ [] → new.moved.paths.items ≡ [] → new.flush_failed ≡ false
    → Told (story_of tell old) (IsKept text old) → Told (story_of tell new) (IsKept text new)
kept_settled tell text old new flushed come sure touched moved failed kept =
    told_after (story_of tell old) (story_of tell new) (IsKept text old)
    (λ s t. IfReady (string_bytes old.paths.base) (text old.host) IsLater s t × IfReady (string_bytes old.paths.base) (text old.host) (HaveCome old.touched.paths.items) s t) (IsKept text new)
    (λ s t is now.
    let ready = ready_of text old s is in
    kept_as text new t [] [] false (texts_flushed tell text old new flushed is.texts) touched moved failed
    (subst (λ (f : Bool). IsHeld t [] [] f) sure
    (held_settled s t old.touched.paths.items old.moved.paths.items old.flush_failed is.held (now.0 ready) (now.1 ready (is.held.surely sure)))))
    kept
    (changes_of tell old new (λ s t. IfReady (string_bytes old.paths.base) (text old.host) IsLater s t × IfReady (string_bytes old.paths.base) (text old.host) (HaveCome old.touched.paths.items) s t) flushed.tells
    (both_changed (tell old.host) (tell new.host) (IfReady (string_bytes old.paths.base) (text old.host) IsLater) (IfReady (string_bytes old.paths.base) (text old.host) (HaveCome old.touched.paths.items)) flushed.later come))

-- ---- syncs

-- the log gets the sync
pub kept_synced : {H : Type 0} (tell : H → Option Story) (text : H → List ℕ) (mid new : Host H) → new.tells ≡ mid.tells → text new.host ≡ text mid.host
    → string_bytes new.paths.base ≡ string_bytes mid.paths.base → string_bytes new.target.base ≡ string_bytes mid.target.base
    → mid.touched.paths.items ≡ [] → mid.moved.paths.items ≡ [] → mid.flush_failed ≡ false
    → new.touched.paths.items ≡ [] → new.moved.paths.items ≡ [] → new.flush_failed ≡ false
    → Changes (tell mid.host) (tell new.host) (HasNoted Synced) → Told (story_of tell mid) (IsKept text mid) → Told (story_of tell new) (IsKept text new)
kept_synced tell text mid new tells top base target touched moved failed touched_new moved_new failed_new noted kept =
    told_after (story_of tell mid) (story_of tell new) (IsKept text mid) (HasNoted Synced) (IsKept text new)
    (λ s t is now.
    let held : IsHeld s [] [] false =
    subst (λ (f : Bool). IsHeld s [] [] f) failed
    (subst (λ (m : List Path). IsHeld s [] m mid.flush_failed) moved
    (subst (λ (p : List Path). IsHeld s p mid.moved.paths.items mid.flush_failed) touched is.held)) in
    kept_as text new t [] [] false (record { base = base ∙ is.texts.base ∙ sym top; target = target ∙ is.texts.target ∙ sym top }) touched_new moved_new failed_new
    (subst (λ (u : Story). IsHeld u [] [] false) (sym now) (held_synced s false held (held.surely refl))))
    kept (changes_of tell mid new (HasNoted Synced) tells noted)

pub log_synced : {H : Type 0} (tell : H → Option Story) (old mid new : Host H) → new.tells ≡ mid.tells → Changes (tell mid.host) (tell new.host) (HasNoted Synced)
    → Changes (story_of tell old) (story_of tell mid) IsSameLog → Changes (story_of tell old) (story_of tell new) HasSynced
log_synced tell old mid new tells noted same =
    through (story_of tell old) (story_of tell mid) (story_of tell new) IsSameLog (HasNoted Synced) HasSynced
    (λ s t u was now. ap (λ (v : Story). v.diary) now ∙ ap (λ log. adds log Synced) was)
    same (changes_of tell mid new (HasNoted Synced) tells noted)
