-- What a folder keeps that is only read until it is settled.
use Rattle.std.proofs.Common.{◌≡◌, ℕ, Bool, true, false, List, [], Option, Some, None, sym, ap, subst, ◌∙◌, string_bytes}
use Rattle.std.specs.Option.{option_map}
use Rattle.outside.specs.Calls.{Told, Changes}
use Rattle.outside.specs.Images.{Log, IsSound, now}
use Rattle.host_calls.specs.Story.{Story, disk_now}
use Rattle.host_folder.specs.Held.{IsLater}
use Rattle.host_folder.specs.Opened.{IsBegun, IsOpened}
use Rattle.host_folder.specs.Telling.{told_if, diary_of}
use Rattle.host_folder.specs.Behind.{IsShown, IsUnsettled, HasLooked}
use Rattle.host_folder.specs.declared.host.Host.{Host}
use Rattle.host_folder.proofs.Shown.{texts_looked}
use Rattle.host_folder.proofs.Telling.{told_again, told_again_both}

-- ---- an opening

shown_begun : {H : Type 0} (text : H → List ℕ) (host : Host H) (path : List ℕ) (s : Story) → string_bytes host.paths.base ≡ path → string_bytes host.target.base ≡ path
    → path ≡ text host.host → IsBegun s → IsShown text host s
shown_begun text host path s base target top begun = record {
  texts = record { base = base ∙ top; target = target ∙ top };
  log = subst (λ (log : Log). IsSound log.start log.calls) (sym begun.diary) begun.tree;
  shows = ap now (sym begun.diary);
}

-- reads give what the log begins with
pub told_begun : {H : Type 0} (tell : H → Option Story) (text : H → List ℕ) (host : Host H) (given : H) (path : List ℕ) → host.host ≡ given
    → (string_bytes host.paths.base ≡ path) × (string_bytes host.target.base ≡ path) → Told (tell given) (λ s. path ≡ text given) → Told (tell given) IsBegun
    → Told (tell host.host) (IsShown text host)
told_begun tell text host given path is texts top begun =
    told_again_both (tell given) (tell host.host) (λ s. path ≡ text given) IsBegun (IsShown text host) (ap tell is)
    (λ s named b. shown_begun text host path s texts.0 texts.1 (named ∙ ap text (sym is)) b) top begun

-- ---- a look

unsettled_looked : {H : Type 0} (tell : H → Option Story) (text : H → List ℕ) (old new : Host H) → HasLooked tell text old new → IsUnsettled old → IsUnsettled new
unsettled_looked tell text old new looked is = record {
  touched = looked.touched ∙ is.touched;
  moved = looked.moved ∙ is.moved;
  failed = looked.failed ∙ is.failed;
}

-- what is kept then
pub kept_unsettled : {H : Type 0} (tell : H → Option Story) (text : H → List ℕ) (old new : Host H) → HasLooked tell text old new
    → IsUnsettled old × (old.tells ≡ true) × Told (tell old.host) (IsShown text old)
    → IsUnsettled new × (new.tells ≡ true) × Told (tell new.host) (IsShown text new)
kept_unsettled tell text old new looked kept = (
  unsettled_looked tell text old new looked kept.0,
  looked.tells ∙ kept.1,
  told_again (tell old.host) (tell new.host) (IsShown text old) (IsShown text new) looked.story
      (λ s is. record { texts = texts_looked tell text old new looked is.texts; log = is.log; shows = is.shows }) kept.2,
)

-- ---- a settling

-- the log begins with what reads gave
pub log_settled : (tells : Bool) (paths : List (List (List ℕ))) (a b : Option Story) → Told a (IsOpened paths) → Changes a b IsLater
    → Told a (λ s. tells ≡ true → option_map diary_of (told_if tells b) ≡ Some (record { start = disk_now s; calls = [] }))
log_settled tells paths None b opened later = tt
log_settled tells paths (Some s) None opened later = absurd later
log_settled tells paths (Some s) (Some t) opened later =
    λ is. ap (λ (yes : Bool). option_map diary_of (told_if yes (Some t))) is ∙ ap (λ (log : Log). Some log) (later.diary ∙ opened.begun.diary)

-- ---- a folder that tells nothing

pub told_none : {X : Type 0} (tells : Bool) (a : Option X) (P : X → Type 0) → tells ≡ false → Told (told_if tells a) P
told_none tells a P is = subst (λ (t : Bool). Told (told_if t a) P) (sym is) tt
