-- An empty folder becomes a vault.
use Rattle.std.proofs.Common.{◌≡◌, ℕ, List, [], ◌∷◌, Option, Some, None, IsSome, IsSomeAnd, refl, subst, ◌∙◌, inl, inr}
use Rattle.std.proofs.lemmas.Bool.{false≢true}
use Rattle.outside.specs.Calls.{Rose, Told}
use Rattle.outside.specs.Images.{Log, now}
use Rattle.outside.specs.Views.{EntropyView}
use Rattle.masterkey_file.specs.Password.{password_of}
use Rattle.unlocking.specs.declared.secret.SecretErr.{SecretErr}
use Rattle.unlocking.specs.declared.secret.SecretErr.TheVariants as secret_errs
use Rattle.vault_make.specs.Vault.{IsEmpty}
use Rattle.vault_make.specs.Entries.{IsFirstEntry}
use Rattle.vault_make.specs.Errors.{IsUnmade}
use Rattle.vault_make.specs.declared.error.MakeErr.{MakeErr}
use Rattle.vault_make.specs.declared.error.MakeErr.TheVariants as make_errs
use Rattle.vault_words.specs.Jobs.{serve, make, demo, help, version}
use Rattle.vault_top.specs.Causes.{of_secret, of_make}
use Rattle.vault_top.specs.declared.cause.Cause.{Cause}
use Rattle.vault_top.specs.declared.cause.Cause.TheVariants.{Memory}
use Rattle.vault_top.specs.Span.{Course, Views, WorkerSpan, Span, Given}
use Rattle.vault_top.specs.Making.{HasNoPassword, HasRisen, IsNotMade}
use Rattle.vault_top.specs.Ending.{Ending, refused, help_said, version_said, made, no_memory_to_serve, served, listener_fault, closing_fault, no_memory_to_report, only_read, whole, a_listener_failed, not_reported, not_shared, demonstrated, DrawsAlone, IsRefused, HasReason}
use Rattle.vault_top.specs.Sound.{IsSoundToMake, IsFaultless, IsMadeOrFull, SomeRandomFailed}
use Rattle.vault_top.proofs.Asked.{one_job, not_refused}

none_is_none : {A : Type 0} (o : Option A) → IsSome o → o ≡ None → ⊥
none_is_none o some e = false≢true (subst IsSome e some)

no_password : (secret : Option (List ℕ)) → IsSomeAnd secret (λ bytes. IsSome (password_of bytes)) → Told secret (λ bytes. password_of bytes ≡ None) → ⊥
no_password None some none = some
no_password (Some bytes) some none = none_is_none (password_of bytes) some none

no_entry : (name : List ℕ) (log : Option Log) → IsSomeAnd log (λ l. IsEmpty (now l)) → Told log (λ l. IsFirstEntry (now l) name) → ⊥
no_entry name None some first = some
no_entry name (Some l) empty first = none_is_none _ ((first.1.exact name).0 first.2.among) (empty.bare name)

secret_sound : (given : Given) (error : SecretErr) → IsSomeAnd given.secret.before.left (λ bytes. IsSome (password_of bytes))
    → (Rose given.secret.before.faults given.secret.after.faults → ⊥) → HasNoPassword given error → of_secret error ≡ Memory
secret_sound given secret_errs.Device sound faultless h = absurd (faultless h)
secret_sound given secret_errs.Bad sound faultless h = absurd (no_password given.secret.before.left sound h)
secret_sound given secret_errs.Memory sound faultless h = refl

make_sound : (given : Given) (entropy : Course EntropyView) (password : List ℕ) (error : MakeErr) → IsSomeAnd given.folder.before.log (λ log. IsEmpty (now log))
    → (Rose given.folder.before.faults given.folder.after.faults → ⊥) → (Rose entropy.before.faults entropy.after.faults → ⊥)
    → IsUnmade password error given.folder.before given.folder.after entropy.before entropy.after → HasRisen error given.folder entropy → of_make error ≡ Memory
make_sound given entropy password (make_errs.NotEmpty name) empty folder random why risen = absurd (no_entry name given.folder.before.log empty why.0)
make_sound given entropy password make_errs.Device empty folder random why risen = absurd (folder risen)
make_sound given entropy password make_errs.Entropy empty folder random why risen = absurd (random risen)
make_sound given entropy password make_errs.Memory empty folder random why risen = refl

not_made_sound : {C : Type 0} (given : Given) (cause : Cause) (workers : List (WorkerSpan C)) → IsSomeAnd given.secret.before.left (λ bytes. IsSome (password_of bytes))
    → IsSomeAnd given.folder.before.log (λ log. IsEmpty (now log))
    → (Rose given.secret.before.faults given.secret.after.faults → ⊥) → (Rose given.folder.before.faults given.folder.after.faults → ⊥) → (SomeRandomFailed workers → ⊥)
    → DrawsAlone (λ entropy. IsNotMade given entropy cause) workers → cause ≡ Memory
not_made_sound given cause [] sound empty secret folder random drawn = absurd drawn
not_made_sound given cause (first ∷ others) sound empty secret folder random drawn = elim drawn.1 [
  | inl h ↦ h.is ∙ secret_sound given h.error sound secret h.why
  | inr h ↦ h.is ∙ make_sound given first.entropy h.password h.error empty folder (λ rose. random (inl rose)) h.why h.risen
]

refused_sound : {C : Type 0} (span : Span C) (cause : Cause) → IsSoundToMake span → IsFaultless span → (SomeRandomFailed span.workers → ⊥) → IsRefused span cause → cause ≡ Memory
refused_sound span cause is faultless random (inl h) = elim h.why [
  | inl bad ↦ absurd (not_refused span.words (make is.making) is.words bad.1)
  | inr memory ↦ memory
]
refused_sound span cause is faultless random (inr (inl h)) =
    let e : serve h.serving ≡ make is.making = one_job span.words (make is.making) (serve h.serving) is.words h.words.asks in absurd cc
refused_sound span cause is faultless random (inr (inr h)) =
    not_made_sound span.given cause span.workers is.secret is.empty faultless.secret faultless.folder random h.drawn

pub sound_to_make : {D N C E K : Type 0} (views : Views D N C E K) (span : Span C) (ending : Ending) → IsSoundToMake span → IsFaultless span → (SomeRandomFailed span.workers → ⊥)
    → HasReason views span ending → IsMadeOrFull ending
sound_to_make views span (refused cause) is faultless random h = refused_sound span cause is faultless random h
sound_to_make views span (help_said topic) is faultless random h =
    let e : help topic ≡ make is.making = one_job span.words (make is.making) (help topic) is.words h.0.asks in absurd cc
sound_to_make views span version_said is faultless random h =
    let e : version ≡ make is.making = one_job span.words (make is.making) version is.words h.0.asks in absurd cc
sound_to_make views span made is faultless random h = tt
sound_to_make views span no_memory_to_serve is faultless random h =
    let e : serve h.serving ≡ make is.making = one_job span.words (make is.making) (serve h.serving) is.words h.words.asks in absurd cc
sound_to_make views span (served ends) is faultless random h =
    let e : serve h.0.serving ≡ make is.making = one_job span.words (make is.making) (serve h.0.serving) is.words h.0.words.asks in absurd cc
sound_to_make views span (listener_fault ends) is faultless random h =
    let e : serve h.0.serving ≡ make is.making = one_job span.words (make is.making) (serve h.0.serving) is.words h.0.words.asks in absurd cc
sound_to_make views span (closing_fault ends) is faultless random h =
    let e : serve h.0.serving ≡ make is.making = one_job span.words (make is.making) (serve h.0.serving) is.words h.0.words.asks in absurd cc
sound_to_make views span (no_memory_to_report ends) is faultless random h =
    let e : serve h.0.serving ≡ make is.making = one_job span.words (make is.making) (serve h.0.serving) is.words h.0.words.asks in absurd cc
sound_to_make views span (only_read (whole ends)) is faultless random h =
    let e : serve h.serving ≡ make is.making = one_job span.words (make is.making) (serve h.serving) is.words h.words.asks in absurd cc
sound_to_make views span (only_read (a_listener_failed ends)) is faultless random h =
    let e : serve h.0.serving ≡ make is.making = one_job span.words (make is.making) (serve h.0.serving) is.words h.0.words.asks in absurd cc
sound_to_make views span (only_read (not_reported ends)) is faultless random h =
    let e : serve h.serving ≡ make is.making = one_job span.words (make is.making) (serve h.serving) is.words h.words.asks in absurd cc
sound_to_make views span (only_read not_shared) is faultless random h =
    let e : serve h.serving ≡ make is.making = one_job span.words (make is.making) (serve h.serving) is.words h.words.asks in absurd cc
sound_to_make views span (demonstrated text) is faultless random h =
    let e : demo h.demonstration ≡ make is.making = one_job span.words (make is.making) (demo h.demonstration) is.words h.words.asks in absurd cc
