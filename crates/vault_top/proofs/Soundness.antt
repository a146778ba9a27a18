-- A sound vault is served.
use Rattle.std.proofs.Common.{◌≡◌, ◌⊎◌, ℕ, Bool, true, false, List, Option, Some, None, Result, Ok, IsSome, IsSomeAnd, refl, sym, subst, ◌∙◌, inl, inr, arith}
use Rattle.outside.specs.Calls.{Rose, Told, Changes}
use Rattle.outside.specs.Disk.{Disk, IsFolder}
use Rattle.outside.specs.Images.{Log, disk_in, now}
use Rattle.vault_keys.specs.Keys.{KeyPair}
use Rattle.deeds.specs.Deeds.{PlainDeed}
use Rattle.chunk_journal.specs.Journal.{HoldsBatch, IsAlike, IsClosed, RecoversTo}
use Rattle.chunk_journal.proofs.Gate.{closed_not_held}
use Rattle.chunk_journal.specs.Opening.{HasOpened, IsDamagedAt, LeavesFolder}
use Rattle.tree_model.specs.History.{tally_at, tally_of}
use Rattle.unlocking.specs.FromFiles.{UnlockedVault}
use Rattle.unlocking.specs.FromFiles as unlock
use Rattle.unlocking.specs.Errors.{IsOf, IsCause, key_fault, config_fault}
use Rattle.unlocking.specs.declared.errors.UnlockErr.{UnlockErr}
use Rattle.unlocking.specs.declared.errors.UnlockErr.TheVariants as unlock_errs
use Rattle.unlocking.specs.FromFolder as unlocking
use Rattle.unlocking.specs.FromFolder.{IsUnlocking}
use Rattle.unlocking.specs.declared.from_folder.SecretKind.{SecretKind}
use Rattle.unlocking.specs.declared.refusal.Refusal.{Refusal}
use Rattle.unlocking.specs.declared.refusal.Refusal.TheVariants as refusals
use Rattle.vault_words.specs.Jobs.{serve, make, demo, help, version}
use Rattle.tree_loading.specs.Clear.{HasTooMany, root_folder}
use Rattle.vault_store.specs.ReadOnly.{HasRefusedToRead}
use Rattle.vault_store.specs.declared.read_only.ReadOnlyErr.{ReadOnlyErr}
use Rattle.vault_store.specs.declared.read_only.ReadOnlyErr.TheVariants.{JournalOpen, NotOpened}
use Rattle.vault_store.specs.declared.opening.OpenErr.{OpenErr}
use Rattle.vault_store.specs.declared.opening.OpenErr.TheVariants as open_errs
use Rattle.vault_top.specs.Causes.{of_refusal, of_unlock}
use Rattle.vault_top.specs.declared.cause.Cause.{Cause}
use Rattle.vault_top.specs.declared.cause.Cause.TheVariants.{Memory}
use Rattle.vault_top.specs.Words.{kind_of}
use Rattle.vault_top.specs.Span.{Views, Span, Given, IsOnlyRead}
use Rattle.vault_top.specs.Served.{Share, HasHistory}
use Rattle.vault_top.specs.Opening.{IsLocked, IsClosedBy, IsUnlocked, IsUnopened, IsUnread, FailsToUnlock, FailsToOpen, FailsToRead, of_opening, of_reading}
use Rattle.vault_top.specs.Ending.{Ending, refused, help_said, version_said, made, no_memory_to_serve, served, listener_fault, closing_fault, no_memory_to_report, only_read, whole, a_listener_failed, not_reported, not_shared, demonstrated, FailsAtTheEnd, IsRefused, HasReason, stopped_in}
use Rattle.vault_top.specs.Sound.{IsVaultFor, IsSound, IsFaultless, IsServedOrFull}
use Rattle.vault_top.proofs.Asked.{one_job, not_refused}
use Rattle.vault_top.proofs.Faults.{faults_rise, rose_within, stopped_rose}

-- ---- a secret that unlocks a vault has no cause against it

no_cause : {A : Type 0} (x : A) (e : UnlockErr) → IsCause e (Ok x) → e ≡ unlock_errs.Memory
no_cause x unlock_errs.BadSecret h = absurd cc
no_cause x unlock_errs.NoMasterkeyFile h = absurd cc
no_cause x (unlock_errs.MasterkeyFile e) h = absurd (none (key_fault e) h)
  where
    none : (fault : Option _) → IsOf unlock.bad_masterkey_file fault (Ok x) → ⊥
    none (Some f) is = absurd cc
    none None is = is
no_cause x unlock_errs.NoVaultFile h = absurd cc
no_cause x (unlock_errs.VaultFile e) h = absurd (none (config_fault e) h)
  where
    none : (fault : Option _) → IsOf unlock.bad_vault_file fault (Ok x) → ⊥
    none (Some f) is = absurd cc
    none None is = is
no_cause x unlock_errs.Memory h = refl

-- of what is told, what unlocks
abbrev Unlocks : SecretKind → Option (List ℕ) → Option Disk → Type 0
Unlocks kind secret disk = IsSomeAnd secret (λ bytes. IsSomeAnd disk (IsVaultFor kind bytes))

-- a disk of which a vault that was unlocked can be opened
pub record IsOpenable (vault : UnlockedVault) (disk : Disk) : Type 0 where
  pub undamaged : (at : ℕ) → IsDamagedAt disk at ⊎ LeavesFolder disk at → ⊥
  pub root : (found after : Disk) → RecoversTo disk found → IsAlike found after → IsFolder after (root_folder vault.keys)
  pub few : (found after : Disk) (n : ℕ) → RecoversTo disk found → IsAlike found after → HasTooMany vault.keys (Some after) n → ⊥

-- what a sound vault unlocks, of which P holds
pub unlocks : (kind : SecretKind) (secret : Option (List ℕ)) (disk : Option Disk) (P : Result UnlockedVault unlock.Cause → Type 0) → Unlocks kind secret disk → IsUnlocking kind secret disk P
    → (vault : UnlockedVault) × P (Ok vault) × IsSomeAnd disk (IsOpenable vault)
unlocks kind None disk P sound is = absurd sound
unlocks kind (Some bytes) None P sound is = absurd sound
unlocks kind (Some bytes) (Some d) P sound is = (
  sound.vault,
  subst P (subst (λ files. unlocking.unlock kind bytes files ≡ Ok sound.vault) (sym is.1) sound.unlocks) is.2,
  record { undamaged = sound.undamaged; root = sound.root; few = sound.few },
)

-- ---- such a disk is opened

undamaged : (vault : UnlockedVault) (log : Option Log) (at : ℕ) → IsSomeAnd (disk_in log) (IsOpenable vault) → Told log (λ l. IsDamagedAt (now l) at ⊎ LeavesFolder (now l) at) → ⊥
undamaged vault None at openable damaged = openable
undamaged vault (Some l) at openable damaged = openable.undamaged at damaged

-- of what its journal's opening left P doesn't hold
not_left : (vault : UnlockedVault) (P : Disk → Type 0) (a b : Option Log) → ((disk found after : Disk) → IsOpenable vault disk → RecoversTo disk found → IsAlike found after → P after → ⊥)
    → IsSomeAnd (disk_in a) (IsOpenable vault) → Changes a b (λ old new. HasOpened old new × P (now new)) → ⊥
not_left vault P None b never openable left = openable
not_left vault P (Some old) None never openable left = left
not_left vault P (Some old) (Some new) never openable left = never (now old) left.0.disk (now new) openable left.0.recovers left.0.alike left.1

locked_sound : (given : Given) (kind : SecretKind) (refusal : Refusal) → Unlocks kind given.secret.before.left (disk_in given.folder.before.log)
    → (Rose given.secret.before.faults given.secret.after.faults → ⊥) → (Rose given.folder.before.faults given.folder.after.faults → ⊥)
    → IsLocked given kind refusal → of_refusal refusal ≡ Memory
locked_sound given kind (refusals.Cause e) sound secret folder h =
    let u = unlocks kind given.secret.before.left (disk_in given.folder.before.log) (IsCause e) sound h.cause in
    subst (λ x. of_unlock x ≡ Memory) (sym (no_cause u.0 e u.1)) refl
locked_sound given kind refusals.SecretFault sound secret folder h = absurd (secret (h.secret refl))
locked_sound given kind refusals.FolderFault sound secret folder h = absurd (folder (h.folder refl))

same_vault : (P : UnlockedVault → Type 0) (v w : UnlockedVault) (found : Result UnlockedVault unlock.Cause) → found ≡ Ok v → found ≡ Ok w → P v → P w
same_vault P v w found e f h = let same : v ≡ w = cc in subst P same h

closed_sound : (given : Given) (vault : UnlockedVault) (error : OpenErr) → IsSomeAnd (disk_in given.folder.before.log) (IsOpenable vault)
    → (Rose given.folder.before.faults given.folder.after.faults → ⊥) → IsClosedBy given vault error → of_opening error ≡ Memory
closed_sound given vault open_errs.Device openable folder h = absurd (folder h)
closed_sound given vault (open_errs.JournalDamaged at) openable folder h = absurd (undamaged vault given.folder.before.log at openable h.damaged)
closed_sound given vault (open_errs.TooMany n) openable folder h =
    absurd (not_left vault (λ disk. HasTooMany vault.keys (Some disk) n) given.folder.before.log given.folder.after.log
    (λ disk found after is recovers alike many. is.few found after n recovers alike many) openable h)
closed_sound given vault open_errs.NoRoot openable folder h =
    absurd (not_left vault (λ disk. ¬ (IsFolder disk (root_folder vault.keys))) given.folder.before.log given.folder.after.log
    (λ disk found after is recovers alike bare. bare (is.root found after recovers alike)) openable h)
closed_sound given vault open_errs.Memory openable folder h = refl

-- nor is one refused that is only to be read, whose journal is closed
not_found : (vault : UnlockedVault) (log : Option Log) (P : Disk → Type 0) → ((disk : Disk) → IsOpenable vault disk → IsClosed disk → P disk → ⊥) → IsSomeAnd (disk_in log) (IsOpenable vault) → IsSomeAnd (disk_in log) IsClosed
    → Told log (λ l. P (now l)) → ⊥
not_found vault None P never openable closed is = openable
not_found vault (Some log) P never openable closed is = never (now log) openable closed is

told_disk : (log : Option Log) (P : Disk → Type 0) → Told (disk_in log) P → Told log (λ l. P (now l))
told_disk None P is = tt
told_disk (Some log) P is = is

told_many : (keys : KeyPair) (n : ℕ) (log : Option Log) → HasTooMany keys (disk_in log) n → Told log (λ l. HasTooMany keys (Some (now l)) n)
told_many keys n None many = tt
told_many keys n (Some log) many = many

refused_to_read : (given : Given) (vault : UnlockedVault) (error : ReadOnlyErr) → IsSomeAnd (disk_in given.folder.before.log) (IsOpenable vault) → IsSomeAnd (disk_in given.folder.before.log) IsClosed
    → (Rose given.folder.before.faults given.folder.after.faults → ⊥) → HasRefusedToRead given.folder.before given.folder.after vault.keys error → of_reading error ≡ Memory
refused_to_read given vault JournalOpen openable closed folder h =
    absurd (not_found vault given.folder.before.log (λ disk. (deeds : List PlainDeed) × HoldsBatch disk deeds) (λ disk is shut held. closed_not_held disk held.0 shut held.1) openable closed (h.journal refl))
refused_to_read given vault (NotOpened open_errs.Device) openable closed folder h = absurd (folder (h.device.rose refl))
refused_to_read given vault (NotOpened (open_errs.JournalDamaged at)) openable closed folder h =
    absurd (not_found vault given.folder.before.log (λ disk. IsDamagedAt disk at) (λ disk is shut bad. is.undamaged at (inl bad)) openable closed (h.damaged at refl))
refused_to_read given vault (NotOpened (open_errs.TooMany n)) openable closed folder h =
    absurd (not_found vault given.folder.before.log (λ disk. HasTooMany vault.keys (Some disk) n) (λ disk is shut many. is.few disk disk n (inl (shut, refl)) (λ q apart from. refl) many) openable closed (told_many vault.keys n given.folder.before.log (h.too_many n refl).1))
refused_to_read given vault (NotOpened open_errs.NoRoot) openable closed folder h =
    absurd (not_found vault given.folder.before.log (λ disk. ¬ (IsFolder disk (root_folder vault.keys))) (λ disk is shut bare. bare (is.root disk disk (inl (shut, refl)) (λ q apart from. refl))) openable closed (told_disk given.folder.before.log (λ disk. ¬ (IsFolder disk (root_folder vault.keys))) (h.no_root refl).1))
refused_to_read given vault (NotOpened open_errs.Memory) openable closed folder h = refl

module _ (given : Given) (kind : SecretKind) (sound : Unlocks kind given.secret.before.left (disk_in given.folder.before.log)) (secret : Rose given.secret.before.faults given.secret.after.faults → ⊥)
    (folder : Rose given.folder.before.faults given.folder.after.faults → ⊥) where
  -- what was unlocked can be opened
  openable_with : (vault : UnlockedVault) → IsUnlocked given kind vault → IsSomeAnd (disk_in given.folder.before.log) (IsOpenable vault)
  openable_with vault unlocked =
      let u = unlocks kind given.secret.before.left (disk_in given.folder.before.log) (λ found. found ≡ Ok vault) sound unlocked.gave in
      same_vault (λ v. IsSomeAnd (disk_in given.folder.before.log) (IsOpenable v)) u.0 vault (Ok u.0) refl u.1 u.2

  unlocked_sound : (cause : Cause) → FailsToUnlock given kind cause → cause ≡ Memory
  unlocked_sound cause h = h.is ∙ locked_sound given kind h.refusal sound secret folder h.locked

  unopened_sound : (cause : Cause) → (FailsToUnlock given kind cause × IsOnlyRead given.folder.before given.folder.after) ⊎ FailsToOpen given kind cause → cause ≡ Memory
  unopened_sound cause (inl h) = unlocked_sound cause h.0
  unopened_sound cause (inr h) = h.is ∙ closed_sound given h.vault h.error (openable_with h.vault h.unlocked) folder h.closed

  unread_sound : (cause : Cause) → IsSomeAnd (disk_in given.folder.before.log) IsClosed → FailsToUnlock given kind cause ⊎ FailsToRead given kind cause → cause ≡ Memory
  unread_sound cause closed (inl h) = unlocked_sound cause h
  unread_sound cause closed (inr h) = h.is ∙ refused_to_read given h.vault h.error (openable_with h.vault h.unlocked) closed folder h.refused

  unserved_sound : (cause : Cause) (read_only : Bool) → (read_only ≡ true → IsSomeAnd (disk_in given.folder.before.log) IsClosed)
      → ((read_only ≡ false) × IsUnopened given kind cause) ⊎ ((read_only ≡ true) × IsUnread given kind cause) → cause ≡ Memory
  unserved_sound cause read_only closed (inl h) = unopened_sound cause h.1.why
  unserved_sound cause read_only closed (inr h) = unread_sound cause (closed h.0) h.1.why

refused_sound : {C : Type 0} (span : Span C) (cause : Cause) → IsSound span → IsFaultless span → IsRefused span cause → cause ≡ Memory
refused_sound span cause is faultless (inl h) = elim h.why [
  | inl bad ↦ absurd (not_refused span.words (serve is.serving) is.words bad.1)
  | inr memory ↦ memory
]
refused_sound span cause is faultless (inr (inl h)) =
    let e : serve h.serving ≡ serve is.serving = one_job span.words (serve is.serving) (serve h.serving) is.words h.words.asks in
    let same : is.serving ≡ h.serving = cc in
    unserved_sound span.given (kind_of h.serving) (subst (λ s. Unlocks (kind_of s) span.given.secret.before.left (disk_in span.given.folder.before.log)) same is.vault) faultless.secret faultless.folder
    cause h.serving.read_only (subst (λ s. s.read_only ≡ true → IsSomeAnd (disk_in span.given.folder.before.log) IsClosed) same is.closed) h.unopened
refused_sound span cause is faultless (inr (inr h)) =
    let e : make h.making ≡ serve is.serving = one_job span.words (serve is.serving) (make h.making) is.words h.words.asks in absurd cc

-- ---- a commit that failed

-- the folder's count rose
commit_rose : {C : Type 0} (span : Span C) (keys : KeyPair) (shares : List (Share C)) (history : HasHistory span keys shares) → IsSome (stopped_in history) → Rose span.given.folder.before.faults span.given.folder.after.faults
commit_rose span keys shares history stopped =
    let rise = faults_rise (tally_at history.origin) history.entries history.caused in
    rose_within span.given.folder.before.faults history.origin.folder_faults (tally_of history.origin history.entries).folder_faults span.given.folder.after.faults
    history.since.folder rise history.up_to.folder (stopped_rose (tally_at history.origin) history.entries refl history.caused stopped)

-- even if it was the last one
closing_rose : {C : Type 0} (span : Span C) (keys : KeyPair) (shares : List (Share C)) (history : HasHistory span keys shares) → IsSome (stopped_in history) ⊎ FailsAtTheEnd history
    → Rose span.given.folder.before.faults span.given.folder.after.faults
closing_rose span keys shares history (inl stopped) = commit_rose span keys shares history stopped
closing_rose span keys shares history (inr rose) =
    let rise = faults_rise (tally_at history.origin) history.entries history.caused in
    rose_within span.given.folder.before.faults (tally_of history.origin history.entries).folder_faults span.given.folder.after.faults span.given.folder.after.faults
    (omega (arith, history.since.folder, rise)) history.up_to.folder (omega arith) rose

pub sound : {D N C E K : Type 0} (views : Views D N C E K) (span : Span C) (ending : Ending) → IsSound span → IsFaultless span → HasReason views span ending → IsServedOrFull ending
sound views span (refused cause) is faultless h = refused_sound span cause is faultless h
sound views span (help_said topic) is faultless h =
    let e : help topic ≡ serve is.serving = one_job span.words (serve is.serving) (help topic) is.words h.0.asks in absurd cc
sound views span version_said is faultless h =
    let e : version ≡ serve is.serving = one_job span.words (serve is.serving) version is.words h.0.asks in absurd cc
sound views span made is faultless h =
    let e : make h.making ≡ serve is.serving = one_job span.words (serve is.serving) (make h.making) is.words h.words.asks in absurd cc
sound views span no_memory_to_serve is faultless h = tt
sound views span (served ends) is faultless h = tt
sound views span (listener_fault ends) is faultless h = absurd (faultless.listeners h.1)
sound views span (closing_fault ends) is faultless h =
    absurd (faultless.folder (closing_rose span h.0.sessions.vault.keys h.0.sessions.shares h.0.sessions.history h.1.cause))
sound views span (no_memory_to_report ends) is faultless h = tt
sound views span (only_read (whole ends)) is faultless h = tt
sound views span (only_read (a_listener_failed ends)) is faultless h = absurd (faultless.listeners h.1)
sound views span (only_read (not_reported ends)) is faultless h = tt
sound views span (only_read not_shared) is faultless h = tt
sound views span (demonstrated text) is faultless h =
    let e : demo h.demonstration ≡ serve is.serving = one_job span.words (serve is.serving) (demo h.demonstration) is.words h.words.asks in absurd cc
