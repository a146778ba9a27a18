-- Of a folder whose journal isn't damaged no run leaves one that is.
use Rattle.std.proofs.Common.{◌≡◌, ◌⊎◌, ℕ, suc, List, [], Option, None, Some, refl, sym, ap, subst, inl, inr}
use Rattle.outside.specs.Calls.{Changes, Told}
use Rattle.outside.specs.Disk.{Disk}
use Rattle.outside.specs.Images.{Log, moment, now, LeavesOnly}
use Rattle.outside.specs.Views.{FolderView}
use Rattle.outside.proofs.Moments.{started}
use Rattle.outside.proofs.Steady.{sound_image, sound_tree}
use Rattle.vault_keys.specs.Keys.{KeyPair}
use Rattle.deeds.specs.Deeds.{LogGoesOn}
use Rattle.chunk_journal.specs.Opening.{IsDamagedAt, IsOpenable, LeavesFolder, StaysOpening}
use Rattle.chunk_journal.proofs.Undamaged.{leaves_openable, leaves_since, never_answered, recovering_opens}
use Rattle.tree_model.specs.Rows.{Rows}
use Rattle.tree_model.specs.History.{Entry, Origin}
use Rattle.crash_laws.specs.Crash.{DiskShows}
use Rattle.crash_laws.specs.Opening.{IsSoundlyFound}
use Rattle.crash_laws.specs.Prefix.{IsCrashPrefix, StopsRecover}
use Rattle.store_laws.specs.Store.{IsSaidFrom, shows_under}
use Rattle.vault_words.specs.Jobs.{Making, make}
use Rattle.vault_top.specs.declared.cause.Cause.{Cause}
use Rattle.vault_top.specs.Words.{Ask}
use Rattle.vault_top.specs.Span.{Given, IsOnlyRead, Span, Views}
use Rattle.vault_top.specs.Served.{HasStops}
use Rattle.vault_top.specs.Opening.{HasDamagedJournal, IsUnopened}
use Rattle.vault_top.specs.Ending.{Ending, refused, help_said, version_said, made, no_memory_to_serve, served, listener_fault, closing_fault, no_memory_to_report, only_read, whole, a_listener_failed, not_reported, not_shared, demonstrated, HasReason, IsRefused, IsUntouched}
use Rattle.vault_top.specs.Stopped.{IsFoundOpenable, NewVaultsAreOpenable, KeepsOpenable, StoppedVaultsAreOpenable}
use Rattle.vault_top.proofs.Stopped.{new_recovers, new_reopens}
use Rattle.unlocking.specs.declared.from_folder.SecretKind.{SecretKind}

-- ---- what a history leaves

prefix_opens : (Shows : DiskShows) (rows : Rows) (entries : List Entry) (low high : ℕ) (image : Disk) → IsCrashPrefix Shows rows entries low high image → IsOpenable image
prefix_opens Shows rows entries low high image is = recovering_opens image is.disk is.recovers is.reopenable

pub stopped_vaults_are_openable : StoppedVaultsAreOpenable
stopped_vaults_are_openable keys rows origin entries before after log stops is opened m from since within image here =
    prefix_opens (shows_under before.log keys) rows entries _ _ image
    (subst (λ (o : Option Log). Told o (λ (l : Log). (opened : ℕ) → IsSaidFrom before.log origin opened → StopsRecover (shows_under before.log keys) opened rows entries l)) is stops.recover
    opened from m since within image here)

pub new_vaults_are_openable : NewVaultsAreOpenable
new_vaults_are_openable password secrets disk is = recovering_opens disk disk (new_recovers password secrets disk is) (new_reopens password secrets disk is)

-- ---- what a run leaves

soundly_found : (log : Log) → IsFoundOpenable log → IsSoundlyFound (now log)
soundly_found log found = record {
  clear = record { tree = sound_tree log.start log.calls found.sound; no_folder = λ has. is.undamaged 0 (inl (has, refl)) };
  repeatable = is.again.repeatable;
}
  where
    is : IsOpenable (now log)
    is = found.images (now log) (sound_image log.start log.calls found.sound)

still : (a b : Option Log) → b ≡ a → KeepsOpenable a b
still None b same found = subst (λ (o : Option Log). Changes None o (λ old new. LeavesOnly old new IsOpenable)) (sym same) tt
still (Some log) b same found = subst (λ (o : Option Log). Changes (Some log) o (λ old new. LeavesOnly old new IsOpenable)) (sym same) (started log IsOpenable found.images)

not_opened : (a b : Option Log) → Changes a b StaysOpening → KeepsOpenable a b
not_opened None None stays found = tt
not_opened None (Some new) stays found = absurd stays
not_opened (Some old) None stays found = absurd stays
not_opened (Some old) (Some new) stays found = leaves_openable old new stays found.images

module _ (keys : KeyPair) (rows : Rows) (origin : Origin) (entries : List Entry) where
  told_stops : (a b : Option Log) → Changes a b LogGoesOn → Told b (λ log. (opened : ℕ) → IsSaidFrom a origin opened → StopsRecover (shows_under a keys) opened rows entries log) → KeepsOpenable a b
  told_stops None None grown recover found = tt
  told_stops None (Some new) grown recover found = absurd grown
  told_stops (Some old) None grown recover found = absurd grown
  told_stops (Some old) (Some new) grown recover found = leaves_since old new IsOpenable grown found.images (λ m from to image is.
      prefix_opens (shows_under (Some old) keys) rows entries _ _ image (recover (suc (moment old)) (inr (soundly_found old found, refl)) m from to image is))

  opened : (before after : FolderView) → HasStops keys rows origin entries before after → KeepsOpenable before.log after.log
  opened before after stops = told_stops before.log after.log stops.grown stops.recover

module _ {C : Type 0} (span : Span C) (makes_none : (making : Making) → Ask span.words (make making) → ⊥) where
  abbrev Stays : Type 0
  Stays = KeepsOpenable span.given.folder.before.log span.given.folder.after.log

  untouched : IsUntouched span → Stays
  untouched is = still span.given.folder.before.log span.given.folder.after.log (ap (λ (v : FolderView). v.log) is.folder)

  only_read_of : IsOnlyRead span.given.folder.before span.given.folder.after → Stays
  only_read_of read = still span.given.folder.before.log span.given.folder.after.log read.log

  unopened : (kind : SecretKind) (cause : Cause) → IsUnopened span.given kind cause → Stays
  unopened kind cause is = elim is.why [
    | inl locked ↦ only_read_of locked.1
    | inr fails ↦ not_opened span.given.folder.before.log span.given.folder.after.log fails.stays
  ]

  not_done : (cause : Cause) → IsRefused span cause → Stays
  not_done cause (inl asked) = untouched asked.untouched
  not_done cause (inr (inl unserved)) = elim unserved.unopened [
    | inl writes ↦ unopened _ cause writes.1
    | inr reads ↦ only_read_of reads.1.read
  ]
  not_done cause (inr (inr making)) = absurd (makes_none making.making making.words)

  pub stays_by : {D N E K : Type 0} (views : Views D N C E K) (ending : Ending) → HasReason views span ending → Stays
  stays_by views (refused cause) reason = not_done cause reason
  stays_by views (help_said topic) reason = untouched reason.1
  stays_by views version_said reason = untouched reason.1
  stays_by views made reason = absurd (makes_none reason.making reason.words)
  stays_by views no_memory_to_serve reason = opened reason.vault.keys reason.rows reason.origin [] _ _ reason.stops
  stays_by views (served ends) reason = let h = reason.0.sessions.history in opened _ h.rows h.origin h.entries _ _ h.stops
  stays_by views (listener_fault ends) reason = let h = reason.0.sessions.history in opened _ h.rows h.origin h.entries _ _ h.stops
  stays_by views (closing_fault ends) reason = let h = reason.0.sessions.history in opened _ h.rows h.origin h.entries _ _ h.stops
  stays_by views (no_memory_to_report ends) reason = let h = reason.0.sessions.history in opened _ h.rows h.origin h.entries _ _ h.stops
  stays_by views (only_read (whole ends)) reason = only_read_of reason.sessions.readings.read
  stays_by views (only_read (a_listener_failed ends)) reason = only_read_of reason.0.sessions.readings.read
  stays_by views (only_read (not_reported ends)) reason = only_read_of reason.sessions.readings.read
  stays_by views (only_read not_shared) reason = only_read_of reason.read
  stays_by views (demonstrated text) reason = untouched reason.untouched

-- ---- what the next run answers

pub never_damaged : (given : Given) (log : Log) (at : ℕ) → given.folder.before.log ≡ Some log → IsOpenable (now log) → HasDamagedJournal given at → ⊥
never_damaged given log at is openable bad =
    never_answered (now log) at openable (subst (λ (o : Option Log). Told o (λ (l : Log). IsDamagedAt (now l) at ⊎ LeavesFolder (now l) at)) is bad.damaged)
