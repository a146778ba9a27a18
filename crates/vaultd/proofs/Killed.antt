-- What a run that was killed left off the disk is at its loose paths.
use Rattle.std.proofs.Common.{◌≡◌, ℕ, List, Option, Some, Contains, refl, sym, ap, subst, ◌∙◌, inr, false}
use Rattle.outside.specs.Calls.{Told}
use Rattle.outside.specs.Disk.{Disk, Path}
use Rattle.outside.specs.Images.{Log, log_at, now, IsImage}
use Rattle.outside.specs.Unsynced.{touched, unsynced}
use Rattle.outside.proofs.Steady.{sound_image}
use Rattle.chunk_journal.specs.Journal.{IsTidy, IsLoose, TidySince}
use Rattle.chunk_journal.proofs.Found.{stays_tidy}
use Rattle.store_laws.specs.Store.{IsSaidFrom}
use Rattle.host_calls.specs.Story.{Story, disk_now, restarted}
use Rattle.host_folder.proofs.Keeping.{held_opened, opened_again}
use Rattle.vaultd.specs.Killed.{KilledVaultsAreSettled, UnopenedVaultsAreSettled, SettledVaultsAreHeld, IsOver, IsLeftByKill}

left_by_kill : (log : Log) (story : Story) → IsTidy log → IsOver log story → IsLeftByKill log story
left_by_kill log story tidy over =
    let is : disk_now story ≡ now log = over.held.shows ∙ ap now over.diary in
    record {
      image = subst (IsImage log) (sym is) (subst (λ (l : Log). IsImage l (now l)) over.diary (sound_image story.diary.start story.diary.calls over.held.log));
      settled = λ paths loose. opened_again story over.kept over.moved paths over.held (λ path has.
          (loose path).1 (subst (λ (d : Disk). IsLoose d path) (sym is)
          (tidy.loose path (subst (λ (l : Log). Contains (touched (unsynced l.calls)) path) over.diary has))));
    }

pub killed_vaults_are_settled : KilledVaultsAreSettled
killed_vaults_are_settled keys rows origin entries before after log stops is opened from m since within story over =
    left_by_kill (log_at log m) story
    (subst (λ (o : Option Log). Told o (λ (l : Log). (opened : ℕ) → IsSaidFrom before.log origin opened → TidySince opened l)) is stops.tidy opened from m since within) over

pub unopened_vaults_are_settled : UnopenedVaultsAreSettled
unopened_vaults_are_settled old new stays sound m since within story over =
    left_by_kill (log_at new m) story
    (stays_tidy old new stays (record { repeatable = sound.repeatable; no_folder = λ is. sound.clear.no_folder (inr is) }) m since within) over

pub settled_vaults_are_held : SettledVaultsAreHeld
settled_vaults_are_held paths story new opened later sure = (held_opened paths (restarted story) new opened later sure, later.diary)
