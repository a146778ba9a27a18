-- What a killed run left off the disk is on it, once the loose paths are flushed.
use Rattle.std.proofs.Common.{ℕ, Option, subst, inr}
use Rattle.outside.specs.Calls.{Told}
use Rattle.outside.specs.Images.{Log, log_at}
use Rattle.chunk_journal.specs.Journal.{TidySince}
use Rattle.chunk_journal.proofs.Flushed.{tidy_flushed}
use Rattle.chunk_journal.proofs.Found.{stays_tidy}
use Rattle.store_laws.specs.Store.{IsSaidFrom}
use Rattle.vault_top.specs.Stopped.{KilledVaultsAreFlushed, UnopenedVaultsAreFlushed}

pub killed_vaults_are_flushed : KilledVaultsAreFlushed
killed_vaults_are_flushed keys rows origin entries before after log stops is opened from m since within =
    tidy_flushed (log_at log m)
    (subst (λ (o : Option Log). Told o (λ (l : Log). (opened : ℕ) → IsSaidFrom before.log origin opened → TidySince opened l)) is stops.tidy opened from m since within)

pub unopened_vaults_are_flushed : UnopenedVaultsAreFlushed
unopened_vaults_are_flushed old new stays sound m since within =
    tidy_flushed (log_at new m)
    (stays_tidy old new stays (record { repeatable = sound.repeatable; no_folder = λ is. sound.clear.no_folder (inr is) }) m since within)
