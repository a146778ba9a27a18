-- Why a job isn't done: its status, its line of the report, and the errors that it comes from.
use Rattle.std.specs.Prelude.{ℕ, List, ◌++◌, codes, decimal}
use Rattle.unlocking.specs.Errors as keys
use Rattle.unlocking.specs.declared.errors.UnlockErr.{UnlockErr}
use Rattle.unlocking.specs.declared.errors.UnlockErr.TheVariants as unlock_errs
use Rattle.unlocking.specs.declared.secret.SecretErr.{SecretErr}
use Rattle.unlocking.specs.declared.secret.SecretErr.TheVariants as secret_errs
use Rattle.unlocking.specs.declared.refusal.Refusal.{Refusal}
use Rattle.unlocking.specs.declared.refusal.Refusal.TheVariants as refusals
use Rattle.vault_make.specs.declared.error.MakeErr.{MakeErr}
use Rattle.vault_make.specs.declared.error.MakeErr.TheVariants as make_errs
use Rattle.vault_top.specs.declared.cause.Cause.{Cause}
use Rattle.vault_top.specs.declared.cause.Cause.TheVariants.{Words, Secret, KeyFiles, TooManyNodes, NoRoot, JournalDamaged, JournalOpen, NotEmpty, FolderFault, SecretFault, RandomFault, Memory}

-- the line of the report, without its LF
abbrev pub text_of : Cause → List ℕ
text_of Words = codes "bad words"
text_of Secret = codes "bad secret"
text_of (KeyFiles error) = keys.error_text error
text_of TooManyNodes = codes "vault refused: too many nodes"
text_of NoRoot = codes "vault refused: no root"
text_of (JournalDamaged at) = codes "journal damaged at " ++ decimal at
text_of JournalOpen = codes "journal open"
text_of (NotEmpty name) = codes "not empty: " ++ name
text_of FolderFault = codes "device fault: folder"
text_of SecretFault = codes "device fault: secret"
text_of RandomFault = codes "device fault: random"
text_of Memory = codes "out of memory"

-- the program's status
abbrev pub status_of : Cause → ℕ
status_of Words = 1
status_of Secret = 2
status_of (KeyFiles error) = keys.status_of error
status_of TooManyNodes = 3
status_of NoRoot = 3
status_of (JournalDamaged at) = 6
status_of JournalOpen = 15
status_of (NotEmpty name) = 8
status_of FolderFault = 4
status_of SecretFault = 4
status_of RandomFault = 4
status_of Memory = 5

-- ---- errors as causes

abbrev pub of_unlock : UnlockErr → Cause
of_unlock unlock_errs.BadSecret = Secret
of_unlock unlock_errs.NoMasterkeyFile = KeyFiles unlock_errs.NoMasterkeyFile
of_unlock (unlock_errs.MasterkeyFile error) = KeyFiles (unlock_errs.MasterkeyFile error)
of_unlock unlock_errs.NoVaultFile = KeyFiles unlock_errs.NoVaultFile
of_unlock (unlock_errs.VaultFile error) = KeyFiles (unlock_errs.VaultFile error)
of_unlock unlock_errs.Memory = Memory

abbrev pub of_refusal : Refusal → Cause
of_refusal (refusals.Cause error) = of_unlock error
of_refusal refusals.SecretFault = SecretFault
of_refusal refusals.FolderFault = FolderFault

abbrev pub of_secret : SecretErr → Cause
of_secret secret_errs.Device = SecretFault
of_secret secret_errs.Bad = Secret
of_secret secret_errs.Memory = Memory

abbrev pub of_make : MakeErr → Cause
of_make (make_errs.NotEmpty name) = NotEmpty name
of_make make_errs.Device = FolderFault
of_make make_errs.Entropy = RandomFault
of_make make_errs.Memory = Memory
