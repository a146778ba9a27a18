-- Errors as refusals, and what each says.
use Rattle.std.specs.Prelude.{◌≡◌, ℕ, List, Option, IsSome, Result, ⊤}
use Rattle.outside.specs.Calls.{Told}
use Rattle.outside.specs.Disk.{Disk}
use Rattle.masterkey_file.specs.Password.{password_of}
use Rattle.masterkey_file.specs.declared.secret.PasswordErr.{PasswordErr}
use Rattle.masterkey_file.specs.declared.secret.PasswordErr.TheVariants as password_errs
use Rattle.unlocking.specs.declared.finding.FindErr.{FindErr}
use Rattle.unlocking.specs.declared.finding.FindErr.TheVariants as find_errs
use Rattle.unlocking.specs.FromFiles as unlock
use Rattle.unlocking.specs.Errors.{IsCause}
use Rattle.unlocking.specs.declared.errors.UnlockErr.TheVariants as unlock_errs
use Rattle.unlocking.specs.FromFolder.{IsUnlocking}
use Rattle.unlocking.specs.declared.from_folder.SecretKind.{SecretKind}
use Rattle.unlocking.specs.declared.from_folder.SecretKind.TheVariants.{Password}
use Rattle.unlocking.specs.declared.secret.SecretErr.{SecretErr}
use Rattle.unlocking.specs.declared.secret.SecretErr.TheVariants as secret_errs
use Rattle.unlocking.specs.declared.refusal.Refusal.{Refusal}
use Rattle.unlocking.specs.declared.refusal.Refusal.TheVariants.{Cause, SecretFault, FolderFault}

abbrev pub of_password : PasswordErr → SecretErr
of_password password_errs.BadSecret = secret_errs.Bad
of_password password_errs.Memory = secret_errs.Memory

abbrev pub of_secret : SecretErr → Refusal
of_secret secret_errs.Device = SecretFault
of_secret secret_errs.Bad = Cause unlock_errs.BadSecret
of_secret secret_errs.Memory = Cause unlock_errs.Memory

abbrev pub of_find : FindErr → Refusal
of_find find_errs.Device = FolderFault
of_find find_errs.Memory = Cause unlock_errs.Memory

-- what a refusal says of what was found in the key files
abbrev pub IsRefusal : {A : Type 0} → Refusal → Result A unlock.Cause → Type 0
IsRefusal (Cause e) found = IsCause e found
IsRefusal SecretFault found = ⊥
IsRefusal FolderFault found = ⊤

-- why a secret and a folder unlock nothing; the folder can have failed only if the secret has a password
abbrev pub IsRefusedBy : SecretKind → Option (List ℕ) → Option Disk → Refusal → Type 0
IsRefusedBy kind secret disk (Cause e) = IsUnlocking kind secret disk (IsCause e)
IsRefusedBy kind secret disk SecretFault = ⊤
IsRefusedBy kind secret disk FolderFault = (kind ≡ Password) × Told secret (λ bytes. IsSome (password_of bytes))
