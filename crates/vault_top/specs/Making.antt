-- Making a vault under the secret's password: what it gives, and why not.
use Rattle.std.specs.Prelude.{◌≡◌, ◌⊎◌, ℕ, ◌+◌, ◌≤◌, List, Some, None, ⊤}
use Rattle.outside.specs.Calls.{Rose, Told, Changes}
use Rattle.outside.specs.Views.{FolderView, EntropyView}
use Rattle.masterkey_file.specs.Password.{password_of}
use Rattle.vault_layout.specs.Limits.{password_limit}
use Rattle.unlocking.specs.Secret.{IsAfterLine, TakesAtMost}
use Rattle.unlocking.specs.declared.secret.SecretErr.{SecretErr}
use Rattle.unlocking.specs.declared.secret.SecretErr.TheVariants as secret_errs
use Rattle.vault_make.specs.Vault.{HasMade}
use Rattle.vault_make.specs.Errors.{IsUnmade}
use Rattle.vault_make.specs.declared.error.MakeErr.{MakeErr}
use Rattle.vault_make.specs.declared.error.MakeErr.TheVariants as make_errs
use Rattle.vault_top.specs.Causes.{of_secret, of_make}
use Rattle.vault_top.specs.declared.cause.Cause.{Cause}
use Rattle.vault_top.specs.Span.{Course, Given}

-- the secret's line is this password, and that line alone was taken
pub record HasPassword (given : Given) (password : List ℕ) : Type 0 where
  pub spelled : Told given.secret.before.left (λ bytes. password_of bytes ≡ Some password)
  pub line : Changes given.secret.before.left given.secret.after.left IsAfterLine

-- a vault was made under the secret's password, of what was drawn from this random source
pub record IsMade (given : Given) (entropy : Course EntropyView) : Type 0 where
  pub password : List ℕ
  pub secret : HasPassword given password
  pub made : HasMade password given.folder.before given.folder.after entropy.before entropy.after
  pub later : given.folder.before.faults ≤ given.folder.after.faults

-- why the secret gives no password
abbrev pub HasNoPassword : Given → SecretErr → Type 0
HasNoPassword given secret_errs.Device = Rose given.secret.before.faults given.secret.after.faults
HasNoPassword given secret_errs.Bad = Told given.secret.before.left (λ bytes. password_of bytes ≡ None)
HasNoPassword given secret_errs.Memory = ⊤

-- the secret gives no password, for this cause; nothing was drawn, and the folder is as it was
pub record FailsToRead (given : Given) (entropy : Course EntropyView) (cause : Cause) : Type 0 where
  pub error : SecretErr
  pub is : cause ≡ of_secret error
  pub why : HasNoPassword given error
  pub begun : Changes given.secret.before.left given.secret.after.left (TakesAtMost (password_limit + 1))
  pub folder : given.folder.after ≡ given.folder.before
  pub undrawn : entropy.after ≡ entropy.before

-- what failed has a count that rose
abbrev pub HasRisen : MakeErr → Course FolderView → Course EntropyView → Type 0
HasRisen (make_errs.NotEmpty name) folder entropy = ⊤
HasRisen make_errs.Device folder entropy = Rose folder.before.faults folder.after.faults
HasRisen make_errs.Entropy folder entropy = Rose entropy.before.faults entropy.after.faults
HasRisen make_errs.Memory folder entropy = ⊤

-- the secret has a password, but no vault is made, for this cause
pub record FailsToMake (given : Given) (entropy : Course EntropyView) (cause : Cause) : Type 0 where
  pub password : List ℕ
  pub secret : HasPassword given password
  pub error : MakeErr
  pub is : cause ≡ of_make error
  pub why : IsUnmade password error given.folder.before given.folder.after entropy.before entropy.after
  pub risen : HasRisen error given.folder entropy
  pub later : given.folder.before.faults ≤ given.folder.after.faults

-- why no vault is made
abbrev pub IsNotMade : Given → Course EntropyView → Cause → Type 0
IsNotMade given entropy cause = FailsToRead given entropy cause ⊎ FailsToMake given entropy cause
