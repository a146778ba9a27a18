-- Why no vault is made, and what there is then.
use Rattle.std.specs.Prelude.{◌≡◌, ◌⊎◌, ℕ, List}
use Rattle.outside.specs.declared.folder.FolderErr.{FolderErr}
use Rattle.outside.specs.declared.folder.FolderErr.TheVariants as folder_errs
use Rattle.outside.specs.Calls.{Told}
use Rattle.outside.specs.Images.{now}
use Rattle.outside.specs.Views.{FolderView, EntropyView}
use Rattle.vault_make.specs.Vault.{HasBegun}
use Rattle.vault_make.specs.Entries.{IsFirstEntry}
use Rattle.vault_make.specs.declared.error.MakeErr.{MakeErr}
use Rattle.vault_make.specs.declared.error.MakeErr.TheVariants.{NotEmpty, Device, Entropy, Memory}

abbrev pub of_folder : FolderErr → MakeErr
of_folder folder_errs.Failed = Device
of_folder folder_errs.Unfit = Device
of_folder folder_errs.Memory = Memory

-- nothing was written
pub record IsUnwritten (folder folder' : FolderView) : Type 0 where
  pub log : folder'.log ≡ folder.log
  pub changes : folder'.changes ≡ folder.changes

-- what there is if the folder was empty
abbrev pub IsBegun : List ℕ → MakeErr → FolderView → FolderView → EntropyView → EntropyView → Type 0
IsBegun password (NotEmpty name) folder folder' entropy entropy' = ⊥
IsBegun password Device folder folder' entropy entropy' = IsUnwritten folder folder' ⊎ HasBegun password folder folder' entropy entropy'
IsBegun password Entropy folder folder' entropy entropy' = IsUnwritten folder folder'
IsBegun password Memory folder folder' entropy entropy' = IsUnwritten folder folder'

-- What follows an error: if the folder has entries nothing was drawn, and nothing was written unless the folder failed; then it failed before
-- the first sync's end, or no stop since leaves a part for a vault.
abbrev pub IsUnmade : List ℕ → MakeErr → FolderView → FolderView → EntropyView → EntropyView → Type 0
IsUnmade password (NotEmpty name) folder folder' entropy entropy' =
    Told folder.log (λ log. IsFirstEntry (now log) name) × IsUnwritten folder folder' × (entropy' ≡ entropy)
IsUnmade password Device folder folder' entropy entropy' = IsUnwritten folder folder' ⊎ HasBegun password folder folder' entropy entropy'
IsUnmade password Entropy folder folder' entropy entropy' = IsUnwritten folder folder'
IsUnmade password Memory folder folder' entropy entropy' = IsUnwritten folder folder'
