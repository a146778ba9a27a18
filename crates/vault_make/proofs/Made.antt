-- What was laid out is a vault of what was drawn.
use Rattle.std.proofs.Common.{◌≡◌, ℕ, List, [], Option, Some, Result, ap, subst, ◌∙◌, inl, inr}
use Rattle.std.specs.Result.{result_map_both}
use Rattle.vault_keys.specs.Keys.{KeyPair}
use Rattle.outside.specs.Calls.{Told, Changes}
use Rattle.outside.specs.Disk.{Disk, Path, file}
use Rattle.outside.specs.Images.{Log, Synced, now, adds, LeavesOnly, IsSteady}
use Rattle.outside.proofs.Told.{changed_by, changed_from}
use Rattle.outside.proofs.Moments.{weaker}
use Rattle.vault_names.specs.Folder.{folder_of}
use Rattle.masterkey_file.specs.KeyFile.{Fault as KeyFault}
use Rattle.vault_config.specs.Config.{Fault as ConfigFault}
use Rattle.unlocking.specs.FromFiles as unlock
use Rattle.unlocking.specs.Files.{found_in}
use Rattle.vault_make.specs.Draws.{NewSecrets}
use Rattle.vault_make.specs.Vault.{IsEmpty, IsNewVault, IsNoneOrNew, LeavesNoneOrNew}
use Rattle.vault_make.specs.Files.{AreFilesOf}
use Rattle.vault_make.specs.Stages.{IsRootPath, IsLaidOut, IsNoneOrLaidOut}
use Rattle.vault_make.specs.declared.files.KeyFiles.{KeyFiles}

-- a folder of a directory begins with `d` and has three parts
pub is_root_path : (keys : KeyPair) (identifier : List ℕ) (path : Path) → path ≡ folder_of keys identifier → IsRootPath path
unfolding folder_of
is_root_path keys identifier path e = (_, _, e)

pub is_new_vault : (password : List ℕ) (secrets : NewSecrets) (files : KeyFiles) (place : Path) (d : Disk) → place ≡ folder_of secrets.keys [] → AreFilesOf password secrets files
    → IsLaidOut place files.masterkey.items files.config.items d → IsNewVault password secrets d
is_new_vault password secrets files place d e are laid =
    let root = subst (λ (p : Path). IsLaidOut p files.masterkey.items files.config.items d) e laid in record {
      masterkey = laid.masterkey ∙ ap (λ (w : List ℕ). Some (file w)) are.masterkey;
      config = laid.config ∙ ap (λ (w : List ℕ). Some (file w)) are.config;
      opens = ap (λ o. unlock.masterkey_opened password (found_in o)) laid.masterkey
          ∙ ap (λ (r : Result KeyPair KeyFault). result_map_both (λ (keys : KeyPair). keys) unlock.bad_masterkey_file r) are.opens;
      unlocks = ap (λ o. unlock.vault_opened secrets.keys (found_in o)) laid.config
          ∙ ap (λ (r : Result ℕ ConfigFault). result_map_both (λ n. record { keys = secrets.keys; threshold = n }) unlock.bad_vault_file r) are.unlocks;
      root = root.root.there;
      bare = root.root.bare;
      alone = root.alone;
    }

pub made : (a b c : Option Log) (password : List ℕ) (secrets : NewSecrets) (files : KeyFiles) (place : Path) → b ≡ a → place ≡ folder_of secrets.keys [] → AreFilesOf password secrets files
    → Told a (λ log. IsEmpty (now log)) → Changes b c (λ old new. IsLaidOut place files.masterkey.items files.config.items (now new) × IsSteady new)
    → Changes a c (λ old new. IsEmpty (now old) × IsNewVault password secrets (now new) × IsSteady new)
made a b c password secrets files place same e are empty laid =
    changed_from a c (λ log. IsEmpty (now log)) (λ old new. IsLaidOut place files.masterkey.items files.config.items (now new) × IsSteady new)
    (λ old new. IsEmpty (now old) × IsNewVault password secrets (now new) × IsSteady new)
    (λ old new was is. (was, is_new_vault password secrets files place (now new) e are is.0, is.1)) empty
    (subst (λ (o : Option Log). Changes o c (λ old new. IsLaidOut place files.masterkey.items files.config.items (now new) × IsSteady new)) same laid)

none_or_new : (password : List ℕ) (secrets : NewSecrets) (files : KeyFiles) (place : Path) (d : Disk) → place ≡ folder_of secrets.keys [] → AreFilesOf password secrets files
    → IsNoneOrLaidOut place files.masterkey.items files.config.items d → IsNoneOrNew password secrets d
none_or_new password secrets files place d e are (inl none) = inl none
none_or_new password secrets files place d e are (inr laid) = inr (is_new_vault password secrets files place d e are laid)

pub stops : (a b : Option Log) (password : List ℕ) (secrets : NewSecrets) (files : KeyFiles) (place : Path) → place ≡ folder_of secrets.keys [] → AreFilesOf password secrets files
    → Changes a b (λ old new. LeavesOnly (adds old Synced) new (IsNoneOrLaidOut place files.masterkey.items files.config.items)) → Changes a b (LeavesNoneOrNew password secrets)
stops a b password secrets files place e are leaves =
    changed_by a b (λ old new. LeavesOnly (adds old Synced) new (IsNoneOrLaidOut place files.masterkey.items files.config.items)) (LeavesNoneOrNew password secrets)
    (λ old new h. weaker (adds old Synced) new (IsNoneOrLaidOut place files.masterkey.items files.config.items) (IsNoneOrNew password secrets)
    (λ d is. none_or_new password secrets files place d e are is) h) leaves
