-- A new vault stands for its root alone.
use Rattle.std.proofs.Common.{◌≡◌, ℕ, List, [], ◌∷◌, ◌++◌, refl, ap, sym, subst, ◌∙◌}
use Rattle.outside.specs.Disk.{Disk, Path, IsFolder, IsTree, node_at}
use Rattle.vault_keys.specs.Keys.{KeyPair}
use Rattle.vault_names.specs.Folder.{folder_of}
use Rattle.clear_tree.specs.Places.{host_folder}
use Rattle.clear_tree.specs.Laws.{root_rows}
use Rattle.clear_tree.proofs.Empty.{bare_vault_is_clear}
use Rattle.tree_loading.specs.Format.{sealing_of}
use Rattle.tree_loading.specs.Clear.{IsClear}
use Rattle.tree_deed_laws.proofs.Seeing.{none_below}
use Rattle.vault_make.specs.Draws.{NewSecrets}
use Rattle.vault_make.specs.Vault.{IsNewVault}

root_place : (keys : KeyPair) → folder_of keys [] ≡ host_folder ((sealing_of keys).folder_of [])
unfolding folder_of
root_place keys = refl

pub new_vault_is_bare : (password : List ℕ) (secrets : NewSecrets) (disk : Disk) (now : ℕ) → IsTree disk → IsNewVault password secrets disk → IsClear secrets.keys disk now (root_rows now)
new_vault_is_bare password secrets disk now tree is =
    let place = root_place secrets.keys in
    let bare = λ (u : List ℕ). ap (λ (p : Path). node_at disk (p ++ u ∷ [])) (sym place) ∙ is.bare u in
    bare_vault_is_clear (sealing_of secrets.keys) disk now (subst (λ (p : Path). IsFolder disk p) place is.root) bare
    (λ u l. none_below disk tree ((sealing_of secrets.keys).folder_of []) u l (bare u))
