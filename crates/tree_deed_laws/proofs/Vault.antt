-- There is a disk with a tree: an empty vault's.
use Rattle.std.proofs.Common.{◌≡◌, [], ◌∷◌, None, IsSome, refl, sym, ◌∙◌, subst, inl, true≢false}
use Rattle.std.specs.FinMap.{get, insert, empty, get-empty}
use Rattle.outside.specs.Disk.{Disk, Path as HostPath, folder as Folder, parent, IsFolder, IsTree}
use Rattle.outside.proofs.Trees.{tree_set}
use Rattle.clear_tree.specs.Walk.{Sealing}
use Rattle.clear_tree.specs.Places.{host_two, host_folder, text_d}
use Rattle.clear_tree.proofs.Empty.{empty_vault, empty_entry, empty_inner, bare_vault_is_clear}
use Rattle.tree_deed_laws.specs.Shapes.{EmptyVaultHasTree}
use Rattle.tree_deed_laws.proofs.Clear.{clear_rows_have_tree}
use Rattle.tree_deed_laws.proofs.Disk.{get_put, get_put_other}

module _ (s : Sealing) where
  d0 : Disk
  d0 = insert empty [] Folder

  d1 : Disk
  d1 = insert d0 (text_d ∷ []) Folder

  d2 : Disk
  d2 = insert d1 (host_two (s.folder_of [])) Folder

  d3 : Disk
  d3 = insert d2 (host_folder (s.folder_of [])) Folder

  tree0 : IsTree d0
  unfolding d0
  tree0 = record { top = get_put empty [] Folder; parents = λ p there. go p there }
    where
      go : (p : HostPath) → IsSome (get d0 p) → IsFolder d0 (parent p)
      go [] there = get_put empty [] Folder
      go (x ∷ p) there =
          let none : get d0 (x ∷ p) ≡ None = get_put_other empty [] Folder (x ∷ p) (λ e. cc) ∙ get-empty _ (x ∷ p) in
          absurd (true≢false (sym (subst IsSome none there)))

  tree1 : IsTree d1
  unfolding d1
  tree1 = tree_set d0 (text_d ∷ []) Folder tree0 tree0.top (inl refl)

  tree2 : IsTree d2
  unfolding d1 d2
  tree2 = tree_set d1 (host_two (s.folder_of [])) Folder tree1 (get_put d0 (text_d ∷ []) Folder) (inl refl)

  pub host : IsTree (empty_vault s)
  unfolding d0 d1 d2 d3
  host = tree_set d2 (host_folder (s.folder_of [])) Folder tree2 (get_put d1 (host_two (s.folder_of [])) Folder) (inl refl)

  pub root_there : IsFolder (empty_vault s) (host_folder (s.folder_of []))
  unfolding d0 d1 d2
  root_there = get_put d2 (host_folder (s.folder_of [])) Folder

pub empty_vault_has_tree : EmptyVaultHasTree
empty_vault_has_tree s now =
    let clear = bare_vault_is_clear s (empty_vault s) now (root_there s) (empty_entry s (s.folder_of [])) (empty_inner s (s.folder_of [])) in
    (empty_vault s, _, clear_rows_have_tree s (empty_vault s) now _ clear (host s))
