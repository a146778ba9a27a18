-- Where the host file of a file is in memory.
use Rattle.std.proofs.Common.{◌≡◌, ◌≢◌, ℕ, List, Option, Some, None, IsSome, refl, sym, ap, ◌∙◌, subst, true≢false}
use Rattle.std.specs.Option.{option_and_then}
use Rattle.tree_model.specs.Rows.{root}
use Rattle.clear_tree.specs.Kept.{What, folder_in, path_in, file_path, size_in}
use Rattle.live_tree.specs.Held.{HeldNode, HeldTree, node_of, parent_folder, path_of, size_of, IsTree}
use Rattle.live_tree_laws.proofs.Paths.{one_held}
use Rattle.node_changes.proofs.Nodes.{above_there}
use Rattle.clear_tree.specs.Built.{IsFile}
use Rattle.request_checks.specs.Files.{IsFileOf}
use Rattle.file_changes.specs.Held.{IsHeldFile}

-- a file isn't the root
pub below_root : (live : HeldTree) → IsTree live → (number size clear : ℕ) → IsFileOf live number size clear → number ≢ root
below_root live is number size clear file e =
    let top = is.first.1 in
    let same : file.held ≡ is.first.0 = one_held live number file.held is.first.0 file.there (ap (node_of live) e ∙ top.there) in
    let none : folder_in is.first.0.kept.what ≡ None = ap (λ (z : HeldNode). folder_in z.kept.what) (sym same) ∙ ap folder_in file.file in
    true≢false (sym (subst (λ (o : Option (List ℕ)). IsSome o) none top.folder))

pub is_held_file : (live : HeldTree) (number size clear : ℕ) → IsFileOf live number size clear → IsHeldFile live number
is_held_file live number size clear file node there =
    let same : file.held ≡ node = one_held live number file.held node file.there there in
    subst IsFile (sym file.file ∙ ap (λ (z : HeldNode). z.kept.what) same) tt

some_folder : (o : Option (List ℕ)) → IsSome o → (folder : List ℕ) × (o ≡ Some folder)
some_folder None h = absurd (true≢false (sym h))
some_folder (Some folder) h = (folder, refl)

-- a file's host file has a path and a size
pub has_path : (live : HeldTree) → IsTree live → (number size clear : ℕ) → IsFileOf live number size clear → (path : List (List ℕ)) × (path_of live number ≡ Some path)
has_path live is number size clear file =
    let above = above_there live is number file.held file.there in
    let folder = some_folder (folder_in above.0.kept.what) above.2 in
    let up : parent_folder live file.held.kept ≡ Some folder.0 = ap (option_and_then (λ (parent : HeldNode). folder_in parent.kept.what)) above.1 ∙ folder.1 in (
      file_path file.held.kept.long folder.0 file.held.kept.entry,
      ap (option_and_then (λ (node : HeldNode). option_and_then (path_in node.kept node.kept.what) (parent_folder live node.kept))) file.there
          ∙ ap (option_and_then (path_in file.held.kept file.held.kept.what)) up
          ∙ ap (λ (what : What). path_in file.held.kept what folder.0) file.file,
    )

pub has_size : (live : HeldTree) (number size clear : ℕ) → IsFileOf live number size clear → size_of live number ≡ Some size
has_size live number size clear file =
    ap (option_and_then (λ (node : HeldNode). size_in node.kept.what)) file.there ∙ ap size_in file.file

pub never_pathless : (live : HeldTree) → IsTree live → (number size clear : ℕ) → IsFileOf live number size clear → path_of live number ≡ None → ⊥
never_pathless live is number size clear file none =
    let path = has_path live is number size clear file in
    let e : ◌≡◌ {A = Option (List (List ℕ))} (Some path.0) None = sym path.1 ∙ none in
    cc

pub never_sizeless : (live : HeldTree) (number size clear : ℕ) → IsFileOf live number size clear → size_of live number ≡ None → ⊥
never_sizeless live number size clear file none =
    let e : ◌≡◌ {A = Option ℕ} (Some size) None = sym (has_size live number size clear file) ∙ none in
    cc
