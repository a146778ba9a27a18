-- Contents of host files have the lengths that the files' sizes give.
use Rattle.std.proofs.Common.{◌≡◌, ℕ, true, false, Bool, ◌==◌, List, length, Option, Some, None, IsSome, unwrap_or, refl, sym, ap, ◌∙◌, eqb-true, eq-eqb}
use Rattle.std.specs.Option.{option_and_then}
use Rattle.outside.specs.Disk.{Disk, node_at as thing_at, file as host_file}
use Rattle.tree_model.specs.Rows.{Content, bad_size, content_length, root}
use Rattle.clear_tree.specs.Walk.{Sealing}
use Rattle.clear_tree.specs.Kept.{What, KeptFile, KeptLink, KeptDir, KeptBad, KeptNode, HasHostFile, path_in, size_in, folder_in}
use Rattle.live_tree.specs.Held.{HeldNode, HeldTree, IsTree, node_of, parent_folder, path_of, size_of}
use Rattle.file_chunks.specs.File.{clear_length}
use Rattle.tree_answers.specs.Answers.{AreSizes, length_by}

abbrev HasPath : Option (List (List ℕ)) → Type 0
HasPath found = (path : List (List ℕ)) × (found ≡ Some path)

path_by : (node : KeptNode) (what : What) (folder : List ℕ) (size : ℕ) → size_in what ≡ Some size → HasPath (path_in node what folder)
path_by node (KeptFile n) folder size is = (_, refl)
path_by node (KeptLink n) folder size is = (_, refl)
path_by node (KeptDir identifier own) folder size is = absurd cc
path_by node (KeptBad text) folder size is = absurd cc

path_under : (node : KeptNode) (folder : Option (List ℕ)) (size : ℕ) → IsSome folder → size_in node.what ≡ Some size → HasPath (option_and_then (path_in node node.what) folder)
path_under node None size some is = absurd cc
path_under node (Some folder) size some is = path_by node node.what folder size is

-- the folder of a node that has a size, which is not the root
folder_there : (tree : HeldTree) (number size : ℕ) (node : HeldNode) → IsTree tree → node_of tree number ≡ Some node → size_in node.kept.what ≡ Some size → IsSome (parent_folder tree node.kept)
folder_there tree number size node good there is = by (number == root) refl
  where
    file : (what : What) → size_in what ≡ Some size → IsSome (folder_in what) → ⊥
    file (KeptFile n) is some = absurd cc
    file (KeptLink n) is some = absurd cc
    file (KeptDir identifier folder) is some = absurd cc
    file (KeptBad text) is some = absurd cc

    by : (b : Bool) → (number == root) ≡ b → IsSome (parent_folder tree node.kept)
    by true same =
        let here : number ≡ root = eqb-true number root same in
        let first : node_of tree root ≡ Some node = ap (node_of tree) (sym here) ∙ there in
        let root_is : good.first.0 ≡ node = cc (first, good.first.1.there) in
        absurd (file good.first.0.kept.what (ap (λ (n : HeldNode). size_in n.kept.what) root_is ∙ is) good.first.1.folder)
    by false other = (good.parents number node there (λ same. let yes = eq-eqb number root same in absurd (cc (yes, other)))).folder

-- what has a size has a host file
pub path_there : (tree : HeldTree) (number size : ℕ) → IsTree tree → size_of tree number ≡ Some size → (path : List (List ℕ)) × (path_of tree number ≡ Some path)
path_there tree number size good is = by (node_of tree number) refl is
  where
    moved : (node : HeldNode) → node_of tree number ≡ Some node → HasPath (option_and_then (path_in node.kept node.kept.what) (parent_folder tree node.kept)) → HasPath (path_of tree number)
    moved node there found = (found.0, ap (option_and_then (λ (node : HeldNode). option_and_then (path_in node.kept node.kept.what) (parent_folder tree node.kept))) there ∙ found.1)

    by : (o : Option HeldNode) → node_of tree number ≡ o → option_and_then (λ (node : HeldNode). size_in node.kept.what) o ≡ Some size → HasPath (path_of tree number)
    by None there is = absurd cc
    by (Some node) there is = moved node there (path_under node.kept (parent_folder tree node.kept) size (folder_there tree number size node good there is) is)

-- the contents of host files that are as long as the tree says have the lengths that their sizes give, if each content does
pub sizes_from : (s : Sealing) (d : Disk) (tree : HeldTree) (contents : ℕ → Content) → IsTree tree
    → ((number : ℕ) (path : List (List ℕ)) → path_of tree number ≡ Some path → HasHostFile s d contents number path)
    → ((number size : ℕ) (path : List (List ℕ)) (bytes : List ℕ) → path_of tree number ≡ Some path → size_of tree number ≡ Some size → thing_at d path ≡ Some (host_file bytes) → length bytes ≡ size)
    → ((bytes : List ℕ) → content_length (s.content bytes) ≡ length_by (length bytes)) → AreSizes tree contents
sizes_from s d tree contents good files sizes long number size is =
    let path = path_there tree number size good is in
    let host = files number path.0 path.1 in
    ap content_length host.content ∙ long host.bytes ∙ ap length_by (sizes number size path.0 host.bytes path.1 is host.there)

-- as the laws of contents say it
pub long_by : (content : Content) (size : ℕ) → (clear_length size ≡ None → content ≡ bad_size) → ((n : ℕ) → clear_length size ≡ Some n → content_length content ≡ n)
    → content_length content ≡ length_by size
long_by content size bad good = by (clear_length size) refl
  where
    by : (o : Option ℕ) → clear_length size ≡ o → content_length content ≡ length_by size
    by None is = ap content_length (bad is) ∙ sym (ap (λ (o : Option ℕ). unwrap_or o 0) is)
    by (Some n) is = good n is ∙ sym (ap (λ (o : Option ℕ). unwrap_or o 0) is)
