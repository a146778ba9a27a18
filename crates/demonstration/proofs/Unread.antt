-- Files and links that can't be read whole.
use Rattle.std.proofs.Common.{◌≡◌, ℕ, ◌<◌, ◌≤◌, List, length, Option, Some, None, refl, sym, ap, ◌∙◌, inl, inr, arith}
use Rattle.std.specs.Prelude.{IsSome, Result, Err}
use Rattle.std.specs.Option.{option_and_then}
use Rattle.std.proofs.lemmas.Option.{slice_get_cases}
use Rattle.outside.specs.Disk.{Disk}
use Rattle.vault_keys.specs.Keys.{KeyPair}
use Rattle.file_chunks.specs.File as files
use Rattle.clear_tree.specs.Places.{host_inner, text_symlink}
use Rattle.clear_tree.specs.Kept.{What, KeptFile, KeptLink, KeptDir, KeptBad, KeptNode, KeptTree, IsTree}
use Rattle.clear_tree.specs.Kept.{file_path, node_of, parent_folder, path_in, path_of, size_in, size_of}
use Rattle.demonstration.specs.declared.error.LeftErr.{LeftErr}
use Rattle.demonstration.specs.Left.{IsDamaged}
use Rattle.demonstration.specs.Nodes.{HasHost, IsUnreadWhat}

-- an error that is passed on
pub passed_on : {A B : Type 0} (result : Result A LeftErr) (e f damaged : LeftErr) → result ≡ Err e → e ≡ f → result ≡ Err damaged
    → ◌≡◌ {A = Result B LeftErr} (Err f) (Err damaged)
passed_on result e f damaged is same told =
    let known : e ≡ damaged = cc in
    let given : f ≡ damaged = sym same ∙ known in
    cc

-- there is a node of each number below the last
pub no_gap : (tree : KeptTree) (number : ℕ) → number < length tree.nodes → node_of tree number ≡ None → ⊥
no_gap tree number within none = elim ((slice_get_cases tree.nodes number).1) [
  | inl found ↦ let is : ◌≡◌ {A = Option KeptNode} (Some found.0) None = sym found.2 ∙ none in cc
  | inr past ↦ absurd (let behind : length tree.nodes ≤ number = past.0 in omega arith)
]

-- the value that there is
record HasValue {A : Type 0} (found : Option A) : Type 0 where
  value : A
  is : found ≡ Some value

value_of : {A : Type 0} (found : Option A) → IsSome found → HasValue found
value_of None h = absurd cc
value_of (Some value) h = record { value = value; is = refl }

module _ (keys : KeyPair) (disk : Option Disk) (tree : KeptTree) (number : ℕ) (node : KeptNode) (there : node_of tree number ≡ Some node)
    (folder : List ℕ) (folder_is : parent_folder tree node ≡ Some folder) where
  path_known : path_of tree number ≡ path_in node node.what folder
  path_known =
      ap (option_and_then (λ (n : KeptNode). option_and_then (path_in n n.what) (parent_folder tree n))) there
      ∙ ap (option_and_then (path_in node node.what)) folder_is

  size_known : size_of tree number ≡ size_in node.what
  size_known = ap (option_and_then (λ (n : KeptNode). size_in n.what)) there

  host_of : (what : What) → node.what ≡ what → IsUnreadWhat keys disk tree number what
      → HasHost disk tree number (λ sealed. IsDamaged (files.content_of keys sealed))
  host_of (KeptFile size) is h =
      let path = file_path node.long folder node.entry in
      let path_is : path_of tree number ≡ Some path = path_known ∙ ap (λ (w : What). path_in node w folder) is in
      let size_is : size_of tree number ≡ Some size = size_known ∙ ap size_in is in
      record { path = path; size = size; path_is = path_is; size_is = size_is; bytes = h path size path_is size_is }
  host_of (KeptLink size) is h =
      let path = host_inner folder node.entry text_symlink in
      let path_is : path_of tree number ≡ Some path = path_known ∙ ap (λ (w : What). path_in node w folder) is in
      let size_is : size_of tree number ≡ Some size = size_known ∙ ap size_in is in
      record { path = path; size = size; path_is = path_is; size_is = size_is; bytes = h path size path_is size_is }
  host_of (KeptDir identifier own) is h = absurd h
  host_of (KeptBad text) is h = absurd h

-- a node that can't be read has a host file whose content can't be read whole
pub unread_host : (keys : KeyPair) (disk : Option Disk) (tree : KeptTree) (number : ℕ) (node : KeptNode) → IsTree tree
    → node_of tree number ≡ Some node → IsUnreadWhat keys disk tree number node.what → HasHost disk tree number (λ sealed. IsDamaged (files.content_of keys sealed))
unread_host keys disk tree number node is there h =
    let folder = value_of (parent_folder tree node) (is.folders number node there) in
    host_of keys disk tree number node there folder.value folder.is node.what refl h
