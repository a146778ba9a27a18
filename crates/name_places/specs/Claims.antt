-- Which nodes of a tree in memory name the folder of a directory, and by which `dir.c9r`.
use Rattle.std.specs.Prelude.{◌≡◌, ◌≢◌, ◌↔◌, ◌≤◌, ℕ, cond, List, [], ◌∷◌, ◌++◌, Option, Some, None, IsTrue, ◌==◌}
use Rattle.std.specs.Ordering.{nat_cmp}
use Rattle.std.specs.Cmp.Lexicographic.{slice_cmp}
use Rattle.std.specs.Option.{option_and_then}
use Rattle.std.specs.Map.{lookup}
use Rattle.std.specs.BTreeMap.{is_at}
use Rattle.vault_path.specs.Parts.{is_part}
use Rattle.tree_model.specs.Rows.{root}
use Rattle.clear_tree.specs.Walk.{Sealing}
use Rattle.clear_tree.specs.Places.{host_inner, text_dir}
use Rattle.clear_tree.specs.Kept.{What, KeptFile, KeptLink, KeptDir, KeptBad}
use Rattle.tree_deed_laws.specs.Taken.{Claim}
use Rattle.live_tree.specs.Held.{HeldNode, HeldTree, node_of, parent_folder}

-- the folder that a node names, by what is kept of it: a directory its own, a Bad node that of its text, if that is an identifier
abbrev pub claimed_in : Sealing → What → Option (List ℕ)
claimed_in s (KeptDir identifier folder) = Some folder
claimed_in s (KeptBad text) = cond (s.valid_id text) (Some (s.folder_of text)) None
claimed_in s (KeptFile size) = None
claimed_in s (KeptLink size) = None

-- the folder that the node of a number names
abbrev pub claimed_at : Sealing → HeldTree → ℕ → Option (List ℕ)
claimed_at s tree number = option_and_then (λ (node : HeldNode). claimed_in s node.kept.what) (node_of tree number)

-- the node of a number, below the root, names this folder
pub record NamesFolder (s : Sealing) (tree : HeldTree) (folder : List ℕ) (number : ℕ) : Type 0 where
  pub below : number ≢ root
  pub claimed : claimed_at s tree number ≡ Some folder

-- and no node of a lower number does
pub record IsFirst (s : Sealing) (tree : HeldTree) (folder : List ℕ) (number : ℕ) : Type 0 where
  pub names : NamesFolder s tree folder number
  pub first : (other : ℕ) → NamesFolder s tree folder other → number ≤ other

-- and no other node does
pub record IsOnly (s : Sealing) (tree : HeldTree) (folder : List ℕ) (number : ℕ) : Type 0 where
  pub names : NamesFolder s tree folder number
  pub only : (other : ℕ) → NamesFolder s tree folder other → other ≡ number

-- ---- the index

-- the number of a folder
abbrev pub number_in : List (List ℕ × ℕ) → List ℕ → Option ℕ
number_in claims folder = lookup (is_at (slice_cmp nat_cmp folder)) claims

-- each folder that a node below the root names has the lowest number of those nodes, and no other folder has one
abbrev pub AreClaimsOf : Sealing → HeldTree → List (List ℕ × ℕ) → Type 0
AreClaimsOf s tree claims = (folder : List ℕ) (number : ℕ) → (number_in claims folder ≡ Some number) ↔ IsFirst s tree folder number

-- ---- the claims of the tree

-- a claim, by the folder that is named and the folder and the entry where the node is
abbrev pub claim_by : Option (List ℕ) → Option (List ℕ) → List ℕ → List Claim
claim_by None above entry = []
claim_by (Some folder) None entry = []
claim_by (Some folder) (Some above) entry = record { folder = folder; place = host_inner above entry text_dir } ∷ []

abbrev pub claim_of : Sealing → HeldTree → ℕ × HeldNode → List Claim
claim_of s tree e = cond (e.0 == root) [] (claim_by (claimed_in s e.1.kept.what) (parent_folder tree e.1.kept) e.1.kept.entry)

abbrev pub claims_from : Sealing → HeldTree → List (ℕ × HeldNode) → List Claim
claims_from s tree [] = []
claims_from s tree (e ∷ es) = claim_of s tree e ++ claims_from s tree es

-- the claims of the nodes below the root that name a folder, in the order of their numbers, each at the node's `dir.c9r`
abbrev pub claims_in : Sealing → HeldTree → List Claim
claims_in s tree = claims_from s tree tree.nodes

-- host paths can be made of the entries of the nodes below the root
abbrev pub HaveHostEntries : HeldTree → Type 0
HaveHostEntries tree = (number : ℕ) (node : HeldNode) → node_of tree number ≡ Some node → number ≢ root → IsTrue (is_part node.kept.entry)
