-- The index of children by name, and what holds of it and of the nodes.
use Rattle.std.specs.Prelude.{◌≡◌, ◌≢◌, ◌<◌, ◌^◌, ℕ, List, Bool, true, ◌&&◌, Option, Some, None, IsSome, is_some, IsTrue, cond, ◌==◌}
use Rattle.std.specs.declared.cmp.Ordering.TheVariants.{Less}
use Rattle.std.specs.Ordering.{nat_cmp}
use Rattle.std.specs.Cmp.Lexicographic.{slice_cmp}
use Rattle.std.specs.Str.{bytes_eq}
use Rattle.std.specs.Option.{option_and_then}
use Rattle.std.specs.List.Sorted.{IsStrictlySortedBy}
use Rattle.std.specs.Map.{keys_of}
use Rattle.std.specs.BTreeMap.{BTreeMap, get}
use Rattle.vault_path.specs.Parts.{is_part}
use Rattle.tree_model.specs.Rows.{root}
use Rattle.clear_tree.specs.Kept.{KeptNode, folder_in, IsBehind}
use Rattle.live_tree.specs.Held.{HeldNode, HeldTree, node_of, IsNamed, IsRoot, HasParent}

-- of each directory the numbers of its nodes, by their names
abbrev pub Names : Type 0
Names = BTreeMap ℕ (BTreeMap (List ℕ) ℕ)

abbrev pub number_in : BTreeMap (List ℕ) ℕ → List ℕ → Option ℕ
number_in names name = get (slice_cmp nat_cmp) names name

-- the number of a name in a directory
abbrev pub number_at : Names → ℕ → List ℕ → Option ℕ
number_at names parent name = option_and_then (λ (inner : BTreeMap (List ℕ) ℕ). number_in inner name) (get nat_cmp names parent)

-- the directory has its names
abbrev pub has_names : Names → ℕ → Bool
has_names names parent = is_some (get nat_cmp names parent)

abbrev pub is_place : ℕ → List ℕ → ℕ → List ℕ → Bool
is_place parent name parent' name' = (parent == parent') && bytes_eq name name'

-- a name of a directory has this number now, or none, and each other name has the number that it had
pub record IsSet (old new : Names) (parent : ℕ) (name : List ℕ) (number : Option ℕ) : Type 0 where
  pub numbers : (parent' : ℕ) (name' : List ℕ) → number_at new parent' name' ≡ cond (is_place parent name parent' name') number (number_at old parent' name')
  pub directories : (parent' : ℕ) → has_names new parent' ≡ has_names old parent'

-- each name has the number that it had
pub record IsSame (old new : Names) : Type 0 where
  pub numbers : (parent' : ℕ) (name' : List ℕ) → number_at new parent' name' ≡ number_at old parent' name'
  pub directories : (parent' : ℕ) → has_names new parent' ≡ has_names old parent'

-- each name has the number that it had, and the directories that had their names have them
pub record IsGrown (old new : Names) : Type 0 where
  pub numbers : (parent' : ℕ) (name' : List ℕ) → number_at new parent' name' ≡ number_at old parent' name'
  pub directories : (parent' : ℕ) → has_names old parent' ≡ true → has_names new parent' ≡ true

-- each name has the number that it had, and each directory but one its names if it had them
pub record IsClosed (old new : Names) (directory : ℕ) : Type 0 where
  pub numbers : (parent' : ℕ) (name' : List ℕ) → number_at new parent' name' ≡ number_at old parent' name'
  pub directories : (parent' : ℕ) → parent' ≢ directory → has_names new parent' ≡ has_names old parent'

-- the directory has no names
abbrev pub IsNameless : Names → ℕ → Type 0
IsNameless names parent = (name : List ℕ) → number_at names parent name ≡ None

-- the first name of a directory after another has this number
pub record IsNextName (names : Names) (parent : ℕ) (last : Option (List ℕ)) (number : ℕ) : Type 0 where
  pub name : List ℕ
  pub there : number_at names parent name ≡ Some number
  pub behind : IsBehind last name
  pub first : (other : List ℕ) (number' : ℕ) → number_at names parent other ≡ Some number' → IsBehind last other → other ≢ name
      → slice_cmp nat_cmp name other ≡ Less

-- ---- what holds of a tree

-- the host file of a node that is no directory has a path
abbrev pub HasHostPart : KeptNode → Type 0
HasHostPart node = folder_in node.what ≡ None → IsTrue (is_part node.entry)

-- The index has just the names of the nodes.
pub record IsHeld (names : Names) (tree : HeldTree) : Type 0 where
  pub ordered : IsStrictlySortedBy nat_cmp (keys_of tree.nodes)
  pub first : (node : HeldNode) × IsRoot tree node
  pub parents : (number : ℕ) (node : HeldNode) → node_of tree number ≡ Some node → number ≢ root → HasParent tree number node
  pub numbers : (number : ℕ) (node : HeldNode) → node_of tree number ≡ Some node → number < tree.next
  pub versions : (number : ℕ) (node : HeldNode) → node_of tree number ≡ Some node → node.version < 2 ^ 32
  pub directories : (number : ℕ) (node : HeldNode) → node_of tree number ≡ Some node → IsSome (folder_in node.kept.what) → has_names names number ≡ true
  pub named : (parent : ℕ) (name : List ℕ) (number : ℕ) → number_at names parent name ≡ Some number → IsNamed tree parent name number
  pub found : (parent : ℕ) (name : List ℕ) (number : ℕ) → IsNamed tree parent name number → number_at names parent name ≡ Some number
