-- What changes leave of the claims of a tree, and how they compare to those of a disk.
use Rattle.std.specs.Prelude.{◌≡◌, ℕ, List, ◌∷◌, Bool, true, false, Some, None, IsTrue}
use Rattle.std.specs.FinMap.{get}
use Rattle.std.specs.Ordering.{nat_cmp}
use Rattle.std.specs.Cmp.Lexicographic.{slice_cmp}
use Rattle.std.specs.BTreeMap.{insert_entry}
use Rattle.outside.specs.Disk.{Disk}
use Rattle.vault_path.specs.Parts.{is_part}
use Rattle.vault_keys.specs.Keys.{KeyPair}
use Rattle.clear_tree.specs.Walk.{Path, Sealing, Node, Dir, claimed}
use Rattle.clear_tree.specs.Kept.{what_of}
use Rattle.tree_loading.specs.Format.{sealing_of}
use Rattle.tree_deed_laws.specs.Trees.{Tree, IsTreeOf}
use Rattle.tree_deed_laws.specs.Deeds.{place_of}
use Rattle.tree_deed_laws.specs.Taken.{IsClaimed}
use Rattle.live_tree.specs.Held.{HeldNode, HeldTree, node_of, IsTree}
use Rattle.clear_tree.specs.Built.{IsFile}
use Rattle.live_tree.specs.Changes.{added, removed, renamed, touched, dated}
use Rattle.name_places.specs.Claims.{claimed_in, claimed_at, NamesFolder, IsOnly, AreClaimsOf, claims_in, number_in}

-- ---- changes that name no folder and take none away

-- a node that names no folder is made
abbrev pub MakingKeeps : Type 0
MakingKeeps = (s : Sealing) (tree : HeldTree) (claims : List (List ℕ × ℕ)) (node : HeldNode) (now : ℕ) → IsTree tree → AreClaimsOf s tree claims
    → claimed_in s node.kept.what ≡ None → AreClaimsOf s (added tree node now) claims

-- a node that names no folder goes
abbrev pub RemovingKeeps : Type 0
RemovingKeeps = (s : Sealing) (tree : HeldTree) (claims : List (List ℕ × ℕ)) (number parent now : ℕ) → AreClaimsOf s tree claims
    → claimed_at s tree number ≡ None → AreClaimsOf s (removed tree number parent now) claims

-- any node gets another name
abbrev pub RenamingKeeps : Type 0
RenamingKeeps = (s : Sealing) (tree : HeldTree) (claims : List (List ℕ × ℕ)) (number parent : ℕ) (name entry : List ℕ) (long : Bool) (now : ℕ)
    → AreClaimsOf s tree claims → AreClaimsOf s (renamed tree number parent name entry long now) claims

-- a file is written
abbrev pub WritingKeeps : Type 0
WritingKeeps = (s : Sealing) (tree : HeldTree) (claims : List (List ℕ × ℕ)) (number size now : ℕ) → AreClaimsOf s tree claims
    → ((node : HeldNode) → node_of tree number ≡ Some node → IsFile node.kept.what) → AreClaimsOf s (touched tree number size now) claims

-- any node's mtime is set
abbrev pub DatingKeeps : Type 0
DatingKeeps = (s : Sealing) (tree : HeldTree) (claims : List (List ℕ × ℕ)) (number modified : ℕ) → AreClaimsOf s tree claims
    → AreClaimsOf s (dated tree number modified) claims

-- ---- changes of the index

-- a node that names a folder is made
abbrev pub Grows : List (List ℕ × ℕ) → List (List ℕ × ℕ) → List ℕ → ℕ → Type 0
Grows old new folder number = (s : Sealing) (tree : HeldTree) (node : HeldNode) (now : ℕ) → IsTree tree → AreClaimsOf s tree old → number ≡ tree.next
    → claimed_in s node.kept.what ≡ Some folder → AreClaimsOf s (added tree node now) new

-- a folder that had no number has this one
pub record IsNumbered (old new : List (List ℕ × ℕ)) (folder : List ℕ) (number : ℕ) : Type 0 where
  pub free : number_in old folder ≡ None
  pub entries : new ≡ insert_entry (slice_cmp nat_cmp) old folder number

-- the folder has a number now, or had one, and then nothing changed
abbrev pub IsInserted : List (List ℕ × ℕ) → List (List ℕ × ℕ) → List ℕ → ℕ → Bool → Type 0
IsInserted old new folder number true = IsNumbered old new folder number
IsInserted old new folder number false = new ≡ old

-- what a folder took that had no number before is taken back
abbrev pub TakesBack : List (List ℕ × ℕ) → List (List ℕ × ℕ) → List ℕ → Type 0
TakesBack old new folder = (before : List (List ℕ × ℕ)) (number : ℕ) → IsNumbered before old folder number → new ≡ before

-- the only node that names a folder goes
abbrev pub Shrinks : List (List ℕ × ℕ) → List (List ℕ × ℕ) → List ℕ → Type 0
Shrinks old new folder = (s : Sealing) (tree : HeldTree) (number parent now : ℕ) → AreClaimsOf s tree old → IsOnly s tree folder number
    → AreClaimsOf s (removed tree number parent now) new

-- ---- claims of a disk's tree

-- the folder of each node below the root that names one is claimed
abbrev pub ClaimsAreWhole : Type 0
ClaimsAreWhole = (s : Sealing) (tree : HeldTree) (folder : List ℕ) (number : ℕ) → IsTree tree → NamesFolder s tree folder number → IsClaimed folder (claims_in s tree)

-- what is kept of a node names the folder that the node names
abbrev pub KeptClaims : KeyPair → Type 0
KeptClaims keys = (x : Node) → claimed_in (sealing_of keys) (what_of (sealing_of keys) x) ≡ claimed (sealing_of keys) (Some x)

-- host paths can be made of the entries of a disk's nodes
abbrev pub EntriesAreParts : KeyPair → Type 0
EntriesAreParts keys = (d : Disk) (tree : Tree) (p : Path) (i n : List ℕ) (x : Node) → IsTreeOf (sealing_of keys) d tree
    → get tree.nodes p ≡ Some (Dir i) → get tree.nodes (n ∷ p) ≡ Some x → IsTrue (is_part (place_of (sealing_of keys) i n (tree.long (n ∷ p))).entry)
