-- The laws of changes: if the tree's step doesn't refuse one and no place is taken, its deeds can be done, again after a stop too, and
-- leave the disk of the tree after it.
use Rattle.std.specs.Prelude.{◌≡◌, ℕ, Bool, true, false, List, ◌∷◌, Option, Some, None}
use Rattle.std.specs.FinMap.{get}
use Rattle.outside.specs.Disk.{Disk, IsTree}
use Rattle.deeds.specs.Deeds.{PlainDeed, DoesAll, IsAmid, IsAlikeBut, in_order}
use Rattle.deeds.specs.Repeatable.{IsRepeatable, journal_file, new_file}
use Rattle.clear_tree.specs.Walk.{Path, Sealing, Node, File, Link, Dir, is_name}
use Rattle.clear_tree.specs.Places.{entry_of}
use Rattle.clear_tree.specs.Kept.{what_of}
use Rattle.tree_deed_laws.specs.Trees.{AreTexts, Tree, IsTreeOf, with_node, without_node, with_name}
use Rattle.tree_deed_laws.specs.Taken.{Claim, AreClaimed, taken}
use Rattle.tree_deed_laws.specs.Deeds.{place_of, create_file_deeds, create_dir_deeds, remove_deeds, rename_deeds}

-- Deeds that are in the order of doing, can all be done on the disk, and again on what a stop left of that, and leave the disk of this tree.
pub record Leads (s : Sealing) (d : Disk) (deeds : List PlainDeed) (tree : Tree) : Type 0 where
  pub after : Disk
  pub ordered : in_order deeds ≡ deeds
  pub does : DoesAll deeds d after
  pub repeatable : IsRepeatable deeds
  pub clear : IsTreeOf s after tree

-- A name can be in the directory of identifier i, at its short or its long place: it opens to itself, and no place that it needs is taken.
pub record CanStand (s : Sealing) (d : Disk) (tree : Tree) (i n : List ℕ) (long : Bool) (drawn : Option (List ℕ)) : Type 0 where
  pub named : is_name n (s.open_name i (s.seal i n)) ≡ true
  pub part : long ≡ false → s.is_part (s.seal i n) ≡ true
  pub claims : List Claim
  pub claimed : AreClaimed s tree.nodes claims
  pub untaken : taken s d claims i n drawn ≡ None

-- A new name can be added to the directory at p, of identifier i.
pub record IsNew (s : Sealing) (d : Disk) (tree : Tree) (p : Path) (i n : List ℕ) (long : Bool) (drawn : Option (List ℕ)) : Type 0 where
  pub parent : get tree.nodes p ≡ Some (Dir i)
  pub free : get tree.nodes (n ∷ p) ≡ None
  pub place : CanStand s d tree i n long drawn

-- A node of the directory at p, of identifier i, which has neither a twin nor further entries.
pub record IsHeldByNone (tree : Tree) (p : Path) (i n : List ℕ) (x : Node) : Type 0 where
  pub parent : get tree.nodes p ≡ Some (Dir i)
  pub there : get tree.nodes (n ∷ p) ≡ Some x
  pub clean : tree.marks.shadowed (n ∷ p) ≡ false

abbrev pub CreatesFile : Type 0
CreatesFile = (s : Sealing) (d : Disk) (tree : Tree) (p : Path) (i n header : List ℕ) (long : Bool) → AreTexts s → IsTreeOf s d tree
    → IsNew s d tree p i n long None
    → Leads s d (create_file_deeds (place_of s i n long) (s.seal i n) header) (with_node tree (n ∷ p) (File header) long)

abbrev pub CreatesDirectory : Type 0
CreatesDirectory = (s : Sealing) (d : Disk) (tree : Tree) (p : Path) (i n t : List ℕ) (long : Bool) → AreTexts s → IsTreeOf s d tree
    → IsNew s d tree p i n long (Some t) → s.valid_id t ≡ true
    → Leads s d (create_dir_deeds (place_of s i n long) (s.seal i n) (s.folder_of t) t) (with_node tree (n ∷ p) (Dir t) long)

abbrev pub RemovesFile : Type 0
RemovesFile = (s : Sealing) (d : Disk) (tree : Tree) (p : Path) (i n b : List ℕ) → AreTexts s → IsTreeOf s d tree
    → IsHeldByNone tree p i n (File b)
    → Leads s d (remove_deeds (place_of s i n (tree.long (n ∷ p))) (what_of s (File b))) (without_node tree (n ∷ p))

abbrev pub RemovesLink : Type 0
RemovesLink = (s : Sealing) (d : Disk) (tree : Tree) (p : Path) (i n b : List ℕ) → AreTexts s → IsTreeOf s d tree
    → IsHeldByNone tree p i n (Link b)
    → Leads s d (remove_deeds (place_of s i n (tree.long (n ∷ p))) (what_of s (Link b))) (without_node tree (n ∷ p))

-- a directory can go if it has no node, its folder nothing foreign, and no identifier is named twice
pub record IsEmptied (tree : Tree) (p : Path) : Type 0 where
  pub no_child : (m : List ℕ) → get tree.nodes (m ∷ p) ≡ None
  pub no_foreign : tree.marks.foreign p ≡ false
  pub once : tree.marks.twice ≡ false

abbrev pub RemovesDirectory : Type 0
RemovesDirectory = (s : Sealing) (d : Disk) (tree : Tree) (p : Path) (i n t : List ℕ) → AreTexts s → IsTreeOf s d tree
    → IsHeldByNone tree p i n (Dir t) → IsEmptied tree (n ∷ p)
    → Leads s d (remove_deeds (place_of s i n (tree.long (n ∷ p))) (what_of s (Dir t))) (without_node tree (n ∷ p))

abbrev pub RenamesFile : Type 0
RenamesFile = (s : Sealing) (d : Disk) (tree : Tree) (p : Path) (i n k b : List ℕ) (long : Bool) → AreTexts s → IsTreeOf s d tree
    → IsHeldByNone tree p i n (File b) → IsNew s d tree p i k long None
    → Leads s d (rename_deeds (place_of s i n (tree.long (n ∷ p))) (place_of s i k long) (s.seal i k) (what_of s (File b))) (with_name tree (n ∷ p) (k ∷ p) long)

abbrev pub RenamesLink : Type 0
RenamesLink = (s : Sealing) (d : Disk) (tree : Tree) (p : Path) (i n k b : List ℕ) (long : Bool) → AreTexts s → IsTreeOf s d tree
    → IsHeldByNone tree p i n (Link b) → IsNew s d tree p i k long None
    → Leads s d (rename_deeds (place_of s i n (tree.long (n ∷ p))) (place_of s i k long) (s.seal i k) (what_of s (Link b))) (with_name tree (n ∷ p) (k ∷ p) long)

-- a directory with all that is in it, if no identifier is named twice
abbrev pub RenamesDirectory : Type 0
RenamesDirectory = (s : Sealing) (d : Disk) (tree : Tree) (p : Path) (i n k t : List ℕ) (long : Bool) → AreTexts s → IsTreeOf s d tree
    → IsHeldByNone tree p i n (Dir t) → IsNew s d tree p i k long None → tree.marks.twice ≡ false
    → Leads s d (rename_deeds (place_of s i n (tree.long (n ∷ p))) (place_of s i k long) (s.seal i k) (what_of s (Dir t))) (with_name tree (n ∷ p) (k ∷ p) long)

-- ---- after a stop

-- done again on what a stop left, the deeds lead to the disk of the same tree
pub record LeadsAgain (s : Sealing) (image : Disk) (deeds : List PlainDeed) (tree : Tree) : Type 0 where
  pub after : Disk
  pub does : DoesAll deeds image after
  pub clear : IsTreeOf s after tree

abbrev pub DoesAgain : Type 0
DoesAgain = (s : Sealing) (d : Disk) (deeds : List PlainDeed) (tree : Tree) → Leads s d deeds tree → (image : Disk) → IsAmid deeds d image
    → LeadsAgain s image deeds tree

-- what the journal's two files hold does not matter to the tree
abbrev pub StaysBeside : Type 0
StaysBeside = (s : Sealing) (d d' : Disk) (tree : Tree) → IsTreeOf s d tree → IsTree d' → IsAlikeBut journal_file new_file d d' → IsTreeOf s d' tree

-- ---- where nodes are

-- the entry of a node is that of its place
abbrev pub EntriesAreOfPlaces : Type 0
EntriesAreOfPlaces = (s : Sealing) (d : Disk) (tree : Tree) (p : Path) (i n : List ℕ) (x : Node) → IsTreeOf s d tree
    → get tree.nodes p ≡ Some (Dir i) → get tree.nodes (n ∷ p) ≡ Some x
    → entry_of s d (s.folder_of i) (s.seal i n) ≡ (place_of s i n (tree.long (n ∷ p))).entry
