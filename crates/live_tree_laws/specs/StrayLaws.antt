-- No change of a tree touches a stray.
use Rattle.std.specs.Prelude.{◌≡◌, ℕ, Bool, true, false, List, ◌∷◌, Some, None}
use Rattle.std.specs.FinMap.{get}
use Rattle.outside.specs.Disk.{Disk, IsTree}
use Rattle.deeds.specs.Deeds.{DoesAll, IsAlikeBut}
use Rattle.deeds.specs.Repeatable.{journal_file, new_file}
use Rattle.clear_tree.specs.Walk.{Path, Sealing, File, Link, Dir}
use Rattle.clear_tree.specs.Kept.{what_of}
use Rattle.tree_deed_laws.specs.Trees.{AreTexts, Tree, IsTreeOf}
use Rattle.tree_deed_laws.specs.Changes.{IsNew, IsHeldByNone, IsEmptied}
use Rattle.tree_deed_laws.specs.Deeds.{place_of, create_file_deeds, create_dir_deeds, remove_deeds, rename_deeds}
use Rattle.live_tree_laws.specs.Writing.{IsRewritten, file_at}
use Rattle.live_tree_laws.specs.Strays.{KeepsStrays}

-- a file is made, at its short or its long place
abbrev pub CreatedFileKeeps : Type 0
CreatedFileKeeps = (s : Sealing) (d after : Disk) (tree : Tree) (p : Path) (i n header : List ℕ) (long : Bool) → AreTexts s → IsTreeOf s d tree
    → IsNew s d tree p i n long None → DoesAll (create_file_deeds (place_of s i n long) (s.seal i n) header) d after → KeepsStrays s d after

-- a directory, with a folder of its own
abbrev pub CreatedDirectoryKeeps : Type 0
CreatedDirectoryKeeps = (s : Sealing) (d after : Disk) (tree : Tree) (p : Path) (i n t : List ℕ) (long : Bool) → AreTexts s → IsTreeOf s d tree
    → IsNew s d tree p i n long (Some t) → s.valid_id t ≡ true
    → DoesAll (create_dir_deeds (place_of s i n long) (s.seal i n) (s.folder_of t) t) d after → KeepsStrays s d after

-- a node is removed: a file, a link, or a directory in which there is nothing
abbrev pub RemovedFileKeeps : Type 0
RemovedFileKeeps = (s : Sealing) (d after : Disk) (tree : Tree) (p : Path) (i n b : List ℕ) → AreTexts s → IsTreeOf s d tree
    → IsHeldByNone tree p i n (File b) → DoesAll (remove_deeds (place_of s i n (tree.long (n ∷ p))) (what_of s (File b))) d after → KeepsStrays s d after

abbrev pub RemovedLinkKeeps : Type 0
RemovedLinkKeeps = (s : Sealing) (d after : Disk) (tree : Tree) (p : Path) (i n b : List ℕ) → AreTexts s → IsTreeOf s d tree
    → IsHeldByNone tree p i n (Link b) → DoesAll (remove_deeds (place_of s i n (tree.long (n ∷ p))) (what_of s (Link b))) d after → KeepsStrays s d after

abbrev pub RemovedDirectoryKeeps : Type 0
RemovedDirectoryKeeps = (s : Sealing) (d after : Disk) (tree : Tree) (p : Path) (i n t : List ℕ) → AreTexts s → IsTreeOf s d tree
    → IsHeldByNone tree p i n (Dir t) → IsEmptied tree (n ∷ p)
    → DoesAll (remove_deeds (place_of s i n (tree.long (n ∷ p))) (what_of s (Dir t))) d after → KeepsStrays s d after

-- a node is renamed, from either place to either; a directory with all that is in it
abbrev pub RenamedFileKeeps : Type 0
RenamedFileKeeps = (s : Sealing) (d after : Disk) (tree : Tree) (p : Path) (i n k b : List ℕ) (long : Bool) → AreTexts s → IsTreeOf s d tree
    → IsHeldByNone tree p i n (File b) → IsNew s d tree p i k long None
    → DoesAll (rename_deeds (place_of s i n (tree.long (n ∷ p))) (place_of s i k long) (s.seal i k) (what_of s (File b))) d after → KeepsStrays s d after

abbrev pub RenamedLinkKeeps : Type 0
RenamedLinkKeeps = (s : Sealing) (d after : Disk) (tree : Tree) (p : Path) (i n k b : List ℕ) (long : Bool) → AreTexts s → IsTreeOf s d tree
    → IsHeldByNone tree p i n (Link b) → IsNew s d tree p i k long None
    → DoesAll (rename_deeds (place_of s i n (tree.long (n ∷ p))) (place_of s i k long) (s.seal i k) (what_of s (Link b))) d after → KeepsStrays s d after

abbrev pub RenamedDirectoryKeeps : Type 0
RenamedDirectoryKeeps = (s : Sealing) (d after : Disk) (tree : Tree) (p : Path) (i n k t : List ℕ) (long : Bool) → AreTexts s → IsTreeOf s d tree
    → IsHeldByNone tree p i n (Dir t) → IsNew s d tree p i k long None → tree.marks.twice ≡ false
    → DoesAll (rename_deeds (place_of s i n (tree.long (n ∷ p))) (place_of s i k long) (s.seal i k) (what_of s (Dir t))) d after → KeepsStrays s d after

-- the host file of a file has other bytes
abbrev pub RewrittenFileKeeps : Type 0
RewrittenFileKeeps = (s : Sealing) (d after : Disk) (tree : Tree) (p : Path) (i n old bytes : List ℕ) → IsTreeOf s d tree
    → get tree.nodes p ≡ Some (Dir i) → get tree.nodes (n ∷ p) ≡ Some (File old)
    → IsRewritten d after (file_at (place_of s i n (tree.long (n ∷ p)))) bytes → KeepsStrays s d after

-- what the journal's two files hold does not matter
abbrev pub KeptBesideJournal : Type 0
KeptBesideJournal = (s : Sealing) (d after : Disk) → IsTree d → IsTree after → IsAlikeBut journal_file new_file d after → KeepsStrays s d after
