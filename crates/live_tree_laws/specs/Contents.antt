-- The contents that were right for the tree are so after a change, but for those of the node that is made or written.
use Rattle.std.specs.Prelude.{◌≡◌, ℕ, List, ◌∷◌, Bool, length, Some}
use Rattle.std.specs.FinMap.{get}
use Rattle.tree_model.specs.Rows.{Content}
use Rattle.clear_tree.specs.Walk.{Path, Sealing, Node, File, Dir}
use Rattle.clear_tree.specs.Rows.{content_in}
use Rattle.clear_tree.specs.Kept.{what_of, content_of}
use Rattle.tree_deed_laws.specs.Trees.{Tree, with_node, without_node, with_name}
use Rattle.tree_deed_laws.specs.Deeds.{place_of}
use Rattle.live_tree.specs.Held.{HeldTree, IsNamed, IsFree, IsChildless}
use Rattle.live_tree.specs.Changes.{new_node, added, removed, renamed, touched, dated, AgreeBut}
use Rattle.live_tree_laws.specs.Holds.{IsAt, Holds, AreHeldContents}
use Rattle.live_tree_laws.specs.Writing.{with_file}

abbrev pub MakingKeepsContents : Type 0
MakingKeepsContents = (s : Sealing) (tree : Tree) (live : HeldTree) (p : Path) (parent : ℕ) (i n : List ℕ) (x : Node) (long : Bool) (now : ℕ) (contents contents' : ℕ → Content)
    → Holds s tree live → IsAt live p parent → get tree.nodes p ≡ Some (Dir i) → IsFree live parent n
    → AreHeldContents s tree live contents → AgreeBut live.next contents contents' → content_of (what_of s x) (contents' live.next) ≡ content_in s x
    → AreHeldContents s (with_node tree (n ∷ p) x long) (added live (new_node parent n (what_of s x) (place_of s i n long).entry long now) now) contents'

abbrev pub RemovingKeepsContents : Type 0
RemovingKeepsContents = (s : Sealing) (tree : Tree) (live : HeldTree) (p : Path) (parent number : ℕ) (n : List ℕ) (now : ℕ) (contents : ℕ → Content)
    → Holds s tree live → IsAt live p parent → IsNamed live parent n number → IsChildless live number → AreHeldContents s tree live contents
    → AreHeldContents s (without_node tree (n ∷ p)) (removed live number parent now) contents

abbrev pub RenamingKeepsContents : Type 0
RenamingKeepsContents = (s : Sealing) (tree : Tree) (live : HeldTree) (p : Path) (parent number : ℕ) (i n k : List ℕ) (long : Bool) (now : ℕ) (contents : ℕ → Content)
    → Holds s tree live → IsAt live p parent → get tree.nodes p ≡ Some (Dir i) → IsNamed live parent n number → IsFree live parent k → AreHeldContents s tree live contents
    → AreHeldContents s (with_name tree (n ∷ p) (k ∷ p) long) (renamed live number parent k (place_of s i k long).entry long now) contents

abbrev pub WritingKeepsContents : Type 0
WritingKeepsContents = (s : Sealing) (tree : Tree) (live : HeldTree) (p : Path) (number : ℕ) (old bytes : List ℕ) (now : ℕ) (contents contents' : ℕ → Content) → Holds s tree live
    → IsAt live p number → get tree.nodes p ≡ Some (File old) → AreHeldContents s tree live contents → AgreeBut number contents contents' → contents' number ≡ s.content bytes
    → AreHeldContents s (with_file tree p bytes) (touched live number (length bytes) now) contents'

abbrev pub DatingKeepsContents : Type 0
DatingKeepsContents = (s : Sealing) (tree : Tree) (live : HeldTree) (number modified : ℕ) (contents : ℕ → Content) → Holds s tree live → AreHeldContents s tree live contents
    → AreHeldContents s tree (dated live number modified) contents
