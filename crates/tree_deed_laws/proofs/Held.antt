-- What is known of a node that nothing holds.
use Rattle.std.proofs.Common.{◌≡◌, ℕ, Bool, true, false, cond, List, ◌∷◌, Option, Some, None, refl, sym, ap, ◌∙◌, subst, inl, inr, ◌⊎◌}
use Rattle.outside.specs.Disk.{Disk, Node as Thing}
use Rattle.clear_tree.specs.Walk.{Path, same_path, Sealing, Node, Dir, node_at, claimed}
use Rattle.clear_tree.specs.Places.{folders_of, entry_at, entry_of}
use Rattle.clear_tree.specs.Marks.{IsShadowedIn}
use Rattle.clear_tree.proofs.Owner.{below_leaf}
use Rattle.tree_deed_laws.specs.Trees.{Tree, IsTreeOf, without_node}
use Rattle.tree_deed_laws.specs.Changes.{IsHeldByNone, EntriesAreOfPlaces}
use Rattle.tree_deed_laws.specs.Deeds.{entry_text}
use Rattle.tree_deed_laws.proofs.Seeing.{entry_cases, some_there}
use Rattle.tree_deed_laws.proofs.Exact.{unset}
use Rattle.tree_deed_laws.proofs.Filling.{IsAt, is_at}
use Rattle.tree_deed_laws.proofs.Maps.{get_without}
use Rattle.tree_deed_laws.proofs.Standing.{IsPlain}
use Rattle.tree_deed_laws.proofs.Stands.{StandsFor, tree_stands}

module _ (s : Sealing) (d : Disk) (tree : Tree) (p : Path) (i n : List ℕ) (x : Node) (is : IsTreeOf s d tree) (held : IsHeldByNone tree p i n x) where
  abbrev o : List ℕ → Path
  o = is.owner

  at : node_at s (folders_of s d) o p ≡ Some (Dir i)
  at = sym (is.exact p) ∙ held.parent

  there : node_at s (folders_of s d) o (n ∷ p) ≡ Some x
  there = sym (is.exact (n ∷ p)) ∙ held.there

  pub plain : IsPlain s d o p i n x
  plain = record {
    parent = at;
    there = there;
    unmarked = λ f. unset (tree.marks.shadowed (n ∷ p)) (IsShadowedIn s d (node_at s (folders_of s d) o p) n (node_at s (folders_of s d) o (n ∷ p))) (is.marked.shadowed n p) held.clean
        (subst (λ (z : Option Node). IsShadowedIn s d z n (node_at s (folders_of s d) o (n ∷ p))) (sym at) (subst (λ (z : Option Node). IsShadowedIn s d (Some (Dir i)) n z) (sym there) f));
  }

  pub now_at : IsAt s d (s.folder_of i) (s.seal i n) (tree.long (n ∷ p))
  now_at = is_at s d (s.folder_of i) (s.seal i n) (tree.long (n ∷ p)) (is.placed n p i x held.parent held.there)

  pub without_it : (d' : Disk) → StandsFor s d' tree.marks tree.long o
      → ((q : Path) → node_at s (folders_of s d') o q ≡ cond (same_path (n ∷ p) q) None (node_at s (folders_of s d) o q)) → IsTreeOf s d' (without_node tree (n ∷ p))
  without_it d' st' nodes' = tree_stands s d' (without_node tree (n ∷ p)) o st'
      (λ q. get_without tree.nodes (n ∷ p) q ∙ ap (λ (z : Option Node). cond (same_path (n ∷ p) q) None z) (is.exact q) ∙ sym (nodes' q))

  -- what names no folder has no node below it
  pub none_below : claimed s (Some x) ≡ None → (l : List ℕ) → node_at s (folders_of s d) o (l ∷ n ∷ p) ≡ None
  unfolding node_at
  none_below none_named l = below_leaf s (folders_of s d) o (l ∷ n ∷ p) l (node_at s (folders_of s d) o (n ∷ p)) (ap (claimed s) there ∙ none_named)

pub entries_are_of_places : EntriesAreOfPlaces
entries_are_of_places s d tree p i n x is at there = go (tree.long (n ∷ p)) (is_at s d (s.folder_of i) (s.seal i n) (tree.long (n ∷ p)) (is.placed n p i x at there))
    (entry_cases s d (s.folder_of i) (s.seal i n))
  where
    go : (b : Bool) → IsAt s d (s.folder_of i) (s.seal i n) b
        → ((entry_at s d (s.folder_of i) (s.seal i n) ≡ None) × (entry_of s d (s.folder_of i) (s.seal i n) ≡ s.long_of (s.seal i n)))
        ⊎ ((y : Thing) × (entry_at s d (s.folder_of i) (s.seal i n) ≡ Some y) × (entry_of s d (s.folder_of i) (s.seal i n) ≡ s.seal i n))
        → entry_of s d (s.folder_of i) (s.seal i n) ≡ entry_text s b (s.seal i n)
    go true h (inl e) = e.1
    go true h (inr e) = absurd (some_there _ _ e.1 (h.0 refl))
    go false h (inl e) = absurd (h.1 refl e.0)
    go false h (inr e) = e.2
