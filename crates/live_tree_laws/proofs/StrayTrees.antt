-- Which paths are a tree's depends on the disk alone; so a stray is kept if its path's node is, and the tree has no more paths than before.
use Rattle.std.proofs.Common.{◌≡◌, ◌≢◌, ◌↔◌, ◌⊎◌, ℕ, Bool, true, false, List, ◌∷◌, None, Some, IsTrue, refl, sym, ◌∙◌, subst, inl, inr, true≢false}
use Rattle.std.specs.FinMap.{get}
use Rattle.outside.specs.Disk.{Disk, node_at, Path as HostPath}
use Rattle.clear_tree.specs.Queue.{In}
use Rattle.clear_tree.specs.Walk.{Path, Sealing, Node, Dir}
use Rattle.clear_tree.specs.Places.{folders_of, entry_at}
use Rattle.clear_tree.proofs.Unique.{one_tree}
use Rattle.tree_deed_laws.specs.Trees.{Tree, IsTreeOf}
use Rattle.tree_deed_laws.specs.Deeds.{place_of}
use Rattle.live_tree_laws.specs.Strays.{paths_at, IsOfTree, IsPairFolder, IsStray, KeepsStrays}

one_mark : (a b : Bool) (P : Type 0) → IsTrue a ↔ P → IsTrue b ↔ P → a ≡ b
one_mark true true P f g = refl
one_mark false false P f g = refl
one_mark true false P f g = absurd (true≢false (sym (g.1 (f.0 refl))))
one_mark false true P f g = absurd (true≢false (sym (f.1 (g.0 refl))))

-- two trees of one disk have the same paths
module _ (s : Sealing) (d : Disk) (a b : Tree) (of_a : IsTreeOf s d a) (of_b : IsTreeOf s d b) where
  same_nodes : (q : Path) → get b.nodes q ≡ get a.nodes q
  same_nodes q = of_b.exact q ∙ one_tree s (folders_of s d) of_a.owner of_b.owner of_a.first of_b.first q ∙ sym (of_a.exact q)

  same_long : (n : List ℕ) (p : Path) (i : List ℕ) (x : Node) → get a.nodes p ≡ Some (Dir i) → get a.nodes (n ∷ p) ≡ Some x → a.long (n ∷ p) ≡ b.long (n ∷ p)
  same_long n p i x parent there = one_mark (a.long (n ∷ p)) (b.long (n ∷ p)) (entry_at s d (s.folder_of i) (s.seal i n) ≡ None)
      (of_a.placed n p i x parent there) (of_b.placed n p i x (same_nodes p ∙ parent) (same_nodes (n ∷ p) ∙ there))

  same_paths : (path : HostPath) → IsOfTree s a path → IsOfTree s b path
  same_paths path (inl of) = inl (record {
    above = of.above;
    identifier = of.identifier;
    name = of.name;
    node = of.node;
    parent = same_nodes of.above ∙ of.parent;
    there = same_nodes (of.name ∷ of.above) ∙ of.there;
    is = subst (λ (z : Bool). In path (paths_at (place_of s of.identifier of.name z) of.node)) (same_long of.name of.above of.identifier of.node of.parent of.there) of.is;
  })
  same_paths path (inr of) = inr (record { at = of.at; identifier = of.identifier; there = same_nodes of.at ∙ of.there; is = of.is })

-- What is at paths that aren't the tree's stays. The tree after has no path of something that was there and wasn't the tree's; what was the
-- tree's and isn't any more is gone; and what is no tree's was there, or is a folder `d/XX`.
pub keeps : (s : Sealing) (d after : Disk) (tree tree' : Tree) → IsTreeOf s d tree → IsTreeOf s after tree'
    → ((path : HostPath) → (IsOfTree s tree path → ⊥) → node_at d path ≢ None → node_at after path ≡ node_at d path)
    → ((path : HostPath) → IsOfTree s tree' path → IsOfTree s tree path ⊎ (node_at d path ≡ None))
    → ((path : HostPath) → IsOfTree s tree path → IsOfTree s tree' path ⊎ (node_at after path ≡ None))
    → ((path : HostPath) → (IsOfTree s tree path → ⊥) → (IsOfTree s tree' path → ⊥) → (node_at after path ≡ node_at d path) ⊎ IsPairFolder after path)
    → KeepsStrays s d after
keeps s d after tree tree' of of' stays grows shrinks comes = record { kept = kept; found = found }
  where
    kept : (path : HostPath) → IsStray s d path → IsStray s after path × (node_at after path ≡ node_at d path)
    kept path stray = (
      record {
        rest = stray.rest;
        inside = stray.inside;
        there = λ e. stray.there (sym same ∙ e);
        apart = λ other of_other its. old_or_none (grows path (same_paths s after other tree' of_other of' path its));
      },
      same,
    )
      where
        same : node_at after path ≡ node_at d path
        same = stays path (stray.apart tree of) stray.there

        old_or_none : IsOfTree s tree path ⊎ (node_at d path ≡ None) → ⊥
        old_or_none (inl its) = stray.apart tree of its
        old_or_none (inr none) = stray.there none

    found : (path : HostPath) → IsStray s after path → IsStray s d path ⊎ IsPairFolder after path
    found path stray = by_case (comes path not_old (stray.apart tree' of'))
      where
        not_old : IsOfTree s tree path → ⊥
        not_old its = elim (shrinks path its) [
          | inl still ↦ stray.apart tree' of' still
          | inr none ↦ stray.there none
        ]

        by_case : (node_at after path ≡ node_at d path) ⊎ IsPairFolder after path → IsStray s d path ⊎ IsPairFolder after path
        by_case (inl same) = inl (record {
          rest = stray.rest;
          inside = stray.inside;
          there = λ e. stray.there (same ∙ e);
          apart = λ other of_other its. not_old (same_paths s d other tree of_other of path its);
        })
        by_case (inr pair) = inr pair

-- what is kept is kept from disk to disk
pub keeps_itself : (s : Sealing) (d : Disk) → KeepsStrays s d d
keeps_itself s d = record { kept = λ path stray. (stray, refl); found = λ path stray. inl stray }

pub keeps_then : (s : Sealing) (a b c : Disk) → KeepsStrays s a b → KeepsStrays s b c → KeepsStrays s a c
keeps_then s a b c first then = record {
  kept = λ path stray.
      let amid = first.kept path stray in
      let last = then.kept path amid.0 in
      (last.0, last.1 ∙ amid.1);
  found = λ path stray. by_last path (then.found path stray);
}
  where
    by_first : (path : HostPath) → IsStray s b path → IsStray s a path ⊎ IsPairFolder b path → IsStray s a path ⊎ IsPairFolder c path
    by_first path amid (inl stray) = inl stray
    by_first path amid (inr pair) = inr (record { pair = pair.pair; is = pair.is; there = (then.kept path amid).1 ∙ pair.there })

    by_last : (path : HostPath) → IsStray s b path ⊎ IsPairFolder c path → IsStray s a path ⊎ IsPairFolder c path
    by_last path (inl amid) = by_first path amid (first.found path amid)
    by_last path (inr pair) = inr pair
