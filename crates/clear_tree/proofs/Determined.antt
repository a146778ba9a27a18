-- A disk determines its rows.
use Rattle.std.proofs.Common.{◌≡◌, ◌↔◌, ℕ, Bool, true, false, [], ◌∷◌, ◌⊎◌, inl, inr, Option, IsTrue, refl, sym, ap, ◌∙◌, subst}
use Rattle.std.specs.declared.cmp.Ordering.{Ordering}
use Rattle.std.specs.declared.cmp.Ordering.TheVariants.{Less, Equal, Greater}
use Rattle.std.specs.Cmp.{IsTotalOrder}
use Rattle.std.specs.Cmp.Lexicographic.{slice_cmp, nat_list_cmp_total}
use Rattle.std.specs.FinMap as map
use Rattle.std.specs.Ordering.{nat_cmp, ordering_then}
use Rattle.outside.specs.Disk.{Disk}
use Rattle.tree_model.specs.Rows.{Rows}
use Rattle.clear_tree.specs.Walk.{Path, walk_cmp, Sealing, Node, node_at, claimed}
use Rattle.clear_tree.specs.Places.{folders_of}
use Rattle.clear_tree.specs.Marks.{HasForeign, IsShadowedIn, NamedTwice}
use Rattle.clear_tree.specs.Rows.{IsClear, rows_of}
use Rattle.clear_tree.proofs.Unique.{one_tree, walk_antisymm, walk_equal}
use Rattle.clear_tree.proofs.Paths.{walk_itself}

-- ---- the walk's order is total

then_less : (a b : Ordering) → ordering_then a b ≡ Less → (a ≡ Less) ⊎ ((a ≡ Equal) × (b ≡ Less))
then_less Less b h = inl refl
then_less Equal b h = inr (refl, h)
then_less Greater b h = absurd cc

walk_trans : (p q r : Path) → walk_cmp p q ≡ Less → walk_cmp q r ≡ Less → walk_cmp p r ≡ Less
walk_trans [] [] r h g = absurd cc
walk_trans [] (n ∷ q) [] h g = absurd cc
walk_trans [] (n ∷ q) (k ∷ r) h g = refl
walk_trans (m ∷ p) [] r h g = absurd cc
walk_trans (m ∷ p) (n ∷ q) [] h g = absurd cc
walk_trans (m ∷ p) (n ∷ q) (k ∷ r) h g = go (walk_trans p q r) (then_less (walk_cmp p q) (slice_cmp nat_cmp m n) h) (then_less (walk_cmp q r) (slice_cmp nat_cmp n k) g)
  where
    front : (p ≡ q) → (q ≡ r) → walk_cmp p r ≡ Equal
    front e f = ap (λ (z : Path). walk_cmp z r) (e ∙ f) ∙ walk_itself r

    go : (walk_cmp p q ≡ Less → walk_cmp q r ≡ Less → walk_cmp p r ≡ Less)
        → (walk_cmp p q ≡ Less) ⊎ ((walk_cmp p q ≡ Equal) × (slice_cmp nat_cmp m n ≡ Less))
        → (walk_cmp q r ≡ Less) ⊎ ((walk_cmp q r ≡ Equal) × (slice_cmp nat_cmp n k ≡ Less))
        → ordering_then (walk_cmp p r) (slice_cmp nat_cmp m k) ≡ Less
    go both (inl a) (inl b) = ap (λ (o : Ordering). ordering_then o (slice_cmp nat_cmp m k)) (both a b)
    go both (inl a) (inr b) = ap (λ (o : Ordering). ordering_then o (slice_cmp nat_cmp m k)) (subst (λ (z : Path). walk_cmp p z ≡ Less) (walk_equal q r b.0) a)
    go both (inr a) (inl b) = ap (λ (o : Ordering). ordering_then o (slice_cmp nat_cmp m k)) (subst (λ (z : Path). walk_cmp z r ≡ Less) (sym (walk_equal p q a.0)) b)
    go both (inr a) (inr b) =
        ap (λ (o : Ordering). ordering_then o (slice_cmp nat_cmp m k)) (front (walk_equal p q a.0) (walk_equal q r b.0))
        ∙ nat_list_cmp_total.trans m n k a.1 b.1

pub walk_total : IsTotalOrder walk_cmp
walk_total = record {
  antisymm = walk_antisymm;
  trans = walk_trans;
  congr = λ p q r e. ap (λ (z : Path). walk_cmp z r) (walk_equal p q e);
}

-- ---- the rows

-- two marks of one fact are one
one_mark : (a b : Bool) (P : Type 0) → IsTrue a ↔ P → IsTrue b ↔ P → a ≡ b
one_mark true b P x y = sym (y.1 (x.0 refl))
one_mark false true P x y = x.1 (y.0 refl)
one_mark false false P x y = refl

module _ (s : Sealing) (d : Disk) (now : ℕ) (a b : Rows) (x : IsClear s d now a) (y : IsClear s d now b) where
  same_node : (q : Path) → node_at s (folders_of s d) y.owner q ≡ node_at s (folders_of s d) x.owner q
  same_node q = one_tree s (folders_of s d) x.owner y.owner x.first y.first q

  same_nodes : y.nodes ≡ x.nodes
  same_nodes = map.same_map walk_total walk_equal y.nodes x.nodes (λ q. y.exact q ∙ same_node q ∙ sym (x.exact q))

  same_foreign : (p : Path) → y.marks.foreign p ≡ x.marks.foreign p
  same_foreign p = one_mark (y.marks.foreign p) (x.marks.foreign p) (HasForeign s d (node_at s (folders_of s d) x.owner p))
      (subst (λ (z : Option Node). IsTrue (y.marks.foreign p) ↔ HasForeign s d z) (same_node p) (y.marked.foreign p)) (x.marked.foreign p)

  same_shadowed : (p : Path) → y.marks.shadowed p ≡ x.marks.shadowed p
  same_shadowed [] = y.marked.root ∙ sym x.marked.root
  same_shadowed (n ∷ p) =
      one_mark (y.marks.shadowed (n ∷ p)) (x.marks.shadowed (n ∷ p))
      (IsShadowedIn s d (node_at s (folders_of s d) x.owner p) n (node_at s (folders_of s d) x.owner (n ∷ p)))
      (subst (λ (z : Option Node). IsTrue (y.marks.shadowed (n ∷ p)) ↔ IsShadowedIn s d (node_at s (folders_of s d) x.owner p) n z) (same_node (n ∷ p))
      (subst (λ (z : Option Node). IsTrue (y.marks.shadowed (n ∷ p)) ↔ IsShadowedIn s d z n (node_at s (folders_of s d) y.owner (n ∷ p))) (same_node p) (y.marked.shadowed n p)))
      (x.marked.shadowed n p)

  twice_to : NamedTwice s (folders_of s d) y.owner → NamedTwice s (folders_of s d) x.owner
  twice_to t = record {
    one = t.one;
    other = t.other;
    folder = t.folder;
    two = t.two;
    first = ap (claimed s) (sym (same_node t.one)) ∙ t.first;
    second = ap (claimed s) (sym (same_node t.other)) ∙ t.second;
  }

  twice_from : NamedTwice s (folders_of s d) x.owner → NamedTwice s (folders_of s d) y.owner
  twice_from t = record {
    one = t.one;
    other = t.other;
    folder = t.folder;
    two = t.two;
    first = ap (claimed s) (same_node t.one) ∙ t.first;
    second = ap (claimed s) (same_node t.other) ∙ t.second;
  }

  same_twice : y.marks.twice ≡ x.marks.twice
  same_twice = one_mark y.marks.twice x.marks.twice (NamedTwice s (folders_of s d) x.owner)
      ((λ e. twice_to (y.marked.twice.0 e)), (λ t. y.marked.twice.1 (twice_from t))) x.marked.twice

  same_marks : y.marks ≡ x.marks
  same_marks = λ i. record { foreign = λ p. same_foreign p i; shadowed = λ p. same_shadowed p i; twice = same_twice i }

  pub one_rows : b ≡ a
  one_rows = y.rows_are ∙ (λ i. rows_of s now (same_nodes i) (same_marks i)) ∙ sym x.rows_are
