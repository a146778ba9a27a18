-- Nodes by path, with one more, one less, or a subtree under another name.
use Rattle.std.proofs.Common.{◌≡◌, ◌≢◌, ℕ, Bool, true, false, cond, List, [], ◌∷◌, map, Option, Some, None, refl, sym, ap, ap₂, ◌∙◌, inl, inr, ◌⊎◌}
use Rattle.std.specs.declared.cmp.Ordering.{Ordering}
use Rattle.std.specs.declared.cmp.Ordering.TheVariants.{Less, Equal, Greater}
use Rattle.std.specs.Ordering.{is_eq, eq_by_cmp}
use Rattle.std.specs.FinMap.{get, insert, remove, find, entries, get-insert, get-remove, get-entries, get-from_entries}
use Rattle.clear_tree.specs.Walk.{Path, same_path, walk_cmp, Node}
use Rattle.clear_tree.specs.Rows.{Nodes}
use Rattle.clear_tree.proofs.Determined.{walk_total}
use Rattle.clear_tree.proofs.Unique.{walk_equal}
use Rattle.clear_tree.proofs.Paths.{path_cases, walk_itself}
use Rattle.tree_deed_laws.specs.Trees.{swapped, renamed_nodes}
use Rattle.tree_deed_laws.proofs.Rename.{same_swapped}

-- the order decides which paths are one
ties : (p q : Path) → eq_by_cmp walk_cmp q p ≡ same_path p q
ties p q = go (path_cases p q)
  where
    apart : p ≢ q → (r : Ordering) → walk_cmp q p ≡ r → is_eq r ≡ false
    apart ne Less e = refl
    apart ne Equal e = absurd (ne (sym (walk_equal q p e)))
    apart ne Greater e = refl

    go : ((same_path p q ≡ true) × (p ≡ q)) ⊎ ((same_path p q ≡ false) × (p ≢ q)) → eq_by_cmp walk_cmp q p ≡ same_path p q
    go (inl h) = ap is_eq (ap (λ (z : Path). walk_cmp z p) (sym h.1) ∙ walk_itself p) ∙ sym h.0
    go (inr h) = apart h.1 (walk_cmp q p) refl ∙ sym h.0

pub get_with : (nodes : Nodes) (p : Path) (x : Node) (q : Path) → get (insert nodes p x) q ≡ cond (same_path p q) (Some x) (get nodes q)
get_with nodes p x q = get-insert walk_total nodes p x q ∙ ap (λ (b : Bool). cond b (Some x) (get nodes q)) (ties p q)

pub get_without : (nodes : Nodes) (p q : Path) → get (remove nodes p) q ≡ cond (same_path p q) None (get nodes q)
get_without nodes p q = get-remove walk_total nodes p q ∙ ap (λ (b : Bool). cond b None (get nodes q)) (ties p q)

-- ---- the paths of two subtrees exchanged
module _ (n k : List ℕ) (p : Path) (apart : n ≢ k) where
  abbrev sw : Path → Path
  sw = swapped (n ∷ p) (k ∷ p)

  find_moved : (es : List (Path × Node)) (q : Path) → find walk_cmp q (map (λ node. (sw node.0, node.1)) es) ≡ find walk_cmp (sw q) es
  find_moved [] q = refl
  find_moved (e ∷ es) q =
      ap₂ (λ (b : Bool) (z : Option Node). cond b (Some e.1) z)
      (ties (sw e.0) q ∙ same_swapped n k p apart e.0 q ∙ sym (ties e.0 (sw q))) (find_moved es q)

  pub get_moved : (nodes : Nodes) (q : Path) → get (renamed_nodes (n ∷ p) (k ∷ p) nodes) q ≡ get nodes (sw q)
  get_moved nodes q = get-from_entries walk_total (map (λ node. (sw node.0, node.1)) (entries nodes)) q ∙ find_moved (entries nodes) q ∙ sym (get-entries nodes (sw q))
