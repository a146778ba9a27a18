-- One changed place.
use Rattle.std.proofs.Common.{◌≡◌, ◌≢◌, ℕ, true, false, List, [], ◌∷◌, Option, Some, None, refl, sym, ap, ◌∙◌, subst, ap₂, inl, inr, ◌⊎◌}
use Rattle.std.specs.Map.{update}
use Rattle.std.proofs.lemmas.Bool.{cond-true, cond-false}
use Rattle.clear_tree.specs.Walk.{Path, same_path, Sealing, Folders, Node, File, Link, Dir, Bad, look, node, below, node_at}
use Rattle.clear_tree.proofs.Paths.{path_cases, child_apart, same_path-apart}

-- a node below x agrees if it agrees for each identifier that x may have
pub below_agree : (s : Sealing) (v v' : Folders) (o o' : List ℕ → Path) (p p' : Path) (m : List ℕ) (x : Option Node) →
    ((j : List ℕ) → x ≡ Some (Dir j) → node s v' o' p' (look s v' j m) ≡ node s v o p (look s v j m)) →
    below s v' o' p' m x ≡ below s v o p m x
below_agree s v v' o o' p p' m None h = refl
below_agree s v v' o o' p p' m (Some (Dir j)) h = h j refl
below_agree s v v' o o' p p' m (Some (File c)) h = refl
below_agree s v v' o o' p p' m (Some (Link c)) h = refl
below_agree s v v' o o' p p' m (Some (Bad t)) h = refl

-- what has changed at one path, with nothing below it before and after
module _ (s : Sealing) (v v' : Folders) (o o' : List ℕ → Path) (n i : List ℕ) (p : Path) where
  abbrev pub new_node : Option Node
  new_node = node s v' o' (n ∷ p) (look s v' i n)

  abbrev pub SameElsewhere : Type 0
  SameElsewhere = (q : Path) (m j : List ℕ) → node_at s v o q ≡ Some (Dir j) → q ≢ n ∷ p → m ∷ q ≢ n ∷ p → node s v' o' (m ∷ q) (look s v' j m) ≡ node s v o (m ∷ q) (look s v j m)

  at_place : (m : List ℕ) (q : Path) → n ∷ p ≡ m ∷ q → node_at s v' o' q ≡ Some (Dir i) → below s v' o' (m ∷ q) m (node_at s v' o' q) ≡ new_node
  at_place m q e h =
      let em : m ≡ n = cc in
      let eq : q ≡ p = cc in
      ap (below s v' o' (m ∷ q) m) h ∙ ap₂ (λ (a : List ℕ) (b : Path). node s v' o' (a ∷ b) (look s v' i a)) em eq

  pub one_change : node_at s v o p ≡ Some (Dir i) →
      SameElsewhere →
      ((m : List ℕ) → below s v o (m ∷ n ∷ p) m (node_at s v o (n ∷ p)) ≡ None) →
      ((m : List ℕ) → below s v' o' (m ∷ n ∷ p) m new_node ≡ None) →
      (q : Path) → node_at s v' o' q ≡ update same_path (node_at s v o) (n ∷ p) new_node q
  unfolding node_at
  one_change at_p same none none' [] = sym (cond-false (same_path (n ∷ p) []) new_node (Some (Dir [])) (same_path-apart (n ∷ p) [] (λ e. cc)))
  one_change at_p same none none' (m ∷ q) = go (one_change at_p same none none' q) (path_cases (n ∷ p) q) (path_cases (n ∷ p) (m ∷ q))
    where
      go : node_at s v' o' q ≡ update same_path (node_at s v o) (n ∷ p) new_node q →
          ((same_path (n ∷ p) q ≡ true) × (n ∷ p ≡ q)) ⊎ ((same_path (n ∷ p) q ≡ false) × (n ∷ p ≢ q)) →
          ((same_path (n ∷ p) (m ∷ q) ≡ true) × (n ∷ p ≡ m ∷ q)) ⊎ ((same_path (n ∷ p) (m ∷ q) ≡ false) × (n ∷ p ≢ m ∷ q)) →
          below s v' o' (m ∷ q) m (node_at s v' o' q) ≡ update same_path (node_at s v o) (n ∷ p) new_node (m ∷ q)
      go ih (inl (t, e)) (inl (t2, e2)) = absurd (child_apart m q (sym e2 ∙ e))
      go ih (inl (t, e)) (inr (f2, ne2)) =
          ap (below s v' o' (m ∷ q) m) (ih ∙ cond-true (same_path (n ∷ p) q) new_node (node_at s v o q) t)
          ∙ subst (λ (z : Path). below s v' o' (m ∷ z) m new_node ≡ below s v o (m ∷ z) m (node_at s v o z)) e (none' m ∙ sym (none m))
          ∙ sym (cond-false (same_path (n ∷ p) (m ∷ q)) new_node _ f2)
      go ih (inr (f, ne)) (inl (t2, e2)) =
          let ep : p ≡ q = cc in
          at_place m q e2 (ih ∙ cond-false (same_path (n ∷ p) q) new_node (node_at s v o q) f ∙ subst (λ (z : Path). node_at s v o z ≡ Some (Dir i)) ep at_p)
          ∙ sym (cond-true (same_path (n ∷ p) (m ∷ q)) new_node _ t2)
      go ih (inr (f, ne)) (inr (f2, ne2)) =
          ap (below s v' o' (m ∷ q) m) (ih ∙ cond-false (same_path (n ∷ p) q) new_node (node_at s v o q) f)
          ∙ below_agree s v v' o o' (m ∷ q) (m ∷ q) m (node_at s v o q) (λ j h. same q m j h (λ e. ne (sym e)) (λ e. ne2 (sym e)))
          ∙ sym (cond-false (same_path (n ∷ p) (m ∷ q)) new_node _ f2)
