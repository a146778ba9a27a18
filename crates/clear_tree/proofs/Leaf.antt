-- One file or link made, removed or replaced.
use Rattle.std.proofs.Common.{◌≡◌, ◌≢◌, ℕ, true, false, cond, List, [], ◌∷◌, Option, Some, None, bytes_eq, ◌&&◌, refl, sym, ap, ◌∙◌, inl, inr, ◌⊎◌}
use Rattle.std.specs.Map.{update}
use Rattle.std.proofs.lemmas.Bool.{cond-true, cond-false, and_from, and_parts, cases_Bool}
use Rattle.clear_tree.specs.Walk.{Path, same_path, Sealing, Kind, Folders, Node, Dir, is_name, look, node, node_at, claimed, IsOwner, Plain, Named, Linked, Bare, ChangedAt, ChangedTwo}
use Rattle.std.proofs.lemmas.Slice.Eq.{bytes_eq-Decides}
use Rattle.clear_tree.proofs.Paths.{path_cases, bytes_same}
use Rattle.clear_tree.proofs.Change.{one_change}
use Rattle.clear_tree.proofs.Owner.{look_same, below_leaf, same_owner}

-- the node of an entry depends on the folders that are there and on the owners
pub node_same : (s : Sealing) (v v' : Folders) (o : List ℕ → Path) (p : Path) (e : Option Kind) →
    ((g : List ℕ) → v'.present g ≡ v.present g) → node s v' o p e ≡ node s v o p e
node_same s v v' o p None h = refl
node_same s v v' o p (Some (Plain b)) h = refl
node_same s v v' o p (Some (Linked b)) h = refl
node_same s v v' o p (Some (Named t)) h = rw (h (s.folder_of t)) refl
node_same s v v' o p (Some Bare) h = refl

module _ (s : Sealing) (v v' : Folders) (o : List ℕ → Path) (n i : List ℕ) (p : Path)
    (own : IsOwner s v o) (at_p : node_at s v o p ≡ Some (Dir i)) (named : is_name n (s.open_name i (s.seal i n)) ≡ true)
    (changed : ChangedAt v v' (s.folder_of i) (s.seal i n)) (folders : (g : List ℕ) → v'.present g ≡ v.present g)
    (before : claimed s (node_at s v o (n ∷ p)) ≡ None) (after : claimed s (node s v' o (n ∷ p) (look s v' i n)) ≡ None) where
  pub change_leaf : (q : Path) → node_at s v' o q ≡ update same_path (node_at s v o) (n ∷ p) (node s v' o (n ∷ p) (look s v' i n)) q
  change_leaf = one_change s v v' o o n i p at_p
      (λ q m j hq ne ne2. ap (node s v' o (m ∷ q)) (look_same s v v' o own q p m n j i changed named hq at_p ne2) ∙ node_same s v v' o (m ∷ q) (look s v j m) folders)
      (λ m. below_leaf s v o (m ∷ n ∷ p) m _ before)
      (λ m. below_leaf s v' o (m ∷ n ∷ p) m _ after)

  leaf_claims : (q : Path) → claimed s (node_at s v' o q) ≡ claimed s (node_at s v o q)
  leaf_claims q = ap (claimed s) (change_leaf q) ∙ go (path_cases (n ∷ p) q)
    where
      go : ((same_path (n ∷ p) q ≡ true) × (n ∷ p ≡ q)) ⊎ ((same_path (n ∷ p) q ≡ false) × (n ∷ p ≢ q)) →
          claimed s (update same_path (node_at s v o) (n ∷ p) (node s v' o (n ∷ p) (look s v' i n)) q) ≡ claimed s (node_at s v o q)
      go (inl (t, e)) = ap (claimed s) (cond-true (same_path (n ∷ p) q) _ _ t) ∙ after ∙ sym before ∙ ap (λ (z : Path). claimed s (node_at s v o z)) e
      go (inr (f, ne)) = ap (claimed s) (cond-false (same_path (n ∷ p) q) _ _ f)

  pub leaf_owner : IsOwner s v' o
  leaf_owner = same_owner s v v' o own leaf_claims

-- a file or link under a new name in its directory, if directories may be Bad: as removed and made again
module _ (s : Sealing) (v v' : Folders) (o : List ℕ → Path) (n k i : List ℕ) (p : Path) (e : Kind)
    (own : IsOwner s v o) (at_p : node_at s v o p ≡ Some (Dir i)) (apart : n ≢ k)
    (named : is_name n (s.open_name i (s.seal i n)) ≡ true) (named_new : is_name k (s.open_name i (s.seal i k)) ≡ true)
    (changed : ChangedTwo v v' (s.folder_of i) (s.seal i n) (s.seal i k)) (folders : (g : List ℕ) → v'.present g ≡ v.present g)
    (free : v.seen (s.folder_of i) (s.seal i k) ≡ None) (gone : v'.seen (s.folder_of i) (s.seal i n) ≡ None)
    (moved : v'.seen (s.folder_of i) (s.seal i k) ≡ Some e) (leaf : (q : Path) → claimed s (node s v' o q (Some e)) ≡ None)
    (before : claimed s (node_at s v o (n ∷ p)) ≡ None) where
  -- the folders in between: without the old place
  abbrev between : Folders
  between = record {
    present = v.present;
    seen = λ g t. cond (bytes_eq g (s.folder_of i) && bytes_eq t (s.seal i n)) None (v.seen g t);
  }

  away : between.seen (s.folder_of i) (s.seal i n) ≡ None
  away = cond-true (bytes_eq (s.folder_of i) (s.folder_of i) && bytes_eq (s.seal i n) (s.seal i n)) _ _
      (and_from _ _ (bytes_same (s.folder_of i)) (bytes_same (s.seal i n)))

  rest : (g t : List ℕ) → (g ≡ s.folder_of i → t ≡ s.seal i n → ⊥) → between.seen g t ≡ v.seen g t
  rest g t ne = go (cases_Bool (bytes_eq g (s.folder_of i) && bytes_eq t (s.seal i n)))
    where
      go : ((bytes_eq g (s.folder_of i) && bytes_eq t (s.seal i n)) ≡ true) ⊎ ((bytes_eq g (s.folder_of i) && bytes_eq t (s.seal i n)) ≡ false) →
          cond (bytes_eq g (s.folder_of i) && bytes_eq t (s.seal i n)) None (v.seen g t) ≡ v.seen g t
      go (inr b) = cond-false _ _ _ b
      go (inl b) = let c : (bytes_eq g (s.folder_of i) ≡ true) × (bytes_eq t (s.seal i n) ≡ true) = and_parts _ _ b in
          absurd (ne ((bytes_eq-Decides g (s.folder_of i)).0 c.0) ((bytes_eq-Decides t (s.seal i n)).0 c.1))

  first_change : ChangedAt v between (s.folder_of i) (s.seal i n)
  first_change = record { others = rest }

  no_node : node s between o (n ∷ p) (look s between i n) ≡ None
  no_node = ap (node s between o (n ∷ p)) (cond-true (is_name n (s.open_name i (s.seal i n))) _ _ named ∙ away)

  middle : (q : Path) → node_at s between o q ≡ update same_path (node_at s v o) (n ∷ p) None q
  middle q = change_leaf s v between o n i p own at_p named first_change (λ g. refl) before (ap (claimed s) no_node) q
      ∙ ap (λ (x : Option Node). update same_path (node_at s v o) (n ∷ p) x q) no_node
