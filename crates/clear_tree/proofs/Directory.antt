-- One directory made, or removed while it is empty.
use Rattle.std.proofs.Common.{◌≡◌, ◌≢◌, ℕ, Bool, true, false, cond, List, ◌∷◌, Option, Some, None, bytes_eq, refl, sym, ap, ◌∙◌, subst, inl, inr, ◌⊎◌}
use Rattle.std.specs.Map.{update}
use Rattle.std.specs.Ordering.{is_gt}
use Rattle.std.proofs.lemmas.Bool.{cond-true, cond-false, and_from}
use Rattle.clear_tree.specs.Walk.{Path, same_path, walk_cmp, Sealing, Kind, Folders, Node, Dir, Bad, is_name, look, node, below, node_at, claimed, IsOwner, NamedOnce, is_good, Named, ChangedAt, new_owner}
use Rattle.clear_tree.proofs.Paths.{path_cases, same_path-itself, walk_not_after, bytes_apart, bytes_same}
use Rattle.clear_tree.proofs.Change.{one_change}
use Rattle.clear_tree.proofs.Owner.{look_same, node_agree, child_claim}

-- who has a folder now, by whether the path is the changed one
at_new : (s : Sealing) (x : Option Node) (f : Path → Option Node) (p q : Path) → p ≡ q → update same_path f p x q ≡ x
at_new s x f p q e = cond-true (same_path p q) _ _ (subst (λ (z : Path). same_path p z ≡ true) e (same_path-itself p))

module _ (s : Sealing) (v v' : Folders) (o : List ℕ → Path) (n i t : List ℕ) (p : Path)
    (own : IsOwner s v o) (at_p : node_at s v o p ≡ Some (Dir i)) (named : is_name n (s.open_name i (s.seal i n)) ≡ true)
    (changed : ChangedAt v v' (s.folder_of i) (s.seal i n)) (folders : (g : List ℕ) → g ≢ s.folder_of t → v'.present g ≡ v.present g)
    (valid : s.valid_id t ≡ true) (made : v'.present (s.folder_of t) ≡ true) (empty : (u : List ℕ) → v'.seen (s.folder_of t) u ≡ None)
    (fresh : (q : Path) → claimed s (node_at s v o q) ≢ Some (s.folder_of t))
    (free : node_at s v o (n ∷ p) ≡ None) (now : v'.seen (s.folder_of i) (s.seal i n) ≡ Some (Named t)) where
  abbrev owner' : List ℕ → Path
  owner' = new_owner o (s.folder_of t) (n ∷ p)

  looked : look s v' i n ≡ Some (Named t)
  looked = cond-true (is_name n (s.open_name i (s.seal i n))) _ _ named ∙ now

  owner_other : (g : List ℕ) → g ≢ s.folder_of t → owner' g ≡ o g
  owner_other g h = cond-false (bytes_eq (s.folder_of t) g) _ _ (bytes_apart (s.folder_of t) g h)

  owner_new : owner' (s.folder_of t) ≡ n ∷ p
  owner_new = cond-true (bytes_eq (s.folder_of t) (s.folder_of t)) _ _ (bytes_same (s.folder_of t))

  new_is : node s v' owner' (n ∷ p) (look s v' i n) ≡ Some (Dir t)
  new_is =
      let good : is_good s v' owner' (n ∷ p) t ≡ true =
      and_from (s.valid_id t) _ valid (and_from (v'.present (s.folder_of t)) _ made (ap (λ (z : Path). same_path z (n ∷ p)) owner_new ∙ same_path-itself (n ∷ p))) in
      ap (node s v' owner' (n ∷ p)) looked ∙ ap (λ (b : Bool). Some (cond b (Dir t) (Bad t))) good

  elsewhere : (q : Path) (m j : List ℕ) → node_at s v o q ≡ Some (Dir j) → q ≢ n ∷ p → m ∷ q ≢ n ∷ p →
      node s v' owner' (m ∷ q) (look s v' j m) ≡ node s v o (m ∷ q) (look s v j m)
  elsewhere q m j hq ne ne2 =
      ap (node s v' owner' (m ∷ q)) (look_same s v v' o own q p m n j i changed named hq at_p ne2)
      ∙ node_agree s v v' o owner' (m ∷ q) (m ∷ q) (look s v j m) (λ x l vx.
      let other : s.folder_of x ≢ s.folder_of t = λ e. fresh (m ∷ q) (child_claim s v o m j x q hq l vx ∙ ap (λ (z : List ℕ). Some z) e) in
      (folders (s.folder_of x) other, ap (λ (z : Path). same_path z (m ∷ q)) (owner_other (s.folder_of x) other)))

  nothing_in : (m : List ℕ) → look s v' t m ≡ None
  nothing_in m = go (is_name m (s.open_name t (s.seal t m)))
    where
      go : (b : Bool) → cond b (v'.seen (s.folder_of t) (s.seal t m)) None ≡ None
      go true = empty (s.seal t m)
      go false = refl

  pub create_dir : (q : Path) → node_at s v' owner' q ≡ update same_path (node_at s v o) (n ∷ p) (Some (Dir t)) q
  create_dir q = one_change s v v' o owner' n i p at_p elsewhere
      (λ m. ap (below s v o (m ∷ n ∷ p) m) free)
      (λ m. ap (below s v' owner' (m ∷ n ∷ p) m) new_is ∙ ap (node s v' owner' (m ∷ n ∷ p)) (nothing_in m)) q
      ∙ ap (λ (x : Option Node). update same_path (node_at s v o) (n ∷ p) x q) new_is

  at_made : (q : Path) → n ∷ p ≡ q → node_at s v' owner' q ≡ Some (Dir t)
  at_made q e = create_dir q ∙ at_new s (Some (Dir t)) (node_at s v o) (n ∷ p) q e

  at_other : (q : Path) → n ∷ p ≢ q → node_at s v' owner' q ≡ node_at s v o q
  at_other q h = create_dir q ∙ go (path_cases (n ∷ p) q)
    where
      go : ((same_path (n ∷ p) q ≡ true) × (n ∷ p ≡ q)) ⊎ ((same_path (n ∷ p) q ≡ false) × (n ∷ p ≢ q)) →
          update same_path (node_at s v o) (n ∷ p) (Some (Dir t)) q ≡ node_at s v o q
      go (inl (b, e)) = absurd (h e)
      go (inr (b, e)) = cond-false (same_path (n ∷ p) q) _ _ b

  -- a claim of before holds, and its owner is as before
  kept : (q : Path) (f : List ℕ) → claimed s (node_at s v o q) ≡ Some f → (owner' f ≡ o f) × (claimed s (node_at s v' owner' q) ≡ Some f)
  kept q f h = (
    owner_other f (λ e. fresh q (h ∙ ap (λ (z : List ℕ). Some z) e)),
    ap (claimed s) (at_other q (λ e. let a : node_at s v o q ≡ None = subst (λ (z : Path). node_at s v o z ≡ None) e free in
        let b : claimed s (node_at s v o q) ≡ None = ap (claimed s) a in cc)) ∙ h,
  )

  at_claim : (q : Path) (f : List ℕ) → claimed s (node_at s v' owner' q) ≡ Some f →
      ((n ∷ p ≡ q) × (f ≡ s.folder_of t)) ⊎ (claimed s (node_at s v o q) ≡ Some f)
  at_claim q f h = go (path_cases (n ∷ p) q)
    where
      go : ((same_path (n ∷ p) q ≡ true) × (n ∷ p ≡ q)) ⊎ ((same_path (n ∷ p) q ≡ false) × (n ∷ p ≢ q)) →
          ((n ∷ p ≡ q) × (f ≡ s.folder_of t)) ⊎ (claimed s (node_at s v o q) ≡ Some f)
      go (inl (b, e)) = let a : claimed s (node_at s v' owner' q) ≡ Some (s.folder_of t) = ap (claimed s) (at_made q e) in inl (e, cc)
      go (inr (b, e)) = inr (ap (claimed s) (sym (at_other q e)) ∙ h)

  pub created_owner : IsOwner s v' owner'
  created_owner = record {
    holds = λ q f h. holds_by q f (at_claim q f h);
    first = λ q f h. first_by q f (at_claim q f h);
  }
    where
      holds_by : (q : Path) (f : List ℕ) → ((n ∷ p ≡ q) × (f ≡ s.folder_of t)) ⊎ (claimed s (node_at s v o q) ≡ Some f) →
          claimed s (node_at s v' owner' (owner' f)) ≡ Some f
      holds_by q f (inl (e, ef)) = ap (claimed s) (at_made (owner' f) (sym (ap owner' ef ∙ owner_new))) ∙ ap (λ (z : List ℕ). Some z) (sym ef)
      holds_by q f (inr h) =
          let k : (owner' f ≡ o f) × (claimed s (node_at s v' owner' q) ≡ Some f) = kept q f h in
          let l : (owner' f ≡ o f) × (claimed s (node_at s v' owner' (o f)) ≡ Some f) = kept (o f) f (own.holds q f h) in
          ap (λ (z : Path). claimed s (node_at s v' owner' z)) k.0 ∙ l.1

      first_by : (q : Path) (f : List ℕ) → ((n ∷ p ≡ q) × (f ≡ s.folder_of t)) ⊎ (claimed s (node_at s v o q) ≡ Some f) →
          is_gt (walk_cmp (owner' f) q) ≡ false
      first_by q f (inl (e, ef)) = subst (λ (z : Path). is_gt (walk_cmp z q) ≡ false) (sym (ap owner' ef ∙ owner_new ∙ e)) (walk_not_after q)
      first_by q f (inr h) = subst (λ (z : Path). is_gt (walk_cmp z q) ≡ false) (sym (kept q f h).0) (own.first q f h)

-- an empty directory removed, if no folder is named twice
module _ (s : Sealing) (v v' : Folders) (o : List ℕ → Path) (n i t : List ℕ) (p : Path)
    (own : IsOwner s v o) (at_p : node_at s v o p ≡ Some (Dir i)) (named : is_name n (s.open_name i (s.seal i n)) ≡ true)
    (changed : ChangedAt v v' (s.folder_of i) (s.seal i n)) (folders : (g : List ℕ) → g ≢ s.folder_of t → v'.present g ≡ v.present g)
    (once : NamedOnce s v o) (is_dir : node_at s v o (n ∷ p) ≡ Some (Dir t)) (no_child : (m : List ℕ) → node_at s v o (m ∷ n ∷ p) ≡ None)
    (now : v'.seen (s.folder_of i) (s.seal i n) ≡ None) where
  gone : look s v' i n ≡ None
  gone = cond-true (is_name n (s.open_name i (s.seal i n))) _ _ named ∙ now

  elsewhere_still : (q : Path) (m j : List ℕ) → node_at s v o q ≡ Some (Dir j) → q ≢ n ∷ p → m ∷ q ≢ n ∷ p →
      node s v' o (m ∷ q) (look s v' j m) ≡ node s v o (m ∷ q) (look s v j m)
  elsewhere_still q m j hq ne ne2 =
      ap (node s v' o (m ∷ q)) (look_same s v v' o own q p m n j i changed named hq at_p ne2)
      ∙ node_agree s v v' o o (m ∷ q) (m ∷ q) (look s v j m) (λ x l vx. (
        folders (s.folder_of x) (λ e. ne2 (once (m ∷ q) (n ∷ p) (s.folder_of t)
            (child_claim s v o m j x q hq l vx ∙ ap (λ (z : List ℕ). Some z) e) (ap (claimed s) is_dir))),
        refl,
      ))

  pub remove_dir : (q : Path) → node_at s v' o q ≡ update same_path (node_at s v o) (n ∷ p) None q
  unfolding node_at
  remove_dir q = one_change s v v' o o n i p at_p elsewhere_still no_child
      (λ m. ap (λ (e : Option Kind). below s v' o (m ∷ n ∷ p) m (node s v' o (n ∷ p) e)) gone) q
      ∙ ap (λ (e : Option Kind). update same_path (node_at s v o) (n ∷ p) (node s v' o (n ∷ p) e) q) gone

  still : (q : Path) → n ∷ p ≢ q → node_at s v' o q ≡ node_at s v o q
  still q h = remove_dir q ∙ go (path_cases (n ∷ p) q)
    where
      go : ((same_path (n ∷ p) q ≡ true) × (n ∷ p ≡ q)) ⊎ ((same_path (n ∷ p) q ≡ false) × (n ∷ p ≢ q)) →
          update same_path (node_at s v o) (n ∷ p) None q ≡ node_at s v o q
      go (inl (b, e)) = absurd (h e)
      go (inr (b, e)) = cond-false (same_path (n ∷ p) q) _ _ b

  -- a claim of after was one, and not of the node that is gone
  claim_before : (q : Path) (f : List ℕ) → claimed s (node_at s v' o q) ≡ Some f → (n ∷ p ≢ q) × (claimed s (node_at s v o q) ≡ Some f)
  claim_before q f h = (ne, ap (claimed s) (sym (still q ne)) ∙ h)
    where
      ne : n ∷ p ≢ q
      ne e = let a : claimed s (node_at s v' o q) ≡ None = ap (claimed s) (remove_dir q ∙ at_new s None (node_at s v o) (n ∷ p) q e) in cc

  pub removed_owner : IsOwner s v' o
  removed_owner = record {
    holds = λ q f h.
        let k : (n ∷ p ≢ q) × (claimed s (node_at s v o q) ≡ Some f) = claim_before q f h in
        let c : claimed s (node_at s v o (o f)) ≡ Some f = own.holds q f k.1 in
        ap (claimed s) (still (o f) (λ e. k.0 (e ∙ once (o f) q f c k.1))) ∙ c;
    first = λ q f h. own.first q f (claim_before q f h).1;
  }
