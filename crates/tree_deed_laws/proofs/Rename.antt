-- A node with all below it under a new name in its directory.
use Rattle.std.proofs.Common.{◌≡◌, ◌≢◌, ℕ, ◌≤◌, length, arith, true, false, List, [], ◌∷◌, Option, Some, None, refl, sym, ap, ap₂, ◌∙◌, subst, inl, inr, ◌⊎◌}
use Rattle.std.specs.Ordering.{is_gt}
use Rattle.std.proofs.lemmas.Bool.{cond-true, cond-false}
use Rattle.clear_tree.specs.Walk.{Path, same_path, walk_cmp, Sealing, Kind, Folders, Node, File, Link, Dir, Bad, is_name, look, node, below, node_at, claimed, IsOwner, NamedOnce, ChangedTwo}
use Rattle.tree_deed_laws.specs.Trees.{swapped}
use Rattle.clear_tree.proofs.Paths.{path_cases, same_path-itself, same_path-from, same_path-apart, walk_not_after}
use Rattle.clear_tree.proofs.Change.{below_agree}
use Rattle.clear_tree.proofs.Owner.{entry_apart, look_by, node_agree, child_at}

module _ (n k : List ℕ) (p : Path) (apart : n ≢ k) where
  pub swapped-old : swapped (n ∷ p) (k ∷ p) (n ∷ p) ≡ k ∷ p
  unfolding swapped
  swapped-old = cond-true (same_path (n ∷ p) (n ∷ p)) _ _ (same_path-itself (n ∷ p))

  pub swapped-new : swapped (n ∷ p) (k ∷ p) (k ∷ p) ≡ n ∷ p
  unfolding swapped
  swapped-new = cond-false (same_path (n ∷ p) (k ∷ p)) _ _ (same_path-apart (n ∷ p) (k ∷ p) (λ e. let d : n ≡ k = cc in apart d))
      ∙ cond-true (same_path (k ∷ p) (k ∷ p)) _ _ (same_path-itself (k ∷ p))

  pub swapped-other : (m : List ℕ) (q : Path) → n ∷ p ≢ m ∷ q → k ∷ p ≢ m ∷ q → swapped (n ∷ p) (k ∷ p) (m ∷ q) ≡ m ∷ swapped (n ∷ p) (k ∷ p) q
  unfolding swapped
  swapped-other m q h1 h2 = cond-false (same_path (n ∷ p) (m ∷ q)) _ _ (same_path-apart (n ∷ p) (m ∷ q) h1)
      ∙ cond-false (same_path (k ∷ p) (m ∷ q)) _ _ (same_path-apart (k ∷ p) (m ∷ q) h2)

  pub swapped-short : (q : Path) → length q ≤ length p → swapped (n ∷ p) (k ∷ p) q ≡ q
  unfolding swapped
  swapped-short [] h = refl
  swapped-short (m ∷ q) h = swapped-other m q
      (λ e. let l : length (n ∷ p) ≡ length (m ∷ q) = ap length e in omega (arith, l, h))
      (λ e. let l : length (k ∷ p) ≡ length (m ∷ q) = ap length e in omega (arith, l, h))
      ∙ ap (λ (z : Path). m ∷ z) (swapped-short q (omega (arith, h)))

  pub swapped-parent : swapped (n ∷ p) (k ∷ p) p ≡ p
  swapped-parent = swapped-short p (omega arith)

  abbrev sw : Path → Path
  sw = swapped (n ∷ p) (k ∷ p)

  -- which of the three a child is
  pub which : (m : List ℕ) (q : Path) → (n ∷ p ≡ m ∷ q) ⊎ ((k ∷ p ≡ m ∷ q) ⊎ ((n ∷ p ≢ m ∷ q) × (k ∷ p ≢ m ∷ q)))
  which m q = go (path_cases (n ∷ p) (m ∷ q)) (path_cases (k ∷ p) (m ∷ q))
    where
      go : ((same_path (n ∷ p) (m ∷ q) ≡ true) × (n ∷ p ≡ m ∷ q)) ⊎ ((same_path (n ∷ p) (m ∷ q) ≡ false) × (n ∷ p ≢ m ∷ q)) →
          ((same_path (k ∷ p) (m ∷ q) ≡ true) × (k ∷ p ≡ m ∷ q)) ⊎ ((same_path (k ∷ p) (m ∷ q) ≡ false) × (k ∷ p ≢ m ∷ q)) →
          (n ∷ p ≡ m ∷ q) ⊎ ((k ∷ p ≡ m ∷ q) ⊎ ((n ∷ p ≢ m ∷ q) × (k ∷ p ≢ m ∷ q)))
      go (inl a) b = inl a.1
      go (inr a) (inl b) = inr (inl b.1)
      go (inr a) (inr b) = inr (inr (a.1, b.1))

  -- a child that is neither does not become either
  pub stays_other : (m : List ℕ) (q : Path) → sw (sw q) ≡ q → n ∷ p ≢ m ∷ q → k ∷ p ≢ m ∷ q → (n ∷ p ≢ m ∷ sw q) × (k ∷ p ≢ m ∷ sw q)
  stays_other m q back h1 h2 = (
    (λ e. let a : p ≡ sw q = cc in let b : n ≡ m = cc in h1 (ap₂ (λ (x : List ℕ) (y : Path). x ∷ y) b (sym swapped-parent ∙ ap sw a ∙ back))),
    (λ e. let a : p ≡ sw q = cc in let b : k ≡ m = cc in h2 (ap₂ (λ (x : List ℕ) (y : Path). x ∷ y) b (sym swapped-parent ∙ ap sw a ∙ back))),
  )

  pub swapped-root : sw [] ≡ []
  unfolding swapped
  swapped-root = refl

  pub swapped_twice : (q : Path) → sw (sw q) ≡ q
  swapped_twice [] = ap sw swapped-root ∙ swapped-root
  swapped_twice (m ∷ q) = go (swapped_twice q) (which m q)
    where
      go : sw (sw q) ≡ q → (n ∷ p ≡ m ∷ q) ⊎ ((k ∷ p ≡ m ∷ q) ⊎ ((n ∷ p ≢ m ∷ q) × (k ∷ p ≢ m ∷ q))) → sw (sw (m ∷ q)) ≡ m ∷ q
      go back (inl e) = subst (λ (z : Path). sw (sw z) ≡ z) e (ap sw swapped-old ∙ swapped-new)
      go back (inr (inl e)) = subst (λ (z : Path). sw (sw z) ≡ z) e (ap sw swapped-new ∙ swapped-old)
      go back (inr (inr (h1, h2))) =
          let st : (n ∷ p ≢ m ∷ sw q) × (k ∷ p ≢ m ∷ sw q) = stays_other m q back h1 h2 in
          ap sw (swapped-other m q h1 h2) ∙ swapped-other m (sw q) st.0 st.1 ∙ ap (λ (z : Path). m ∷ z) back

  pub same_swapped : (a b : Path) → same_path (sw a) b ≡ same_path a (sw b)
  same_swapped a b = go (path_cases a (sw b))
    where
      go : ((same_path a (sw b) ≡ true) × (a ≡ sw b)) ⊎ ((same_path a (sw b) ≡ false) × (a ≢ sw b)) → same_path (sw a) b ≡ same_path a (sw b)
      go (inl (t, e)) = same_path-from (sw a) b (ap sw e ∙ swapped_twice b) ∙ sym t
      go (inr (f, ne)) = same_path-apart (sw a) b (λ e. ne (sym (swapped_twice a) ∙ ap sw e)) ∙ sym f

  -- the kind that was shown under the one name is shown under the other
  pub record ShownMoved (s : Sealing) (v v' : Folders) (o : List ℕ → Path) (i : List ℕ) : Type 0 where
    pub own : IsOwner s v o
    pub at_p : node_at s v o p ≡ Some (Dir i)
    pub named_old : is_name n (s.open_name i (s.seal i n)) ≡ true
    pub named_new : is_name k (s.open_name i (s.seal i k)) ≡ true
    pub changed : ChangedTwo v v' (s.folder_of i) (s.seal i n) (s.seal i k)
    pub folders : (g : List ℕ) → v'.present g ≡ v.present g
    pub free : v.seen (s.folder_of i) (s.seal i k) ≡ None
    pub gone : v'.seen (s.folder_of i) (s.seal i n) ≡ None
    pub moved : v'.seen (s.folder_of i) (s.seal i k) ≡ v.seen (s.folder_of i) (s.seal i n)

  module _ {s : Sealing} {v v' : Folders} {o : List ℕ → Path} {i : List ℕ} (shown : ShownMoved s v v' o i) where
    open shown use {own, at_p, named_old, named_new, changed, folders, free, gone, moved}

    abbrev moved_owner : List ℕ → Path
    moved_owner f = sw (o f)

    looked_old : look s v' i n ≡ None
    looked_old = cond-true (is_name n (s.open_name i (s.seal i n))) _ _ named_old ∙ gone

    looked_free : look s v i k ≡ None
    looked_free = cond-true (is_name k (s.open_name i (s.seal i k))) _ _ named_new ∙ free

    looked_new : look s v' i k ≡ look s v i n
    looked_new = cond-true (is_name k (s.open_name i (s.seal i k))) _ _ named_new ∙ moved ∙ sym (cond-true (is_name n (s.open_name i (s.seal i n))) _ _ named_old)

    agree : (q : Path) (e : Option Kind) → node s v' moved_owner q e ≡ node s v o (sw q) e
    agree q e = node_agree s v v' o moved_owner (sw q) q e (λ t is valid. (folders (s.folder_of t), same_swapped (o (s.folder_of t)) q))

    other_child : (m : List ℕ) (q : Path) → n ∷ p ≢ m ∷ q → k ∷ p ≢ m ∷ q → (j : List ℕ) → node_at s v o (sw q) ≡ Some (Dir j) →
        node s v' moved_owner (m ∷ q) (look s v' j m) ≡ node s v o (m ∷ sw q) (look s v j m)
    other_child m q h1 h2 j hq =
        let st : (n ∷ p ≢ m ∷ sw q) × (k ∷ p ≢ m ∷ sw q) = stays_other m q (swapped_twice q) h1 h2 in
        ap (node s v' moved_owner (m ∷ q)) (look_by s v v' m j (λ e. changed.others (s.folder_of j) (s.seal j m)
        (entry_apart s v o own (sw q) p m n j i named_old hq at_p (λ x. st.0 (sym x)) e)
        (entry_apart s v o own (sw q) p m k j i named_new hq at_p (λ x. st.1 (sym x)) e)))
        ∙ agree (m ∷ q) (look s v j m) ∙ ap (λ (z : Path). node s v o z (look s v j m)) (swapped-other m q h1 h2)

    pub renamed : (q : Path) → node_at s v' moved_owner q ≡ node_at s v o (sw q)
    unfolding node_at swapped
    renamed [] = refl
    renamed (m ∷ q) = go (renamed q) (which m q)
      where
        parent : (z : Path) → p ≡ z → node_at s v' moved_owner z ≡ node_at s v o (sw z) → node_at s v' moved_owner z ≡ Some (Dir i)
        parent z e ih = ih ∙ ap (λ (y : Path). node_at s v o y) (ap sw (sym e) ∙ swapped-parent) ∙ at_p

        go : node_at s v' moved_owner q ≡ node_at s v o (sw q) →
            (n ∷ p ≡ m ∷ q) ⊎ ((k ∷ p ≡ m ∷ q) ⊎ ((n ∷ p ≢ m ∷ q) × (k ∷ p ≢ m ∷ q))) →
            below s v' moved_owner (m ∷ q) m (node_at s v' moved_owner q) ≡ node_at s v o (sw (m ∷ q))
        go ih (inl e) =
            let ep : p ≡ q = cc in
            let em : m ≡ n = cc in
            ap (below s v' moved_owner (m ∷ q) m) (parent q ep ih)
            ∙ ap (node s v' moved_owner (m ∷ q)) (ap (look s v' i) em ∙ looked_old)
            ∙ sym (ap (node_at s v o) (ap sw (sym e) ∙ swapped-old) ∙ child_at s v o k i p at_p ∙ ap (node s v o (k ∷ p)) looked_free)
        go ih (inr (inl e)) =
            let ep : p ≡ q = cc in
            let em : m ≡ k = cc in
            ap (below s v' moved_owner (m ∷ q) m) (parent q ep ih)
            ∙ ap (node s v' moved_owner (m ∷ q)) (ap (look s v' i) em ∙ looked_new)
            ∙ agree (m ∷ q) (look s v i n)
            ∙ ap (λ (z : Path). node s v o z (look s v i n)) (ap sw (sym e) ∙ swapped-new)
            ∙ sym (ap (node_at s v o) (ap sw (sym e) ∙ swapped-new) ∙ child_at s v o n i p at_p)
        go ih (inr (inr (h1, h2))) =
            ap (below s v' moved_owner (m ∷ q) m) ih
            ∙ below_agree s v v' o moved_owner (m ∷ sw q) (m ∷ q) m (node_at s v o (sw q)) (λ j h. other_child m q h1 h2 j h)
            ∙ sym (ap (node_at s v o) (swapped-other m q h1 h2))

    pub renamed_owner : NamedOnce s v o → IsOwner s v' moved_owner
    renamed_owner once = record {
      holds = λ q f h. ap (claimed s) (renamed (sw (o f)) ∙ ap (node_at s v o) (swapped_twice (o f))) ∙ own.holds (sw q) f (before q f h);
      first = λ q f h. subst (λ (z : Path). is_gt (walk_cmp z q) ≡ false)
          (sym (ap sw (once (o f) (sw q) f (own.holds (sw q) f (before q f h)) (before q f h)) ∙ swapped_twice q)) (walk_not_after q);
    }
      where
        before : (q : Path) (f : List ℕ) → claimed s (node_at s v' moved_owner q) ≡ Some f → claimed s (node_at s v o (sw q)) ≡ Some f
        before q f h = ap (claimed s) (sym (renamed q)) ∙ h

    -- what names a folder stays where it is, if the renamed node names none
    claimant_stays : claimed s (node_at s v o (n ∷ p)) ≡ None → (q : Path) (f : List ℕ) → claimed s (node_at s v o q) ≡ Some f → sw q ≡ q
    unfolding node_at
    claimant_stays none [] f h = swapped-root
    claimant_stays none (m ∷ q) f h = go (which m q) (claimant_stays none q)
      where
        at_new : node_at s v o (k ∷ p) ≡ None
        at_new = child_at s v o k i p at_p ∙ ap (node s v o (k ∷ p)) looked_free

        parent_claims : (x : Option Node) → node_at s v o q ≡ x → claimed s (below s v o (m ∷ q) m x) ≡ Some f → (g : List ℕ) × (claimed s (node_at s v o q) ≡ Some g)
        parent_claims None e h2 = absurd (cc)
        parent_claims (Some (Dir j)) e h2 = (s.folder_of j, ap (claimed s) e)
        parent_claims (Some (File c)) e h2 = absurd (cc)
        parent_claims (Some (Link c)) e h2 = absurd (cc)
        parent_claims (Some (Bad t)) e h2 = absurd (cc)

        go : (n ∷ p ≡ m ∷ q) ⊎ ((k ∷ p ≡ m ∷ q) ⊎ ((n ∷ p ≢ m ∷ q) × (k ∷ p ≢ m ∷ q))) → ((g : List ℕ) → claimed s (node_at s v o q) ≡ Some g → sw q ≡ q) → sw (m ∷ q) ≡ m ∷ q
        go (inl e) ih = let a : claimed s (node_at s v o (m ∷ q)) ≡ None = ap (λ (z : Path). claimed s (node_at s v o z)) (sym e) ∙ none in absurd (cc)
        go (inr (inl e)) ih = let a : claimed s (node_at s v o (m ∷ q)) ≡ None = ap (λ (z : Path). claimed s (node_at s v o z)) (sym e) ∙ ap (claimed s) at_new in absurd (cc)
        go (inr (inr (h1, h2))) ih =
            let c : (g : List ℕ) × (claimed s (node_at s v o q) ≡ Some g) = parent_claims (node_at s v o q) refl h in
            swapped-other m q h1 h2 ∙ ap (λ (z : Path). m ∷ z) (ih c.0 c.1)

    pub renamed_leaf_owner : claimed s (node_at s v o (n ∷ p)) ≡ None → IsOwner s v' moved_owner
    renamed_leaf_owner none = record {
      holds = λ q f h. ap (claimed s) (renamed (sw (o f)) ∙ ap (node_at s v o) (swapped_twice (o f))) ∙ own.holds (sw q) f (before q f h);
      first = λ q f h. subst (λ (z : Path). is_gt (walk_cmp z q) ≡ false)
          (sym (claimant_stays none (o f) f (own.holds (sw q) f (before q f h))))
          (subst (λ (z : Path). is_gt (walk_cmp (o f) z) ≡ false) (sym (claimant_stays none (sw q) f (before q f h)) ∙ swapped_twice q) (own.first (sw q) f (before q f h)));
    }
      where
        before : (q : Path) (f : List ℕ) → claimed s (node_at s v' moved_owner q) ≡ Some f → claimed s (node_at s v o (sw q)) ≡ Some f
        before q f h = ap (claimed s) (sym (renamed q)) ∙ h
