-- Paths to numbers, after one more name, one less, and one that is another.
use Rattle.std.proofs.Common.{◌≡◌, ◌≢◌, ℕ, List, [], ◌∷◌, Option, Some, refl, sym, ap, ap₂, ◌∙◌, subst, inl, inr, ◌⊎◌}
use Rattle.clear_tree.specs.Walk.{Path}
use Rattle.tree_deed_laws.specs.Trees.{swapped}
use Rattle.tree_deed_laws.proofs.Rename.{which, swapped_twice, swapped-old, swapped-new, swapped-other, swapped-parent, swapped-root}
use Rattle.live_tree.specs.Held.{HeldNode, HeldTree, node_of, IsNamed, IsFree, IsTree}
use Rattle.live_tree_laws.specs.Holds.{IsAt}

pub one_held : (live : HeldTree) (x : ℕ) (a b : HeldNode) → node_of live x ≡ Some a → node_of live x ≡ Some b → a ≡ b
one_held live x a b h g = let z : ◌≡◌ {A = Option HeldNode} (Some a) (Some b) = sym h ∙ g in cc

-- a number has one parent and one name
pub one_parent : (live : HeldTree) (a b : ℕ) (n m : List ℕ) (x : ℕ) → IsNamed live a n x → IsNamed live b m x → (a ≡ b) × (n ≡ m)
one_parent live a b n m x h g =
    let same = one_held live x h.node g.node h.child.there g.child.there in (
      sym h.child.inside ∙ ap (λ (z : HeldNode). z.kept.parent) same ∙ g.child.inside,
      sym h.named ∙ ap (λ (z : HeldNode). z.kept.name) same ∙ g.named,
    )

module _ (old : HeldTree) (is : IsTree old) where
  -- a path leads to one number
  pub one_number : (q : Path) (a b : ℕ) → IsAt old q a → IsAt old q b → a ≡ b
  one_number [] a b h g = h ∙ sym g
  one_number (m ∷ q) a b h g =
      let up : h.0 ≡ g.0 = one_number q h.0 g.0 h.1 g.1 in
      is.names g.0 m a b (subst (λ (z : ℕ). IsNamed old z m a) up h.2) g.2

  -- and one path to a number
  pub one_path : (q p : Path) (a : ℕ) → IsAt old q a → IsAt old p a → q ≡ p
  one_path [] [] a h g = refl
  one_path [] (n ∷ p) a h g = absurd (g.2.child.below h)
  one_path (m ∷ q) [] a h g = absurd (h.2.child.below g)
  one_path (m ∷ q) (n ∷ p) a h g =
      let both = one_parent old h.0 g.0 m n a h.2 g.2 in
      ap₂ (λ (u : List ℕ) (w : Path). u ∷ w) both.1 (one_path q p g.0 (subst (λ (z : ℕ). IsAt old q z) both.0 h.1) g.1)

  -- a name of the directory at a path is that of the number there
  pub free_at : (p : Path) (parent above x : ℕ) (n m : List ℕ) → IsAt old p parent → IsFree old parent n → IsAt old p above → m ≡ n → IsNamed old above m x → ⊥
  free_at p parent above x n m at_p free up em named =
      free x (subst (λ (z : List ℕ). IsNamed old parent z x) em (subst (λ (z : ℕ). IsNamed old z m x) (one_number p above parent up at_p) named))

  -- ---- one name more
  module _ (new : HeldTree) (p : Path) (parent next : ℕ) (n : List ℕ) (at_p : IsAt old p parent) (free : IsFree old parent n)
      (forth : (a : ℕ) (m : List ℕ) (x : ℕ) → IsNamed old a m x → IsNamed new a m x)
      (back : (a : ℕ) (m : List ℕ) (x : ℕ) → IsNamed new a m x → IsNamed old a m x ⊎ ((a ≡ parent) × (m ≡ n) × (x ≡ next)))
      (none : (m : List ℕ) (x : ℕ) → IsNamed old next m x → ⊥) (other : parent ≢ next) (named : IsNamed new parent n next) where
    pub more_forth : (q : Path) (x : ℕ) → IsAt old q x → IsAt new q x
    more_forth [] x h = h
    more_forth (m ∷ q) x h = (h.0, more_forth q h.0 h.1, forth h.0 m x h.2)

    pub more_new : IsAt new (n ∷ p) next
    more_new = (parent, more_forth p parent at_p, named)

    pub more_back : (q : Path) (x : ℕ) → IsAt new q x → (IsAt old q x × (n ∷ p ≢ q)) ⊎ ((n ∷ p ≡ q) × (x ≡ next))
    more_back [] x h = inl (h, (λ e. cc))
    more_back (m ∷ q) x h = go (more_back q h.0 h.1) (back h.0 m x h.2)
      where
        go : (IsAt old q h.0 × (n ∷ p ≢ q)) ⊎ ((n ∷ p ≡ q) × (h.0 ≡ next)) → IsNamed old h.0 m x ⊎ ((h.0 ≡ parent) × (m ≡ n) × (x ≡ next))
            → (IsAt old (m ∷ q) x × (n ∷ p ≢ m ∷ q)) ⊎ ((n ∷ p ≡ m ∷ q) × (x ≡ next))
        go (inl up) (inl was) = inl (
          (h.0, up.0, was),
          (λ e.
              let eq : q ≡ p = cc in
              let em : m ≡ n = cc in
              free_at p parent h.0 x n m at_p free (subst (λ (z : Path). IsAt old z h.0) eq up.0) em was),
        )
        go (inl up) (inr is_new) =
            let eq : p ≡ q = one_path p q parent at_p (subst (λ (z : ℕ). IsAt old q z) is_new.0 up.0) in
            inr (ap₂ (λ (u : List ℕ) (w : Path). u ∷ w) (sym is_new.1) eq, is_new.2)
        go (inr up) (inl was) = absurd (none m x (subst (λ (z : ℕ). IsNamed old z m x) up.1 was))
        go (inr up) (inr is_new) = absurd (other (sym is_new.0 ∙ up.1))

  -- ---- one less
  module _ (new : HeldTree) (p : Path) (number : ℕ) (n : List ℕ) (at_it : IsAt old (n ∷ p) number)
      (forth : (a : ℕ) (m : List ℕ) (x : ℕ) → x ≢ number → IsNamed old a m x → IsNamed new a m x)
      (back : (a : ℕ) (m : List ℕ) (x : ℕ) → IsNamed new a m x → IsNamed old a m x × (x ≢ number))
      (none : (m : List ℕ) (x : ℕ) → IsNamed old number m x → ⊥) where
    pub less_forth : (q : Path) (x : ℕ) → IsAt old q x → n ∷ p ≢ q → IsAt new q x
    less_forth [] x h ne = h
    less_forth (m ∷ q) x h ne = (
      h.0,
      less_forth q h.0 h.1 (λ e. none m x (subst (λ (z : ℕ). IsNamed old z m x) (one_number q h.0 number h.1 (subst (λ (z : Path). IsAt old z number) e at_it)) h.2)),
      forth h.0 m x (λ e. ne (one_path (n ∷ p) (m ∷ q) number at_it (subst (λ (z : ℕ). IsAt old (m ∷ q) z) e h))) h.2,
    )

    less_back : (q : Path) (x : ℕ) → IsAt new q x → IsAt old q x × (x ≢ number)
    less_back [] x h = (h, (λ e. at_it.2.child.below (sym e ∙ h)))
    less_back (m ∷ q) x h =
        let was = back h.0 m x h.2 in
        ((h.0, (less_back q h.0 h.1).0, was.0), was.1)

    pub less_from : (q : Path) (x : ℕ) → IsAt new q x → IsAt old q x × (n ∷ p ≢ q)
    less_from q x h =
        let was = less_back q x h in
        (was.0, (λ e. was.1 (one_number q x number was.0 (subst (λ (z : Path). IsAt old z number) e at_it))))

  -- ---- another name
  module _ (new : HeldTree) (p : Path) (parent number : ℕ) (n k : List ℕ) (apart : n ≢ k) (at_p : IsAt old p parent) (named : IsNamed old parent n number) (free : IsFree old parent k)
      (forth : (a : ℕ) (m : List ℕ) (x : ℕ) → x ≢ number → IsNamed old a m x → IsNamed new a m x)
      (back : (a : ℕ) (m : List ℕ) (x : ℕ) → IsNamed new a m x → (IsNamed old a m x × (x ≢ number)) ⊎ ((a ≡ parent) × (m ≡ k) × (x ≡ number)))
      (renamed : IsNamed new parent k number) where
    abbrev sw : Path → Path
    sw = swapped (n ∷ p) (k ∷ p)

    at_it : IsAt old (n ∷ p) number
    at_it = (parent, at_p, named)

    abbrev Which : List ℕ → Path → Type 0
    Which m q = (n ∷ p ≡ m ∷ q) ⊎ ((k ∷ p ≡ m ∷ q) ⊎ ((n ∷ p ≢ m ∷ q) × (k ∷ p ≢ m ∷ q)))

    pub moved_forth : (q : Path) (x : ℕ) → IsAt old q x → IsAt new (sw q) x
    moved_forth [] x h = subst (λ (z : Path). IsAt new z x) (sym (swapped-root n k p apart)) h
    moved_forth (m ∷ q) x h = go (moved_forth q h.0 h.1) (which n k p apart m q)
      where
        go : IsAt new (sw q) h.0 → Which m q → IsAt new (sw (m ∷ q)) x
        go up (inl e) =
            let eq : p ≡ q = cc in
            let above : h.0 ≡ parent = one_number q h.0 parent h.1 (subst (λ (z : Path). IsAt old z parent) eq at_p) in
            let it : number ≡ x = one_number (m ∷ q) number x (subst (λ (z : Path). IsAt old z number) e at_it) h in
            let under : IsAt new p parent = subst (λ (z : ℕ). IsAt new p z) above (subst (λ (z : Path). IsAt new z h.0) (ap sw (sym eq) ∙ swapped-parent n k p apart) up) in
            subst (λ (z : Path). IsAt new z x) (sym (ap sw (sym e) ∙ swapped-old n k p apart)) (parent, under, subst (λ (z : ℕ). IsNamed new parent k z) it renamed)
        go up (inr (inl e)) =
            let eq : q ≡ p = cc in
            let em : m ≡ k = cc in
            absurd (free_at p parent h.0 x k m at_p free (subst (λ (z : Path). IsAt old z h.0) eq h.1) em h.2)
        go up (inr (inr far)) =
            subst (λ (z : Path). IsAt new z x) (sym (swapped-other n k p apart m q far.0 far.1))
            (h.0, up, forth h.0 m x (λ e. far.0 (one_path (n ∷ p) (m ∷ q) number at_it (subst (λ (z : ℕ). IsAt old (m ∷ q) z) e h))) h.2)

    pub moved_back : (q : Path) (x : ℕ) → IsAt new q x → IsAt old (sw q) x
    moved_back [] x h = subst (λ (z : Path). IsAt old z x) (sym (swapped-root n k p apart)) h
    moved_back (m ∷ q) x h = go (moved_back q h.0 h.1) (back h.0 m x h.2) (which n k p apart m q)
      where
        go : IsAt old (sw q) h.0 → (IsNamed old h.0 m x × (x ≢ number)) ⊎ ((h.0 ≡ parent) × (m ≡ k) × (x ≡ number)) → Which m q → IsAt old (sw (m ∷ q)) x
        go up (inl was) (inl e) =
            let eq : p ≡ q = cc in
            let em : m ≡ n = cc in
            let above : h.0 ≡ parent = one_number p h.0 parent (subst (λ (z : Path). IsAt old z h.0) (ap sw (sym eq) ∙ swapped-parent n k p apart) up) at_p in
            absurd (was.1 (is.names parent n x number (subst (λ (z : List ℕ). IsNamed old parent z x) em (subst (λ (z : ℕ). IsNamed old z m x) above was.0)) named))
        go up (inl was) (inr (inl e)) =
            let eq : p ≡ q = cc in
            let em : m ≡ k = cc in
            absurd (free_at p parent h.0 x k m at_p free (subst (λ (z : Path). IsAt old z h.0) (ap sw (sym eq) ∙ swapped-parent n k p apart) up) em was.0)
        go up (inl was) (inr (inr far)) = subst (λ (z : Path). IsAt old z x) (sym (swapped-other n k p apart m q far.0 far.1)) (h.0, up, was.0)
        go up (inr now) w =
            let there : sw q ≡ p = one_path (sw q) p parent (subst (λ (z : ℕ). IsAt old (sw q) z) now.0 up) at_p in
            let eq : q ≡ p = sym (swapped_twice n k p apart q) ∙ ap sw there ∙ swapped-parent n k p apart in
            let path : m ∷ q ≡ k ∷ p = ap₂ (λ (u : List ℕ) (y : Path). u ∷ y) now.1 eq in
            subst (λ (z : Path). IsAt old z x) (sym (ap sw path ∙ swapped-new n k p apart)) (subst (λ (z : ℕ). IsAt old (n ∷ p) z) (sym now.2) at_it)
