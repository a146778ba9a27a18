-- Rows by path, after one more, one less, and one renamed.
use Rattle.std.proofs.Common.{◌≡◌, ◌≢◌, ◌<◌, ◌&&◌, ◌||◌, not, ◌==◌, arith, ℕ, suc, Bool, true, false, cond, List, [], ◌∷◌, map, filter, Some, None, bytes_eq, refl, sym, ap, ap₂, ◌∙◌, subst, inl, inr, ◌⊎◌, true≢false, eqb-true, eq-eqb, ne_eqb}
use Rattle.std.specs.List.{find, list_any}
use Rattle.std.proofs.lemmas.Slice.Eq.{bytes_eq-Decides}
use Rattle.std.proofs.lemmas.Bool.{cond-true, cond-false, and_from}
use Rattle.tree_model.specs.Rows.{Row, Rows, root, is_child, child_of}
use Rattle.tree_model.specs.Step.{changed_at, change_dir, has_children, set_row, with_new, without_row}
use Rattle.clear_tree.specs.Walk.{Path}
use Rattle.clear_tree.specs.Queue.{In}
use Rattle.clear_tree.proofs.Lists.{in_left, in_right, in_cases}
use Rattle.tree_deed_laws.specs.Trees.{swapped}
use Rattle.tree_deed_laws.specs.Shapes.{IsRowIn, IsRowAt, AreNumbered}
use Rattle.tree_deed_laws.proofs.Rename.{which, swapped_twice, swapped-old, swapped-new, swapped-other, swapped-parent, swapped-root}

-- ---- members of lists
module _ {A : Type 0} where
  pub in_map : {B : Type 0} (f : A → B) (xs : List A) (x : A) → In x xs → In (f x) (map f xs)
  in_map f [] x h = absurd h
  in_map f (y ∷ xs) x (inl e) = inl (ap f e)
  in_map f (y ∷ xs) x (inr h) = inr (in_map f xs x h)

  pub map_in : {B : Type 0} (f : A → B) (xs : List A) (y : B) → In y (map f xs) → (x : A) × In x xs × (y ≡ f x)
  map_in f [] y h = absurd h
  map_in f (x ∷ xs) y (inl e) = (x, inl refl, e)
  map_in f (x ∷ xs) y (inr h) = let a = map_in f xs y h in (a.0, inr a.1, a.2)

  pub in_filter : (t : A → Bool) (xs : List A) (x : A) → In x xs → t x ≡ true → In x (filter t xs)
  in_filter t [] x h is = h
  in_filter t (y ∷ xs) x h is = go (t y) refl h (λ j. in_filter t xs x j is)
    where
      go : (b : Bool) → t y ≡ b → (x ≡ y) ⊎ In x xs → (In x xs → In x (filter t xs)) → In x (cond b (y ∷ filter t xs) (filter t xs))
      go true e (inl z) ih = inl z
      go true e (inr j) ih = inr (ih j)
      go false e (inl z) ih = absurd (true≢false (sym is ∙ ap t z ∙ e))
      go false e (inr j) ih = ih j

  pub filter_in : (t : A → Bool) (xs : List A) (x : A) → In x (filter t xs) → In x xs × (t x ≡ true)
  filter_in t [] x h = absurd h
  filter_in t (y ∷ xs) x h = go (t y) refl h (λ j. filter_in t xs x j)
    where
      go : (b : Bool) → t y ≡ b → In x (cond b (y ∷ filter t xs) (filter t xs)) → (In x (filter t xs) → In x xs × (t x ≡ true)) → ((x ≡ y) ⊎ In x xs) × (t x ≡ true)
      go true e (inl z) ih = (inl z, ap t z ∙ e)
      go true e (inr j) ih = let a = ih j in (inr a.0, a.1)
      go false e j ih = let a = ih j in (inr a.0, a.1)

  pub found_none : (t : A → Bool) (xs : List A) (x : A) → find t xs ≡ None → In x xs → t x ≡ true → ⊥
  found_none t [] x none h is = h
  found_none t (y ∷ xs) x none h is = go (t y) refl none h (λ n j. found_none t xs x n j is)
    where
      go : (b : Bool) → t y ≡ b → cond b (Some y) (find t xs) ≡ None → (x ≡ y) ⊎ In x xs → (find t xs ≡ None → In x xs → ⊥) → ⊥
      go true e n j ih = cc
      go false e n (inl z) ih = true≢false (sym is ∙ ap t z ∙ e)
      go false e n (inr j) ih = ih n j

  pub none_passes : (t : A → Bool) (xs : List A) (x : A) → list_any t xs ≡ false → In x xs → t x ≡ true → ⊥
  none_passes t [] x none h is = h
  none_passes t (y ∷ xs) x none h is = go (t y) refl none h (λ n j. none_passes t xs x n j is)
    where
      go : (b : Bool) → t y ≡ b → (b || list_any t xs) ≡ false → (x ≡ y) ⊎ In x xs → (list_any t xs ≡ false → In x xs → ⊥) → ⊥
      go true e n j ih = true≢false n
      go false e n (inl z) ih = true≢false (sym is ∙ ap t z ∙ e)
      go false e n (inr j) ih = ih n j

-- if a directory's look-up finds none, no row of it has the name
pub no_child : (rows : Rows) (k : ℕ) (n : List ℕ) (row : Row) → child_of rows k n ≡ None → In row rows.nodes → row.number ≢ root → row.parent ≡ k → row.name ≡ n → ⊥
no_child rows k n row none h below p m =
    found_none (λ (r : Row). (r.parent == k) && bytes_eq r.name n && not (r.number == root)) rows.nodes row none h
    (and_from ((row.parent == k) && bytes_eq row.name n) (not (row.number == root))
    (and_from (row.parent == k) (bytes_eq row.name n) (eq-eqb row.parent k p) ((bytes_eq-Decides row.name n).1 m)) (ap not (ne_eqb row.number root below)))

pub none_in : (rows : Rows) (k : ℕ) (row : Row) → has_children rows k ≡ false → In row rows.nodes → row.number ≢ root → row.parent ≡ k → ⊥
none_in rows k row none h below p = none_passes (is_child k) rows.nodes row none h
    (and_from (row.parent == k) (not (row.number == root)) (eq-eqb row.parent k p) (ap not (ne_eqb row.number root below)))

-- ---- rows that are one but for versions and moments
pub record AreLike (a b : Row) : Type 0 where
  pub number : a.number ≡ b.number
  pub parent : a.parent ≡ b.parent
  pub name : a.name ≡ b.name
  pub kind : a.kind ≡ b.kind
  pub content : a.content ≡ b.content
  pub foreign : a.foreign ≡ b.foreign
  pub shadowed : a.shadowed ≡ b.shadowed

-- the row of a directory that changed
abbrev pub bump : ℕ → ℕ → Row → Row
bump k now row = cond (row.number == k) (changed_at now row) row

pub bump_like : (k now : ℕ) (row : Row) → AreLike (bump k now row) row
bump_like k now row = go (row.number == k)
  where
    go : (b : Bool) → AreLike (cond b (changed_at now row) row) row
    go true = record { number = refl; parent = refl; name = refl; kind = refl; content = refl; foreign = refl; shadowed = refl }
    go false = record { number = refl; parent = refl; name = refl; kind = refl; content = refl; foreign = refl; shadowed = refl }

module _ (rows : Rows) (ok : AreNumbered rows) where
  pub row_in : (q : Path) (a : Row) → IsRowAt rows q a → In a rows.nodes
  row_in [] a h = h.0
  row_in (m ∷ q) a h = h.2.there

  -- a path leads to one row
  pub one_row : (q : Path) (a b : Row) → IsRowAt rows q a → IsRowAt rows q b → a ≡ b
  one_row [] a b h g = ok.one a b h.0 g.0 (h.1 ∙ sym g.1)
  one_row (m ∷ q) a b h g =
      let up : h.0 ≡ g.0 = one_row q h.0 g.0 h.1 g.1 in
      ok.names a b h.2.there g.2.there h.2.below g.2.below (h.2.parent ∙ ap (λ (r : Row). r.number) up ∙ sym g.2.parent) (h.2.named ∙ sym g.2.named)

  -- and one path leads to a row
  pub one_path : (q p : Path) (a b : Row) → IsRowAt rows q a → IsRowAt rows p b → a.number ≡ b.number → q ≡ p
  one_path [] [] a b h g e = refl
  one_path [] (n ∷ p) a b h g e = absurd (g.2.below (sym e ∙ h.1))
  one_path (m ∷ q) [] a b h g e = absurd (h.2.below (e ∙ g.1))
  one_path (m ∷ q) (n ∷ p) a b h g e =
      let same : a ≡ b = ok.one a b h.2.there g.2.there e in
      let up : h.0.number ≡ g.0.number = sym h.2.parent ∙ ap (λ (r : Row). r.parent) same ∙ g.2.parent in
      ap₂ (λ (u : List ℕ) (w : Path). u ∷ w) (sym h.2.named ∙ ap (λ (r : Row). r.name) same ∙ g.2.named) (one_path q p h.0 g.0 h.1 g.1 up)

  -- a row's parent is below the next number
  pub parent_below : (a : Row) → In a rows.nodes → a.number ≢ root → a.parent < rows.next
  parent_below a i ne = go (ok.reached a i)
    where
      go : (p : Path) × IsRowAt rows p a → a.parent < rows.next
      go ([], h) = absurd (ne h.1)
      go (m ∷ q, h) = subst (λ (z : ℕ). z < rows.next) (sym h.2.parent) (ok.below h.0 (row_in q h.0 h.1))

  -- ---- one more
  module _ (p : Path) (parent new : Row) (now : ℕ) (n : List ℕ) (at_p : IsRowAt rows p parent) (free : child_of rows parent.number n ≡ None)
      (number : new.number ≡ rows.next) (inside : new.parent ≡ parent.number) (named : new.name ≡ n) where
    abbrev pub more : Rows
    more = with_new rows new now

    abbrev f : Row → Row
    f = bump new.parent now

    like : (a : Row) → AreLike (f a) a
    like a = bump_like new.parent now a

    old_in : (a : Row) → In a rows.nodes → In (f a) more.nodes
    old_in a h = in_left (f a) (map f rows.nodes) (new ∷ []) (in_map f rows.nodes a h)

    more_in : (a : Row) → In a more.nodes → ((b : Row) × In b rows.nodes × (a ≡ f b)) ⊎ (a ≡ new)
    more_in a h = go (in_cases a (map f rows.nodes) (new ∷ []) h)
      where
        go : In a (map f rows.nodes) ⊎ In a (new ∷ []) → ((b : Row) × In b rows.nodes × (a ≡ f b)) ⊎ (a ≡ new)
        go (inl i) = inl (map_in f rows.nodes a i)
        go (inr (inl e)) = inr e
        go (inr (inr e)) = absurd e

    below_p : parent.number < rows.next
    below_p = ok.below parent (row_in p parent at_p)

    new_below : new.number ≢ root
    new_below e = let l : parent.number < rows.next = below_p in let z : rows.next ≡ 0 = sym number ∙ e in omega (arith, l, z)

    not_next : (a : Row) → In a rows.nodes → a.number ≢ new.number
    not_next a i e = let l : a.number < rows.next = ok.below a i in let z : a.number ≡ rows.next = e ∙ number in omega (arith, l, z)

    pub more_forth : (q : Path) (a : Row) → IsRowAt rows q a → IsRowAt more q (f a)
    more_forth [] a h = (old_in a h.0, (like a).number ∙ h.1)
    more_forth (m ∷ q) a h = (
      f h.0,
      more_forth q h.0 h.1,
      record {
        there = old_in a h.2.there;
        below = λ e. h.2.below (sym (like a).number ∙ e);
        parent = (like a).parent ∙ h.2.parent ∙ sym (like h.0).number;
        named = (like a).name ∙ h.2.named;
      },
    )

    pub more_new : IsRowAt more (n ∷ p) new
    more_new = (
      f parent,
      more_forth p parent at_p,
      record { there = in_right new (map f rows.nodes) (new ∷ []) (inl refl); below = new_below; parent = inside ∙ sym (like parent).number; named = named },
    )

    pub more_back : (q : Path) (a : Row) → IsRowAt more q a → ((b : Row) × IsRowAt rows q b × (a ≡ f b) × (n ∷ p ≢ q)) ⊎ ((n ∷ p ≡ q) × (a ≡ new))
    more_back [] a h = go (more_in a h.0)
      where
        go : ((b : Row) × In b rows.nodes × (a ≡ f b)) ⊎ (a ≡ new) → ((b : Row) × IsRowAt rows [] b × (a ≡ f b) × (n ∷ p ≢ [])) ⊎ ((n ∷ p ≡ []) × (a ≡ new))
        go (inl b) = inl (b.0, (b.1, sym (like b.0).number ∙ ap (λ (r : Row). r.number) (sym b.2) ∙ h.1), b.2, (λ e. cc))
        go (inr e) = absurd (new_below (ap (λ (r : Row). r.number) (sym e) ∙ h.1))
    more_back (m ∷ q) a h = go (more_back q h.0 h.1) (more_in a h.2.there)
      where
        go : ((b : Row) × IsRowAt rows q b × (h.0 ≡ f b) × (n ∷ p ≢ q)) ⊎ ((n ∷ p ≡ q) × (h.0 ≡ new)) → ((b : Row) × In b rows.nodes × (a ≡ f b)) ⊎ (a ≡ new)
            → ((b : Row) × IsRowAt rows (m ∷ q) b × (a ≡ f b) × (n ∷ p ≢ m ∷ q)) ⊎ ((n ∷ p ≡ m ∷ q) × (a ≡ new))
        go (inl up) (inl b) =
            let num : up.0.number ≡ h.0.number = sym (ap (λ (r : Row). r.number) up.2 ∙ (like up.0).number) in
            let its_below : b.0.number ≢ root = λ e. h.2.below (ap (λ (r : Row). r.number) b.2 ∙ (like b.0).number ∙ e) in
            let its_parent : b.0.parent ≡ up.0.number = sym (ap (λ (r : Row). r.parent) b.2 ∙ (like b.0).parent) ∙ h.2.parent ∙ sym num in
            let its_name : b.0.name ≡ m = sym (ap (λ (r : Row). r.name) b.2 ∙ (like b.0).name) ∙ h.2.named in
            inl (
              b.0,
              (up.0, up.1, record { there = b.1; below = its_below; parent = its_parent; named = its_name }),
              b.2,
              (λ e.
                  let eq : p ≡ q = cc in
                  let em : n ≡ m = cc in
                  let same : up.0 ≡ parent = one_row q up.0 parent up.1 (subst (λ (z : Path). IsRowAt rows z parent) eq at_p) in
                  no_child rows parent.number n b.0 free b.1 its_below (its_parent ∙ ap (λ (r : Row). r.number) same) (its_name ∙ sym em)),
            )
        go (inl up) (inr e) =
            let num : up.0.number ≡ h.0.number = sym (ap (λ (r : Row). r.number) up.2 ∙ (like up.0).number) in
            let same : up.0.number ≡ parent.number = num ∙ sym h.2.parent ∙ ap (λ (r : Row). r.parent) e ∙ inside in
            inr (ap₂ (λ (u : List ℕ) (w : Path). u ∷ w) (sym named ∙ ap (λ (r : Row). r.name) (sym e) ∙ h.2.named) (sym (one_path q p up.0 parent up.1 at_p same)), e)
        go (inr up) (inl b) =
            let its_below : b.0.number ≢ root = λ e. h.2.below (ap (λ (r : Row). r.number) b.2 ∙ (like b.0).number ∙ e) in
            let l : b.0.parent < rows.next = parent_below b.0 b.1 its_below in
            let z : b.0.parent ≡ rows.next = sym (ap (λ (r : Row). r.parent) b.2 ∙ (like b.0).parent) ∙ h.2.parent ∙ ap (λ (r : Row). r.number) up.1 ∙ number in
            absurd (omega (arith, l, z))
        go (inr up) (inr e) =
            let l : parent.number < rows.next = below_p in
            let z : parent.number ≡ rows.next = sym inside ∙ ap (λ (r : Row). r.parent) (sym e) ∙ h.2.parent ∙ ap (λ (r : Row). r.number) up.1 ∙ number in
            absurd (omega (arith, l, z))

    pub more_numbered : AreNumbered more
    more_numbered = record {
      one = λ a b i j e. one a b (more_in a i) (more_in b j) e;
      names = λ a b i j ra rb pe ne. names a b (more_in a i) (more_in b j) ra rb pe ne;
      below = λ a i. below a (more_in a i);
      reached = λ a i. reached a (more_in a i);
    }
      where
        one : (a b : Row) → ((c : Row) × In c rows.nodes × (a ≡ f c)) ⊎ (a ≡ new) → ((c : Row) × In c rows.nodes × (b ≡ f c)) ⊎ (b ≡ new) → a.number ≡ b.number → a ≡ b
        one a b (inl u) (inl w) e = u.2 ∙ ap f (ok.one u.0 w.0 u.1 w.1 (sym (ap (λ (r : Row). r.number) u.2 ∙ (like u.0).number) ∙ e ∙ ap (λ (r : Row). r.number) w.2 ∙ (like w.0).number)) ∙ sym w.2
        one a b (inr u) (inr w) e = u ∙ sym w
        one a b (inl u) (inr w) e = absurd (not_next u.0 u.1 (sym (ap (λ (r : Row). r.number) u.2 ∙ (like u.0).number) ∙ e ∙ ap (λ (r : Row). r.number) w))
        one a b (inr u) (inl w) e = absurd (not_next w.0 w.1 (sym (ap (λ (r : Row). r.number) w.2 ∙ (like w.0).number) ∙ sym e ∙ ap (λ (r : Row). r.number) u))

        taken : (a : Row) (c : Row) → In c rows.nodes → a ≡ f c → a.number ≢ root → a.parent ≡ new.parent → a.name ≡ new.name → ⊥
        taken a c i e r pe ne = no_child rows parent.number n c free i (λ z. r (ap (λ (y : Row). y.number) e ∙ (like c).number ∙ z))
            (sym (ap (λ (y : Row). y.parent) e ∙ (like c).parent) ∙ pe ∙ inside) (sym (ap (λ (y : Row). y.name) e ∙ (like c).name) ∙ ne ∙ named)

        names : (a b : Row) → ((c : Row) × In c rows.nodes × (a ≡ f c)) ⊎ (a ≡ new) → ((c : Row) × In c rows.nodes × (b ≡ f c)) ⊎ (b ≡ new) → a.number ≢ root → b.number ≢ root
            → a.parent ≡ b.parent → a.name ≡ b.name → a ≡ b
        names a b (inl u) (inl w) ra rb pe ne = u.2 ∙ ap f (ok.names u.0 w.0 u.1 w.1
            (λ z. ra (ap (λ (r : Row). r.number) u.2 ∙ (like u.0).number ∙ z)) (λ z. rb (ap (λ (r : Row). r.number) w.2 ∙ (like w.0).number ∙ z))
            (sym (ap (λ (r : Row). r.parent) u.2 ∙ (like u.0).parent) ∙ pe ∙ ap (λ (r : Row). r.parent) w.2 ∙ (like w.0).parent)
            (sym (ap (λ (r : Row). r.name) u.2 ∙ (like u.0).name) ∙ ne ∙ ap (λ (r : Row). r.name) w.2 ∙ (like w.0).name)) ∙ sym w.2
        names a b (inr u) (inr w) ra rb pe ne = u ∙ sym w
        names a b (inl u) (inr w) ra rb pe ne = absurd (taken a u.0 u.1 u.2 ra (pe ∙ ap (λ (r : Row). r.parent) w) (ne ∙ ap (λ (r : Row). r.name) w))
        names a b (inr u) (inl w) ra rb pe ne = absurd (taken b w.0 w.1 w.2 rb (sym pe ∙ ap (λ (r : Row). r.parent) u) (sym ne ∙ ap (λ (r : Row). r.name) u))

        below : (a : Row) → ((c : Row) × In c rows.nodes × (a ≡ f c)) ⊎ (a ≡ new) → a.number < suc rows.next
        below a (inl u) = let l : u.0.number < rows.next = ok.below u.0 u.1 in let e : a.number ≡ u.0.number = ap (λ (r : Row). r.number) u.2 ∙ (like u.0).number in omega (arith, l, e)
        below a (inr e) = let z : a.number ≡ rows.next = ap (λ (r : Row). r.number) e ∙ number in omega (arith, z)

        reached : (a : Row) → ((c : Row) × In c rows.nodes × (a ≡ f c)) ⊎ (a ≡ new) → (q : Path) × IsRowAt more q a
        reached a (inl u) = let r = ok.reached u.0 u.1 in (r.0, subst (λ (z : Row). IsRowAt more r.0 z) (sym u.2) (more_forth r.0 u.0 r.1))
        reached a (inr e) = (n ∷ p, subst (λ (z : Row). IsRowAt more (n ∷ p) z) (sym e) more_new)

  -- ---- one less
  module _ (p : Path) (old : Row) (now : ℕ) (n : List ℕ) (at_it : IsRowAt rows (n ∷ p) old) (leaf : (m : List ℕ) (a : Row) → IsRowAt rows (m ∷ n ∷ p) a → ⊥) where
    abbrev pub less : Rows
    less = without_row rows old now

    abbrev g : Row → Row
    g = bump old.parent now

    like_less : (a : Row) → AreLike (g a) a
    like_less a = bump_like old.parent now a

    abbrev stays : Row → Bool
    stays a = not (a.number == old.number)

    less_has : (a : Row) → In a rows.nodes → a.number ≢ old.number → In (g a) less.nodes
    less_has a i ne = in_filter stays (map g rows.nodes) (g a) (in_map g rows.nodes a i)
        (ap not (ne_eqb (g a).number old.number (λ e. ne (sym (like_less a).number ∙ e))))

    less_in : (a : Row) → In a less.nodes → (b : Row) × In b rows.nodes × (a ≡ g b) × (b.number ≢ old.number)
    less_in a h =
        let i = filter_in stays (map g rows.nodes) a h in
        let b = map_in g rows.nodes a i.0 in
        (b.0, b.1, b.2, (λ e. true≢false (sym i.1 ∙ ap not (eq-eqb a.number old.number (ap (λ (r : Row). r.number) b.2 ∙ (like_less b.0).number ∙ e)))))

    other_number : (q : Path) (a : Row) → IsRowAt rows q a → n ∷ p ≢ q → a.number ≢ old.number
    other_number q a h ne e = ne (one_path (n ∷ p) q old a at_it h (sym e))

    pub less_forth : (q : Path) (a : Row) → IsRowAt rows q a → n ∷ p ≢ q → IsRowAt less q (g a)
    less_forth [] a h ne = (less_has a h.0 (other_number [] a h ne), (like_less a).number ∙ h.1)
    less_forth (m ∷ q) a h ne = (
      g h.0,
      less_forth q h.0 h.1 (λ e. leaf m a (subst (λ (z : Path). IsRowAt rows (m ∷ z) a) (sym e) h)),
      record {
        there = less_has a h.2.there (other_number (m ∷ q) a h ne);
        below = λ e. h.2.below (sym (like_less a).number ∙ e);
        parent = (like_less a).parent ∙ h.2.parent ∙ sym (like_less h.0).number;
        named = (like_less a).name ∙ h.2.named;
      },
    )

    less_back : (q : Path) (a : Row) → IsRowAt less q a → (b : Row) × IsRowAt rows q b × (a ≡ g b) × (b.number ≢ old.number)
    less_back [] a h = let b = less_in a h.0 in (b.0, (b.1, sym (like_less b.0).number ∙ ap (λ (r : Row). r.number) (sym b.2) ∙ h.1), b.2, b.3)
    less_back (m ∷ q) a h =
        let up = less_back q h.0 h.1 in
        let b = less_in a h.2.there in (
          b.0,
          (
            up.0,
            up.1,
            record {
              there = b.1;
              below = λ e. h.2.below (ap (λ (r : Row). r.number) b.2 ∙ (like_less b.0).number ∙ e);
              parent = sym (ap (λ (r : Row). r.parent) b.2 ∙ (like_less b.0).parent) ∙ h.2.parent ∙ ap (λ (r : Row). r.number) up.2 ∙ (like_less up.0).number;
              named = sym (ap (λ (r : Row). r.name) b.2 ∙ (like_less b.0).name) ∙ h.2.named;
            },
          ),
          b.2,
          b.3,
        )

    pub less_from : (q : Path) (a : Row) → IsRowAt less q a → (b : Row) × IsRowAt rows q b × (a ≡ g b) × (n ∷ p ≢ q)
    less_from q a h =
        let b = less_back q a h in
        (b.0, b.1, b.2, (λ e. b.3 (ap (λ (r : Row). r.number) (one_row q b.0 old b.1 (subst (λ (z : Path). IsRowAt rows z old) e at_it)))))

    pub less_numbered : AreNumbered less
    less_numbered = record {
      one = λ a b i j e. one a b (less_in a i) (less_in b j) e;
      names = λ a b i j ra rb pe ne. names a b (less_in a i) (less_in b j) ra rb pe ne;
      below = λ a i. let u = less_in a i in let l : u.0.number < rows.next = ok.below u.0 u.1 in
          let e : a.number ≡ u.0.number = ap (λ (r : Row). r.number) u.2 ∙ (like_less u.0).number in subst (λ (z : ℕ). z < rows.next) (sym e) l;
      reached = λ a i. reached a (less_in a i);
    }
      where
        one : (a b : Row) → (c : Row) × In c rows.nodes × (a ≡ g c) × (c.number ≢ old.number) → (c : Row) × In c rows.nodes × (b ≡ g c) × (c.number ≢ old.number) → a.number ≡ b.number → a ≡ b
        one a b u w e = u.2 ∙ ap g (ok.one u.0 w.0 u.1 w.1 (sym (ap (λ (r : Row). r.number) u.2 ∙ (like_less u.0).number) ∙ e ∙ ap (λ (r : Row). r.number) w.2 ∙ (like_less w.0).number)) ∙ sym w.2

        names : (a b : Row) → (c : Row) × In c rows.nodes × (a ≡ g c) × (c.number ≢ old.number) → (c : Row) × In c rows.nodes × (b ≡ g c) × (c.number ≢ old.number)
            → a.number ≢ root → b.number ≢ root → a.parent ≡ b.parent → a.name ≡ b.name → a ≡ b
        names a b u w ra rb pe ne = u.2 ∙ ap g (ok.names u.0 w.0 u.1 w.1
            (λ z. ra (ap (λ (r : Row). r.number) u.2 ∙ (like_less u.0).number ∙ z)) (λ z. rb (ap (λ (r : Row). r.number) w.2 ∙ (like_less w.0).number ∙ z))
            (sym (ap (λ (r : Row). r.parent) u.2 ∙ (like_less u.0).parent) ∙ pe ∙ ap (λ (r : Row). r.parent) w.2 ∙ (like_less w.0).parent)
            (sym (ap (λ (r : Row). r.name) u.2 ∙ (like_less u.0).name) ∙ ne ∙ ap (λ (r : Row). r.name) w.2 ∙ (like_less w.0).name)) ∙ sym w.2

        reached : (a : Row) → (c : Row) × In c rows.nodes × (a ≡ g c) × (c.number ≢ old.number) → (q : Path) × IsRowAt less q a
        reached a u =
            let r = ok.reached u.0 u.1 in
            let far : n ∷ p ≢ r.0 = λ e. u.3 (ap (λ (z : Row). z.number) (one_row r.0 u.0 old r.1 (subst (λ (z : Path). IsRowAt rows z old) e at_it))) in
            (r.0, subst (λ (z : Row). IsRowAt less r.0 z) (sym u.2) (less_forth r.0 u.0 r.1 far))

  -- ---- one renamed
  module _ (p : Path) (old new : Row) (now : ℕ) (n k : List ℕ) (apart : n ≢ k) (at_it : IsRowAt rows (n ∷ p) old) (free : child_of rows old.parent k ≡ None)
      (number : new.number ≡ old.number) (inside : new.parent ≡ old.parent) (named : new.name ≡ k) where
    abbrev sw : Path → Path
    sw = swapped (n ∷ p) (k ∷ p)

    abbrev pub moved : Rows
    moved = set_row (change_dir rows old.parent now) new

    -- what a row is after it
    abbrev pub turned : Row → Row
    turned row = cond ((bump old.parent now row).number == new.number) new (bump old.parent now row)

    -- the renamed row, or one that is like before
    pub turned_cases : (row : Row) → ((row.number ≡ old.number) × (turned row ≡ new)) ⊎ ((row.number ≢ old.number) × AreLike (turned row) row)
    turned_cases row = go ((bump old.parent now row).number == new.number) refl
      where
        like : AreLike (bump old.parent now row) row
        like = bump_like old.parent now row

        go : (b : Bool) → ((bump old.parent now row).number == new.number) ≡ b → ((row.number ≡ old.number) × (turned row ≡ new)) ⊎ ((row.number ≢ old.number) × AreLike (turned row) row)
        go true e = inl (sym like.number ∙ eqb-true (bump old.parent now row).number new.number e ∙ number, cond-true ((bump old.parent now row).number == new.number) _ _ e)
        go false e = inr (
          (λ z. true≢false (sym (eq-eqb (bump old.parent now row).number new.number (like.number ∙ z ∙ sym number)) ∙ e)),
          subst (λ (z : Row). AreLike z row) (sym (cond-false ((bump old.parent now row).number == new.number) new _ e)) like,
        )

    turned_number : (row : Row) → (turned row).number ≡ row.number
    turned_number row = go (turned_cases row)
      where
        go : ((row.number ≡ old.number) × (turned row ≡ new)) ⊎ ((row.number ≢ old.number) × AreLike (turned row) row) → (turned row).number ≡ row.number
        go (inl a) = ap (λ (r : Row). r.number) a.1 ∙ number ∙ sym a.0
        go (inr a) = a.1.number

    the_old : In old rows.nodes
    the_old = row_in (n ∷ p) old at_it

    turned_parent : (row : Row) → In row rows.nodes → (turned row).parent ≡ row.parent
    turned_parent row i = go (turned_cases row)
      where
        go : ((row.number ≡ old.number) × (turned row ≡ new)) ⊎ ((row.number ≢ old.number) × AreLike (turned row) row) → (turned row).parent ≡ row.parent
        go (inl a) = ap (λ (r : Row). r.parent) a.1 ∙ inside ∙ ap (λ (r : Row). r.parent) (sym (ok.one row old i the_old a.0))
        go (inr a) = a.1.parent

    moved_has : (a : Row) → In a rows.nodes → In (turned a) moved.nodes
    moved_has a i = in_map (λ (r : Row). cond (r.number == new.number) new r) (map (bump old.parent now) rows.nodes) (bump old.parent now a) (in_map (bump old.parent now) rows.nodes a i)

    moved_in : (a : Row) → In a moved.nodes → (b : Row) × In b rows.nodes × (a ≡ turned b)
    moved_in a i =
        let c = map_in (λ (r : Row). cond (r.number == new.number) new r) (map (bump old.parent now) rows.nodes) a i in
        let b = map_in (bump old.parent now) rows.nodes c.0 c.1 in
        (b.0, b.1, c.2 ∙ ap (λ (r : Row). cond (r.number == new.number) new r) b.2)

    none_at_new : (a : Row) → IsRowAt rows (k ∷ p) a → ⊥
    none_at_new a i =
        let up : i.0 ≡ at_it.0 = one_row p i.0 at_it.0 i.1 at_it.1 in
        no_child rows old.parent k a free i.2.there i.2.below (i.2.parent ∙ ap (λ (r : Row). r.number) up ∙ sym at_it.2.parent) i.2.named

    forth_child : (m : List ℕ) (q : Path) (a : Row) (i : IsRowAt rows (m ∷ q) a) → IsRowAt moved (sw q) (turned i.0) → IsRowAt moved (sw (m ∷ q)) (turned a)
    forth_child m q a i up = go (which n k p apart m q) (turned_cases a)
      where
        child : (l : List ℕ) → (turned a).name ≡ l → IsRowIn moved (turned i.0) l (turned a)
        child l e = record {
          there = moved_has a i.2.there;
          below = λ z. i.2.below (sym (turned_number a) ∙ z);
          parent = turned_parent a i.2.there ∙ i.2.parent ∙ sym (turned_number i.0);
          named = e;
        }

        go : (n ∷ p ≡ m ∷ q) ⊎ ((k ∷ p ≡ m ∷ q) ⊎ ((n ∷ p ≢ m ∷ q) × (k ∷ p ≢ m ∷ q))) → ((a.number ≡ old.number) × (turned a ≡ new)) ⊎ ((a.number ≢ old.number) × AreLike (turned a) a)
            → IsRowAt moved (sw (m ∷ q)) (turned a)
        go (inl e) (inl c) =
            let eq : p ≡ q = cc in
            let parent : sw q ≡ p = ap sw (sym eq) ∙ swapped-parent n k p apart in
            subst (λ (z : Path). IsRowAt moved z (turned a)) (sym (ap sw (sym e) ∙ swapped-old n k p apart))
            (turned i.0, subst (λ (z : Path). IsRowAt moved z (turned i.0)) parent up, child k (ap (λ (r : Row). r.name) c.1 ∙ named))
        go (inl e) (inr c) = absurd (c.0 (ap (λ (r : Row). r.number) (one_row (m ∷ q) a old i (subst (λ (z : Path). IsRowAt rows z old) e at_it))))
        go (inr (inl e)) c = absurd (none_at_new a (subst (λ (z : Path). IsRowAt rows z a) (sym e) i))
        go (inr (inr e)) (inl c) = absurd (e.0 (one_path (n ∷ p) (m ∷ q) old a at_it i (sym c.0)))
        go (inr (inr e)) (inr c) = subst (λ (z : Path). IsRowAt moved z (turned a)) (sym (swapped-other n k p apart m q e.0 e.1)) (turned i.0, up, child m (c.1.name ∙ i.2.named))

    pub moved_forth : (q : Path) (a : Row) → IsRowAt rows q a → IsRowAt moved (sw q) (turned a)
    moved_forth [] a i = subst (λ (z : Path). IsRowAt moved z (turned a)) (sym (swapped-root n k p apart)) (moved_has a i.0, turned_number a ∙ i.1)
    moved_forth (m ∷ q) a i = forth_child m q a i (moved_forth q i.0 i.1)

    back_child : (m : List ℕ) (q : Path) (a : Row) (i : IsRowAt moved (m ∷ q) a) → (b : Row) × IsRowAt rows (sw q) b × (i.0 ≡ turned b) → (b : Row) × IsRowAt rows (sw (m ∷ q)) b × (a ≡ turned b)
    back_child m q a i up = (b.0, go (which n k p apart m q) (turned_cases b.0), b.2)
      where
        b : (b : Row) × In b rows.nodes × (a ≡ turned b)
        b = moved_in a i.2.there

        its_below : b.0.number ≢ root
        its_below e = i.2.below (ap (λ (r : Row). r.number) b.2 ∙ turned_number b.0 ∙ e)

        its_parent : b.0.parent ≡ up.0.number
        its_parent = sym (ap (λ (r : Row). r.parent) b.2 ∙ turned_parent b.0 b.1) ∙ i.2.parent ∙ ap (λ (r : Row). r.number) up.2 ∙ turned_number up.0

        its_name : (l : List ℕ) → (turned b.0).name ≡ l → l ≡ m
        its_name l e = sym e ∙ sym (ap (λ (r : Row). r.name) b.2) ∙ i.2.named

        at_old_name : b.0.name ≡ m → IsRowAt rows (m ∷ sw q) b.0
        at_old_name e = (up.0, up.1, record { there = b.1; below = its_below; parent = its_parent; named = e })

        -- the renamed row's directory is at p
        go : (n ∷ p ≡ m ∷ q) ⊎ ((k ∷ p ≡ m ∷ q) ⊎ ((n ∷ p ≢ m ∷ q) × (k ∷ p ≢ m ∷ q))) → ((b.0.number ≡ old.number) × (turned b.0 ≡ new)) ⊎ ((b.0.number ≢ old.number) × AreLike (turned b.0) b.0)
            → IsRowAt rows (sw (m ∷ q)) b.0
        go w (inl c) =
            let same : b.0 ≡ old = ok.one b.0 old b.1 the_old c.0 in
            let par : up.0.number ≡ at_it.0.number = sym its_parent ∙ ap (λ (r : Row). r.parent) same ∙ at_it.2.parent in
            let eq : sw q ≡ p = one_path (sw q) p up.0 at_it.0 up.1 at_it.1 par in
            let here : q ≡ p = sym (swapped_twice n k p apart q) ∙ ap sw eq ∙ swapped-parent n k p apart in
            let em : k ≡ m = its_name k (ap (λ (r : Row). r.name) c.1 ∙ named) in
            subst (λ (z : Row). IsRowAt rows (sw (m ∷ q)) z) (sym same)
            (subst (λ (z : Path). IsRowAt rows z old) (sym (ap sw (ap₂ (λ (u : List ℕ) (v : Path). u ∷ v) (sym em) here) ∙ swapped-new n k p apart)) at_it)
        go (inl e) (inr c) =
            let eq : p ≡ q = cc in
            let em : n ≡ m = cc in
            let parent : sw q ≡ p = ap sw (sym eq) ∙ swapped-parent n k p apart in
            let it : IsRowAt rows (n ∷ p) b.0 = subst (λ (z : Path). IsRowAt rows z b.0) (ap₂ (λ (u : List ℕ) (v : Path). u ∷ v) (sym em) parent) (at_old_name (sym c.1.name ∙ its_name_like c.1)) in
            absurd (c.0 (ap (λ (r : Row). r.number) (one_row (n ∷ p) b.0 old it at_it)))
          where
            its_name_like : AreLike (turned b.0) b.0 → (turned b.0).name ≡ m
            its_name_like l = sym (ap (λ (r : Row). r.name) b.2) ∙ i.2.named
        go (inr (inl e)) (inr c) =
            let eq : p ≡ q = cc in
            let em : k ≡ m = cc in
            let parent : sw q ≡ p = ap sw (sym eq) ∙ swapped-parent n k p apart in
            let it : IsRowAt rows (k ∷ p) b.0 = subst (λ (z : Path). IsRowAt rows z b.0) (ap₂ (λ (u : List ℕ) (v : Path). u ∷ v) (sym em) parent)
            (at_old_name (sym c.1.name ∙ sym (ap (λ (r : Row). r.name) b.2) ∙ i.2.named)) in
            absurd (none_at_new b.0 it)
        go (inr (inr e)) (inr c) = subst (λ (z : Path). IsRowAt rows z b.0) (sym (swapped-other n k p apart m q e.0 e.1))
            (at_old_name (sym c.1.name ∙ sym (ap (λ (r : Row). r.name) b.2) ∙ i.2.named))

    pub moved_back : (q : Path) (a : Row) → IsRowAt moved q a → (b : Row) × IsRowAt rows (sw q) b × (a ≡ turned b)
    moved_back [] a i =
        let b = moved_in a i.0 in
        (b.0, subst (λ (z : Path). IsRowAt rows z b.0) (sym (swapped-root n k p apart)) (b.1, sym (turned_number b.0) ∙ ap (λ (r : Row). r.number) (sym b.2) ∙ i.1), b.2)
    moved_back (m ∷ q) a i = back_child m q a i (moved_back q i.0 i.1)

    pub moved_numbered : AreNumbered moved
    moved_numbered = record {
      one = λ a b i j e. one a b (moved_in a i) (moved_in b j) e;
      names = λ a b i j ra rb pe ne. names a b (moved_in a i) (moved_in b j) ra rb pe ne;
      below = λ a i. let u = moved_in a i in let l : u.0.number < rows.next = ok.below u.0 u.1 in
          subst (λ (z : ℕ). z < rows.next) (sym (ap (λ (r : Row). r.number) u.2 ∙ turned_number u.0)) l;
      reached = λ a i. reached a (moved_in a i);
    }
      where
        one : (a b : Row) → (c : Row) × In c rows.nodes × (a ≡ turned c) → (c : Row) × In c rows.nodes × (b ≡ turned c) → a.number ≡ b.number → a ≡ b
        one a b u w e = u.2 ∙ ap turned (ok.one u.0 w.0 u.1 w.1 (sym (ap (λ (r : Row). r.number) u.2 ∙ turned_number u.0) ∙ e ∙ ap (λ (r : Row). r.number) w.2 ∙ turned_number w.0)) ∙ sym w.2

        -- no other row has the new name
        clash : (c e : Row) → In c rows.nodes → In e rows.nodes → e.number ≢ root → c.number ≡ old.number → turned c ≡ new → AreLike (turned e) e → (turned c).parent ≡ (turned e).parent → (turned c).name ≡ (turned e).name → ⊥
        clash c e i j r is form like pe ne = no_child rows old.parent k e free j r
            (sym like.parent ∙ sym pe ∙ ap (λ (z : Row). z.parent) form ∙ inside) (sym like.name ∙ sym ne ∙ ap (λ (z : Row). z.name) form ∙ named)

        names : (a b : Row) → (c : Row) × In c rows.nodes × (a ≡ turned c) → (c : Row) × In c rows.nodes × (b ≡ turned c) → a.number ≢ root → b.number ≢ root → a.parent ≡ b.parent → a.name ≡ b.name → a ≡ b
        names a b u w ra rb pe ne = u.2 ∙ ap turned (go (turned_cases u.0) (turned_cases w.0)) ∙ sym w.2
          where
            ru : u.0.number ≢ root
            ru z = ra (ap (λ (r : Row). r.number) u.2 ∙ turned_number u.0 ∙ z)

            rw' : w.0.number ≢ root
            rw' z = rb (ap (λ (r : Row). r.number) w.2 ∙ turned_number w.0 ∙ z)

            pe2 : (turned u.0).parent ≡ (turned w.0).parent
            pe2 = ap (λ (r : Row). r.parent) (sym u.2) ∙ pe ∙ ap (λ (r : Row). r.parent) w.2

            ne2 : (turned u.0).name ≡ (turned w.0).name
            ne2 = ap (λ (r : Row). r.name) (sym u.2) ∙ ne ∙ ap (λ (r : Row). r.name) w.2

            go : ((u.0.number ≡ old.number) × (turned u.0 ≡ new)) ⊎ ((u.0.number ≢ old.number) × AreLike (turned u.0) u.0) → ((w.0.number ≡ old.number) × (turned w.0 ≡ new)) ⊎ ((w.0.number ≢ old.number) × AreLike (turned w.0) w.0)
                → u.0 ≡ w.0
            go (inl x) (inl y) = ok.one u.0 w.0 u.1 w.1 (x.0 ∙ sym y.0)
            go (inr x) (inr y) = ok.names u.0 w.0 u.1 w.1 ru rw' (sym x.1.parent ∙ pe2 ∙ y.1.parent) (sym x.1.name ∙ ne2 ∙ y.1.name)
            go (inl x) (inr y) = absurd (clash u.0 w.0 u.1 w.1 rw' x.0 x.1 y.1 pe2 ne2)
            go (inr x) (inl y) = absurd (clash w.0 u.0 w.1 u.1 ru y.0 y.1 x.1 (sym pe2) (sym ne2))

        reached : (a : Row) → (c : Row) × In c rows.nodes × (a ≡ turned c) → (q : Path) × IsRowAt moved q a
        reached a u = let r = ok.reached u.0 u.1 in (sw r.0, subst (λ (z : Row). IsRowAt moved (sw r.0) z) (sym u.2) (moved_forth r.0 u.0 r.1))
