-- A tree in memory is one after each step of a change, and which names it has then.
use Rattle.std.proofs.Common.{◌≡◌, ◌≢◌, ◌<◌, ◌^◌, ℕ, Bool, true, false, List, Some, ◌==◌, if◌then◌else◌, refl, sym, ap, ◌∙◌, subst, arith, true≢false, inl, inr, ◌⊎◌}
use Rattle.std.proofs.lemmas.Bool.{eqb-true, eq-eqb, ne_eqb}
use Rattle.std.specs.Ordering.{nat_cmp}
use Rattle.std.specs.Option.{option_map}
use Rattle.std.specs.List.Sorted.{IsStrictlySortedBy}
use Rattle.std.specs.Map.{keys_of}
use Rattle.tree_model.specs.Rows.{root}
use Rattle.live_tree.specs.Held.{HeldNode, HeldTree, node_of, IsNamed, IsFree, IsChildless, IsDirectory, IsTree}
use Rattle.live_tree.specs.Changes.{edited, appended, dropped, renamed_node}
use Rattle.live_tree.proofs.Entries.{AreBelow, below_from}
use Rattle.live_tree.proofs.Held.{IsNew, still, back, last_named, parents_still, numbers_still, versions_still}
use Rattle.live_tree.proofs.After.{lookup_edit, sorted_edit, IsAlike, Came, came, root_forth, parents_forth, versions_forth, named_forth, named_back, picked, by_pick}
use Rattle.live_tree.proofs.Dropped.{still as dropped_still, back as dropped_back, parents_still as dropped_parents}
use Rattle.live_tree_laws.proofs.Lists.{sorted_last, sorted_without}
use Rattle.live_tree_laws.proofs.Paths.{one_held}

-- ---- nodes that changed, each by itself

module _ (tree tree' : HeldTree) (is : IsTree tree) (g : ℕ → HeldNode → HeldNode) (at : (q : ℕ) → node_of tree' q ≡ option_map (g q) (node_of tree q))
    (next : tree'.next ≡ tree.next) (alike : (q : ℕ) (n : HeldNode) → node_of tree q ≡ Some n → IsAlike n (g q n)) where
  pub tree_by : IsStrictlySortedBy nat_cmp (keys_of tree'.nodes) → ((q : ℕ) (n : HeldNode) → node_of tree q ≡ Some n → (g q n).version < 2 ^ 32)
      → ((parent : ℕ) (name : List ℕ) (a b : ℕ) → IsNamed tree' parent name a → IsNamed tree' parent name b → a ≡ b) → IsTree tree'
  tree_by ordered versions names = record {
    ordered = ordered;
    first = (g root is.first.0, root_forth tree tree' g at alike is.first.0 is.first.1);
    parents = parents_forth tree tree' g at alike is.parents;
    numbers = λ q n' there. let from = came tree tree' g at alike q n' there in let low = is.numbers q from.node from.there in omega (arith, low, next);
    versions = versions_forth tree tree' g at alike versions;
    names = names;
  }

  pub tree_alike : ((q : ℕ) (n : HeldNode) → node_of tree q ≡ Some n → (g q n).kept.name ≡ n.kept.name) → IsStrictlySortedBy nat_cmp (keys_of tree'.nodes)
      → ((q : ℕ) (n : HeldNode) → node_of tree q ≡ Some n → (g q n).version < 2 ^ 32) → IsTree tree'
  tree_alike same_name ordered versions = tree_by ordered versions
      (λ parent name a b x y.
      is.names parent name a b (named_back tree tree' g at alike same_name parent name a x) (named_back tree tree' g at alike same_name parent name b y))

-- ---- the node of a number changed, with its name

module _ (tree : HeldTree) (is : IsTree tree) (number : ℕ) (f : HeldNode → HeldNode) (alike : (n : HeldNode) → node_of tree number ≡ Some n → IsAlike n (f n))
    (same_name : (n : HeldNode) → node_of tree number ≡ Some n → (f n).kept.name ≡ n.kept.name)
    (versions : (n : HeldNode) → node_of tree number ≡ Some n → (f n).version < 2 ^ 32) where
  abbrev pub another : HeldTree
  another = edited tree number f

  pub edit_at : (q : ℕ) → node_of another q ≡ option_map (picked number f q) (node_of tree q)
  edit_at q = lookup_edit q number f tree.nodes

  pub edit_alike : (q : ℕ) (n : HeldNode) → node_of tree q ≡ Some n → IsAlike n (picked number f q n)
  edit_alike q n there = by_pick (λ n'. IsAlike n n') number f q n (λ e. alike n (ap (node_of tree) (sym e) ∙ there)) (record { parent = refl; folder = refl })

  edit_named : (q : ℕ) (n : HeldNode) → node_of tree q ≡ Some n → (picked number f q n).kept.name ≡ n.kept.name
  edit_named q n there = by_pick (λ n'. n'.kept.name ≡ n.kept.name) number f q n (λ e. same_name n (ap (node_of tree) (sym e) ∙ there)) refl

  pub tree_edited : IsTree another
  tree_edited = tree_alike tree another is (picked number f) edit_at refl edit_alike edit_named (sorted_edit tree number f is.ordered)
      (λ q n there. by_pick (λ n'. n'.version < 2 ^ 32) number f q n (λ e. versions n (ap (node_of tree) (sym e) ∙ there)) (is.versions q n there))

  pub edited_forth : (parent : ℕ) (name : List ℕ) (x : ℕ) → IsNamed tree parent name x → IsNamed another parent name x
  edited_forth = named_forth tree another (picked number f) edit_at edit_alike edit_named

  pub edited_back : (parent : ℕ) (name : List ℕ) (x : ℕ) → IsNamed another parent name x → IsNamed tree parent name x
  edited_back = named_back tree another (picked number f) edit_at edit_alike edit_named

-- ---- a node after the others

module _ (tree : HeldTree) (is : IsTree tree) (node : HeldNode) (up : IsDirectory tree node.kept.parent) (free : IsFree tree node.kept.parent node.kept.name) (fresh : node.version ≡ 0) where
  abbrev pub more : HeldTree
  more = appended tree node

  below_next : AreBelow tree.next tree.nodes
  below_next = below_from tree.next tree.nodes is.numbers

  pub parent_below : node.kept.parent < tree.next
  parent_below = is.numbers node.kept.parent up.node up.there

  pub more_named : IsNamed more node.kept.parent node.kept.name tree.next
  more_named = last_named tree node is.numbers is.first.0 is.first.1.there

  pub more_back : (a : ℕ) (m : List ℕ) (x : ℕ) → IsNamed more a m x → IsNamed tree a m x ⊎ ((a ≡ node.kept.parent) × (m ≡ node.kept.name) × (x ≡ tree.next))
  more_back a m x h = go (back tree node is.numbers x h.node h.child.there)
    where
      go : IsNew x h.node tree.next node ⊎ (node_of tree x ≡ Some h.node) → IsNamed tree a m x ⊎ ((a ≡ node.kept.parent) × (m ≡ node.kept.name) × (x ≡ tree.next))
      go (inl this) = inr (sym h.child.inside ∙ ap (λ (z : HeldNode). z.kept.parent) this.node_is, sym h.named ∙ ap (λ (z : HeldNode). z.kept.name) this.node_is, this.number)
      go (inr there) = inl (record { node = h.node; child = record { there = there; below = h.child.below; inside = h.child.inside }; named = h.named })

  -- the number has no nodes in it
  pub next_none : (m : List ℕ) (x : ℕ) → IsNamed tree tree.next m x → ⊥
  next_none m x h =
      let before = (is.parents x h.node h.child.there h.child.below).before in
      let low = is.numbers x h.node h.child.there in
      let inside = h.child.inside in
      omega (arith, before, low, inside)

  pub tree_more : IsTree more
  tree_more = record {
    ordered = sorted_last tree.next node tree.nodes below_next is.ordered;
    first = (is.first.0, record { there = still tree node is.numbers root is.first.0 is.first.1.there; own = is.first.1.own; folder = is.first.1.folder });
    parents = parents_still tree node is.numbers up is.parents;
    numbers = numbers_still tree node is.numbers;
    versions = versions_still tree node is.numbers fresh is.versions;
    names = λ a m x y h g. names a m x y (more_back a m x h) (more_back a m y g);
  }
    where
      taken : (a : ℕ) (m : List ℕ) (x : ℕ) → IsNamed tree a m x → a ≡ node.kept.parent → m ≡ node.kept.name → ⊥
      taken a m x h ea em = free x (subst (λ (z : List ℕ). IsNamed tree node.kept.parent z x) em (subst (λ (z : ℕ). IsNamed tree z m x) ea h))

      names : (a : ℕ) (m : List ℕ) (x y : ℕ) → IsNamed tree a m x ⊎ ((a ≡ node.kept.parent) × (m ≡ node.kept.name) × (x ≡ tree.next))
          → IsNamed tree a m y ⊎ ((a ≡ node.kept.parent) × (m ≡ node.kept.name) × (y ≡ tree.next)) → x ≡ y
      names a m x y (inl h) (inl g) = is.names a m x y h g
      names a m x y (inl h) (inr g) = absurd (taken a m x h g.0 g.1)
      names a m x y (inr h) (inl g) = absurd (taken a m y g h.0 h.1)
      names a m x y (inr h) (inr g) = h.2 ∙ sym g.2

-- ---- without one that has no nodes in it

module _ (tree : HeldTree) (is : IsTree tree) (number : ℕ) (below : number ≢ root) (childless : IsChildless tree number) where
  abbrev pub less : HeldTree
  less = dropped tree number

  pub less_forth : (a : ℕ) (m : List ℕ) (x : ℕ) → x ≢ number → IsNamed tree a m x → IsNamed less a m x
  less_forth a m x apart h = record { node = h.node; child = record { there = dropped_still tree number x h.node apart h.child.there; below = h.child.below; inside = h.child.inside }; named = h.named }

  pub less_back : (a : ℕ) (m : List ℕ) (x : ℕ) → IsNamed less a m x → IsNamed tree a m x × (x ≢ number)
  less_back a m x h =
      let was = dropped_back tree number x h.node h.child.there in
      (record { node = h.node; child = record { there = was.there; below = h.child.below; inside = h.child.inside }; named = h.named }, was.apart)

  pub less_none : (m : List ℕ) (x : ℕ) → IsNamed tree number m x → ⊥
  less_none m x h = childless x h.node h.child

  pub tree_less : IsTree less
  tree_less = record {
    ordered = sorted_without number tree.nodes is.ordered;
    first = (is.first.0, record { there = dropped_still tree number root is.first.0 (λ e. below (sym e)) is.first.1.there; own = is.first.1.own; folder = is.first.1.folder });
    parents = dropped_parents tree number childless is.parents;
    numbers = λ q n there. is.numbers q n (dropped_back tree number q n there).there;
    versions = λ q n there. is.versions q n (dropped_back tree number q n there).there;
    names = λ a m x y h g. is.names a m x y (less_back a m x h).0 (less_back a m y g).0;
  }

-- ---- another name

module _ (tree : HeldTree) (is : IsTree tree) (number parent : ℕ) (n k entry : List ℕ) (long : Bool) (named : IsNamed tree parent n number) (free : IsFree tree parent k) where
  abbrev pub after : HeldTree
  after = edited tree number (renamed_node k entry long)

  abbrev pub pick : ℕ → HeldNode → HeldNode
  pick = picked number (renamed_node k entry long)

  pub after_at : (q : ℕ) → node_of after q ≡ option_map (pick q) (node_of tree q)
  after_at q = lookup_edit q number (renamed_node k entry long) tree.nodes

  pub after_still : (q : ℕ) (m : HeldNode) → node_of tree q ≡ Some m → node_of after q ≡ Some (pick q m)
  after_still q m there = after_at q ∙ ap (option_map (pick q)) there

  pub pick_here : (m : HeldNode) → pick number m ≡ renamed_node k entry long m
  pick_here m = ap (λ b. if b then renamed_node k entry long m else m) (eq-eqb number number refl)

  pub pick_other : (q : ℕ) (m : HeldNode) → q ≢ number → pick q m ≡ m
  pick_other q m apart = ap (λ b. if b then renamed_node k entry long m else m) (ne_eqb q number apart)

  alike : (q : ℕ) (m : HeldNode) → node_of tree q ≡ Some m → IsAlike m (pick q m)
  alike q m there = by_pick (λ m'. IsAlike m m') number (renamed_node k entry long) q m (λ e. record { parent = refl; folder = refl }) (record { parent = refl; folder = refl })

  pub after_named : IsNamed after parent k number
  after_named = record {
    node = renamed_node k entry long named.node;
    child = record { there = after_still number named.node named.child.there ∙ ap Some (pick_here named.node); below = named.child.below; inside = named.child.inside };
    named = refl;
  }

  pub after_forth : (a : ℕ) (m : List ℕ) (x : ℕ) → x ≢ number → IsNamed tree a m x → IsNamed after a m x
  after_forth a m x apart h = record {
    node = h.node;
    child = record { there = after_still x h.node h.child.there ∙ ap Some (pick_other x h.node apart); below = h.child.below; inside = h.child.inside };
    named = h.named;
  }

  pub after_back : (a : ℕ) (m : List ℕ) (x : ℕ) → IsNamed after a m x → (IsNamed tree a m x × (x ≢ number)) ⊎ ((a ≡ parent) × (m ≡ k) × (x ≡ number))
  after_back a m x h = go (came tree after pick after_at alike x h.node h.child.there) (x == number) refl
    where
      go : Came tree x (pick x) h.node → (b : Bool) → (x == number) ≡ b → (IsNamed tree a m x × (x ≢ number)) ⊎ ((a ≡ parent) × (m ≡ k) × (x ≡ number))
      go from true e =
          let same = eqb-true x number e in
          let mine : from.node ≡ named.node = one_held tree number from.node named.node (ap (node_of tree) (sym same) ∙ from.there) named.child.there in
          let got : h.node ≡ renamed_node k entry long named.node = from.is ∙ ap (λ (q : ℕ). pick q from.node) same ∙ pick_here from.node ∙ ap (renamed_node k entry long) mine in
          inr (sym h.child.inside ∙ ap (λ (z : HeldNode). z.kept.parent) got ∙ named.child.inside, sym h.named ∙ ap (λ (z : HeldNode). z.kept.name) got, same)
      go from false e =
          let apart : x ≢ number = (λ z. true≢false (sym (eq-eqb x number z) ∙ e)) in
          let got : h.node ≡ from.node = from.is ∙ pick_other x from.node apart in
          inl (
            record {
              node = from.node;
              child = record { there = from.there; below = h.child.below; inside = ap (λ (z : HeldNode). z.kept.parent) (sym got) ∙ h.child.inside };
              named = ap (λ (z : HeldNode). z.kept.name) (sym got) ∙ h.named;
            },
            apart,
          )

  pub tree_after : IsTree after
  tree_after = tree_by tree after is pick after_at refl alike (sorted_edit tree number (renamed_node k entry long) is.ordered)
      (λ q m there. by_pick (λ m'. m'.version < 2 ^ 32) number (renamed_node k entry long) q m (λ e. is.versions q m there) (is.versions q m there))
      (λ a m x y h g. names a m x y (after_back a m x h) (after_back a m y g))
    where
      taken : (a : ℕ) (m : List ℕ) (x : ℕ) → IsNamed tree a m x → a ≡ parent → m ≡ k → ⊥
      taken a m x h ea em = free x (subst (λ (z : List ℕ). IsNamed tree parent z x) em (subst (λ (z : ℕ). IsNamed tree z m x) ea h))

      names : (a : ℕ) (m : List ℕ) (x y : ℕ) → (IsNamed tree a m x × (x ≢ number)) ⊎ ((a ≡ parent) × (m ≡ k) × (x ≡ number))
          → (IsNamed tree a m y × (y ≢ number)) ⊎ ((a ≡ parent) × (m ≡ k) × (y ≡ number)) → x ≡ y
      names a m x y (inl h) (inl g) = is.names a m x y h.0 g.0
      names a m x y (inl h) (inr g) = absurd (taken a m x h.0 g.0 g.1)
      names a m x y (inr h) (inl g) = absurd (taken a m y g.0 h.0 h.1)
      names a m x y (inr h) (inr g) = h.2 ∙ sym g.2
