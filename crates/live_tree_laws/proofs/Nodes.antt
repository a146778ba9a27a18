-- The paths of a tree with a node more, one less, or one under another name are those of the tree before, but for those of a place where nothing is.
use Rattle.std.proofs.Common.{◌≡◌, ◌≢◌, ◌⊎◌, ℕ, Bool, true, false, List, [], ◌∷◌, Option, None, Some, IsSome, refl, sym, ap, ◌∙◌, subst, inl, inr}
use Rattle.std.proofs.lemmas.Bool.{cond-true, cond-false}
use Rattle.std.specs.FinMap.{get}
use Rattle.outside.specs.Disk.{Disk, IsTree, Path as HostPath}
use Rattle.clear_tree.specs.Queue.{In}
use Rattle.clear_tree.specs.Walk.{Path, same_path, Sealing, Node, Dir}
use Rattle.clear_tree.specs.Places.{folders_of, host_folder, host_entry, text_dirid}
use Rattle.clear_tree.proofs.Paths.{path_cases, child_apart, same_path-apart, same_path-itself}
use Rattle.tree_deed_laws.specs.Trees.{Tree, IsTreeOf, with_node, without_node, with_name, swapped}
use Rattle.tree_deed_laws.specs.Deeds.{entry_text, place_of}
use Rattle.tree_deed_laws.proofs.Exact.{parent_there}
use Rattle.tree_deed_laws.proofs.Seeing.{nothing, some_there}
use Rattle.tree_deed_laws.proofs.Maps.{get_with, get_without, get_moved}
use Rattle.tree_deed_laws.proofs.Rename.{stays_other, swapped-new, swapped-old, swapped-other, swapped-parent, swapped_twice, which}
use Rattle.live_tree_laws.specs.Strays.{known_file, node_paths, paths_at, IsOfTree}
use Rattle.live_tree_laws.proofs.Unnamed.{none_at}

-- if a directory's own folder isn't there, neither of its paths is
in_own : (d : Disk) → IsTree d → (F : List ℕ) (path : HostPath) → get d (host_folder F) ≡ None → In path (host_folder F ∷ host_entry F text_dirid ∷ []) → get d path ≡ None
in_own d host F path none (inl e) = ap (get d) e ∙ none
in_own d host F path none (inr (inl e)) = ap (get d) e ∙ nothing _ (λ y f. some_there _ _ (host.parents (host_entry F text_dirid) (subst IsSome (sym f) refl)) none)
in_own d host F path none (inr (inr e)) = absurd e

-- so it is of a node that is that directory
own_gone : (s : Sealing) (d : Disk) → IsTree d → (x : Node) → ((t : List ℕ) → x ≡ Dir t → get d (host_folder (s.folder_of t)) ≡ None) → (identifier : List ℕ) → ◌≡◌ {A = Option Node} (Some x) (Some (Dir identifier))
    → (path : HostPath) → In path (host_folder (s.folder_of identifier) ∷ host_entry (s.folder_of identifier) text_dirid ∷ []) → get d path ≡ None
own_gone s d host x own identifier same path at = let x_is : x ≡ Dir identifier = cc in in_own d host (s.folder_of identifier) path (own identifier x_is) at

-- at a place where nothing is, neither is anything of the node that is said to be there
gone_at : (s : Sealing) (d : Disk) → IsTree d → (i n j m : List ℕ) (long z : Bool) (x : Node) (path : HostPath) → i ≡ j → n ≡ m → z ≡ long
    → get d (host_entry (s.folder_of i) (entry_text s long (s.seal i n))) ≡ None → In path (paths_at (place_of s j m z) x) → get d path ≡ None
gone_at s d host i n j m long z x path same_identifier same_name same_long none at =
    none_at d host path long (s.folder_of i) (entry_text s long (s.seal i n)) (known_file x) none
    (subst (λ (k : List ℕ). In path (paths_at (place_of s k n long) x)) (sym same_identifier)
    (subst (λ (k : List ℕ). In path (paths_at (place_of s j k long) x)) (sym same_name) (subst (λ (b : Bool). In path (paths_at (place_of s j m b) x)) same_long at)))

module _ (s : Sealing) (d : Disk) (tree : Tree) (p : Path) (i n : List ℕ) (x : Node) (long : Bool) (is : IsTreeOf s d tree) (parent : get tree.nodes p ≡ Some (Dir i))
    (free : get tree.nodes (n ∷ p) ≡ None) (none : get d (host_entry (s.folder_of i) (entry_text s long (s.seal i n))) ≡ None)
    (own : (t : List ℕ) → x ≡ Dir t → get d (host_folder (s.folder_of t)) ≡ None) where
  abbrev more : Tree
  more = with_node tree (n ∷ p) x long

  off : (q : Path) → n ∷ p ≢ q → get more.nodes q ≡ get tree.nodes q
  off q ne = get_with tree.nodes (n ∷ p) x q ∙ cond-false (same_path (n ∷ p) q) _ _ (same_path-apart (n ∷ p) q ne)

  it : get more.nodes (n ∷ p) ≡ Some x
  it = get_with tree.nodes (n ∷ p) x (n ∷ p) ∙ cond-true (same_path (n ∷ p) (n ∷ p)) _ _ (same_path-itself (n ∷ p))

  -- what is below the new node's path isn't in the tree
  no_child_of_it : (m : List ℕ) (q : Path) (y : Node) → n ∷ p ≡ q → get tree.nodes (m ∷ q) ≡ Some y → ⊥
  no_child_of_it m q y e there =
      let above = parent_there s (folders_of s d) is.owner q m y (sym (is.exact (m ∷ q)) ∙ there) in
      let w : ◌≡◌ {A = Option Node} None (Some (Dir above.0)) = sym free ∙ ap (get tree.nodes) e ∙ is.exact q ∙ above.1 in
      cc

  -- a node that is there isn't the new one
  not_it : (q : Path) (y : Node) → get tree.nodes q ≡ Some y → n ∷ p ≢ q
  not_it q y there e = let w : ◌≡◌ {A = Option Node} None (Some y) = sym free ∙ ap (get tree.nodes) e ∙ there in cc

  more_long : more.long (n ∷ p) ≡ long
  more_long = cond-true (same_path (n ∷ p) (n ∷ p)) _ _ (same_path-itself (n ∷ p))

  -- the paths of the new node are the tree's
  pub more_it : (path : HostPath) → In path (paths_at (place_of s i n long) x) → IsOfTree s more path
  more_it path at = inl (record {
    above = p;
    identifier = i;
    name = n;
    node = x;
    parent = off p (child_apart n p) ∙ parent;
    there = it;
    is = subst (λ (z : Bool). In path (paths_at (place_of s i n z) x)) (sym more_long) at;
  })

  -- and so are all that were
  pub more_to : (path : HostPath) → IsOfTree s tree path → IsOfTree s more path
  more_to path (inl of) =
      let apart : n ∷ p ≢ of.name ∷ of.above = not_it (of.name ∷ of.above) of.node of.there in
      inl (record {
        above = of.above;
        identifier = of.identifier;
        name = of.name;
        node = of.node;
        parent = off of.above (not_it of.above (Dir of.identifier) of.parent) ∙ of.parent;
        there = off (of.name ∷ of.above) apart ∙ of.there;
        is = subst (λ (z : Bool). In path (paths_at (place_of s of.identifier of.name z) of.node)) (sym (cond-false (same_path (n ∷ p) (of.name ∷ of.above)) _ _ (same_path-apart (n ∷ p) (of.name ∷ of.above) apart))) of.is;
      })
  more_to path (inr of) = inr (record { at = of.at; identifier = of.identifier; there = off of.at (not_it of.at (Dir of.identifier) of.there) ∙ of.there; is = of.is })

  pub more_from : (path : HostPath) → IsOfTree s more path → IsOfTree s tree path ⊎ (get d path ≡ None)
  more_from path (inl of) = by_node (path_cases (n ∷ p) (of.name ∷ of.above))
    where
      by_parent : n ∷ p ≢ of.name ∷ of.above → get tree.nodes (of.name ∷ of.above) ≡ Some of.node → ((same_path (n ∷ p) of.above ≡ true) × (n ∷ p ≡ of.above)) ⊎ ((same_path (n ∷ p) of.above ≡ false) × (n ∷ p ≢ of.above))
          → IsOfTree s tree path ⊎ (get d path ≡ None)
      by_parent ne there (inl e) = absurd (no_child_of_it of.name of.above of.node e.1 there)
      by_parent ne there (inr e) = inl (inl (record {
        above = of.above;
        identifier = of.identifier;
        name = of.name;
        node = of.node;
        parent = sym (off of.above e.1) ∙ of.parent;
        there = there;
        is = subst (λ (z : Bool). In path (paths_at (place_of s of.identifier of.name z) of.node)) (cond-false (same_path (n ∷ p) (of.name ∷ of.above)) _ _ (same_path-apart (n ∷ p) (of.name ∷ of.above) ne)) of.is;
      }))

      by_node : ((same_path (n ∷ p) (of.name ∷ of.above) ≡ true) × (n ∷ p ≡ of.name ∷ of.above)) ⊎ ((same_path (n ∷ p) (of.name ∷ of.above) ≡ false) × (n ∷ p ≢ of.name ∷ of.above))
          → IsOfTree s tree path ⊎ (get d path ≡ None)
      by_node (inl e) =
          let above_is : p ≡ of.above = cc in
          let name_is : n ≡ of.name = cc in
          let w : ◌≡◌ {A = Option Node} (Some (Dir i)) (Some (Dir of.identifier)) = sym parent ∙ sym (off p (child_apart n p)) ∙ ap (get more.nodes) above_is ∙ of.parent in
          let identifier_is : i ≡ of.identifier = cc in
          inr (gone_at s d is.host i n of.identifier of.name long (more.long (of.name ∷ of.above)) of.node path identifier_is name_is
          (cond-true (same_path (n ∷ p) (of.name ∷ of.above)) _ _ e.0) none of.is)
      by_node (inr e) = by_parent e.1 (sym (off (of.name ∷ of.above) e.1) ∙ of.there) (path_cases (n ∷ p) of.above)
  more_from path (inr of) = by_path (path_cases (n ∷ p) of.at)
    where
      by_path : ((same_path (n ∷ p) of.at ≡ true) × (n ∷ p ≡ of.at)) ⊎ ((same_path (n ∷ p) of.at ≡ false) × (n ∷ p ≢ of.at)) → IsOfTree s tree path ⊎ (get d path ≡ None)
      by_path (inl e) = inr (own_gone s d is.host x own of.identifier (sym it ∙ ap (get more.nodes) e.1 ∙ of.there) path of.is)
      by_path (inr e) = inl (inr (record { at = of.at; identifier = of.identifier; there = sym (off of.at e.1) ∙ of.there; is = of.is }))

module _ (s : Sealing) (tree : Tree) (p : Path) (n : List ℕ) where
  abbrev less : Tree
  less = without_node tree (n ∷ p)

  was : (q : Path) (y : Node) → get less.nodes q ≡ Some y → get tree.nodes q ≡ Some y
  was q y e = by_path (path_cases (n ∷ p) q)
    where
      by_path : ((same_path (n ∷ p) q ≡ true) × (n ∷ p ≡ q)) ⊎ ((same_path (n ∷ p) q ≡ false) × (n ∷ p ≢ q)) → get tree.nodes q ≡ Some y
      by_path (inl same) = let w : ◌≡◌ {A = Option Node} None (Some y) = sym (get_without tree.nodes (n ∷ p) q ∙ cond-true (same_path (n ∷ p) q) _ _ same.0) ∙ e in absurd cc
      by_path (inr apart) = sym (get_without tree.nodes (n ∷ p) q ∙ cond-false (same_path (n ∷ p) q) _ _ apart.0) ∙ e

  pub less_from : (path : HostPath) → IsOfTree s less path → IsOfTree s tree path
  less_from path (inl of) = inl (record {
    above = of.above;
    identifier = of.identifier;
    name = of.name;
    node = of.node;
    parent = was of.above (Dir of.identifier) of.parent;
    there = was (of.name ∷ of.above) of.node of.there;
    is = of.is;
  })
  less_from path (inr of) = inr (record { at = of.at; identifier = of.identifier; there = was of.at (Dir of.identifier) of.there; is = of.is })

-- what the node that is removed had is gone, and all else is the tree's still
module _ (s : Sealing) (after : Disk) (tree : Tree) (p : Path) (i n : List ℕ) (x : Node) (host : IsTree after) (parent : get tree.nodes p ≡ Some (Dir i)) (there : get tree.nodes (n ∷ p) ≡ Some x)
    (childless : (m : List ℕ) → get tree.nodes (m ∷ n ∷ p) ≡ None) (gone : get after (host_entry (s.folder_of i) (entry_text s (tree.long (n ∷ p)) (s.seal i n))) ≡ None)
    (own : (t : List ℕ) → x ≡ Dir t → get after (host_folder (s.folder_of t)) ≡ None) where
  abbrev fewer : Tree
  fewer = without_node tree (n ∷ p)

  stays : (q : Path) → n ∷ p ≢ q → get fewer.nodes q ≡ get tree.nodes q
  stays q ne = get_without tree.nodes (n ∷ p) q ∙ cond-false (same_path (n ∷ p) q) _ _ (same_path-apart (n ∷ p) q ne)

  pub less_to : (path : HostPath) → IsOfTree s tree path → IsOfTree s fewer path ⊎ (get after path ≡ None)
  less_to path (inl of) = by_node (path_cases (n ∷ p) (of.name ∷ of.above))
    where
      not_above : n ∷ p ≢ of.above
      not_above e = let w : ◌≡◌ {A = Option Node} None (Some of.node) = sym (childless of.name) ∙ ap (λ (q : Path). get tree.nodes (of.name ∷ q)) e ∙ of.there in cc

      by_node : ((same_path (n ∷ p) (of.name ∷ of.above) ≡ true) × (n ∷ p ≡ of.name ∷ of.above)) ⊎ ((same_path (n ∷ p) (of.name ∷ of.above) ≡ false) × (n ∷ p ≢ of.name ∷ of.above))
          → IsOfTree s fewer path ⊎ (get after path ≡ None)
      by_node (inl e) =
          let above_is : p ≡ of.above = cc in
          let name_is : n ≡ of.name = cc in
          let w : ◌≡◌ {A = Option Node} (Some (Dir i)) (Some (Dir of.identifier)) = sym parent ∙ ap (get tree.nodes) above_is ∙ of.parent in
          let identifier_is : i ≡ of.identifier = cc in
          inr (gone_at s after host i n of.identifier of.name (tree.long (n ∷ p)) (tree.long (of.name ∷ of.above)) of.node path identifier_is name_is (ap tree.long (sym e.1)) gone of.is)
      by_node (inr e) = inl (inl (record {
        above = of.above;
        identifier = of.identifier;
        name = of.name;
        node = of.node;
        parent = stays of.above not_above ∙ of.parent;
        there = stays (of.name ∷ of.above) e.1 ∙ of.there;
        is = of.is;
      }))
  less_to path (inr of) = by_path (path_cases (n ∷ p) of.at)
    where
      by_path : ((same_path (n ∷ p) of.at ≡ true) × (n ∷ p ≡ of.at)) ⊎ ((same_path (n ∷ p) of.at ≡ false) × (n ∷ p ≢ of.at)) → IsOfTree s fewer path ⊎ (get after path ≡ None)
      by_path (inl e) = inr (own_gone s after host x own of.identifier (sym there ∙ ap (get tree.nodes) e.1 ∙ of.there) path of.is)
      by_path (inr e) = inl (inr (record { at = of.at; identifier = of.identifier; there = stays of.at e.1 ∙ of.there; is = of.is }))

module _ (s : Sealing) (d : Disk) (tree : Tree) (p : Path) (i n k : List ℕ) (long : Bool) (is : IsTreeOf s d tree) (apart : n ≢ k) (parent : get tree.nodes p ≡ Some (Dir i))
    (free : get tree.nodes (k ∷ p) ≡ None) (none : get d (host_entry (s.folder_of i) (entry_text s long (s.seal i k))) ≡ None) where
  abbrev moved : Tree
  moved = with_name tree (n ∷ p) (k ∷ p) long

  abbrev before : Path → Path
  before = swapped (n ∷ p) (k ∷ p)

  at_before : (q : Path) → get moved.nodes q ≡ get tree.nodes (before q)
  at_before q = get_moved n k p apart tree.nodes q

  -- the paths of the node at its new place are the tree's
  pub moved_it : (x : Node) → get tree.nodes (n ∷ p) ≡ Some x → (path : HostPath) → In path (paths_at (place_of s i k long) x) → IsOfTree s moved path
  moved_it x there path at = inl (record {
    above = p;
    identifier = i;
    name = k;
    node = x;
    parent = at_before p ∙ ap (get tree.nodes) (swapped-parent n k p apart) ∙ parent;
    there = at_before (k ∷ p) ∙ ap (get tree.nodes) (swapped-new n k p apart) ∙ there;
    is = subst (λ (z : Bool). In path (paths_at (place_of s i k z) x)) (sym (cond-true (same_path (k ∷ p) (k ∷ p)) _ _ (same_path-itself (k ∷ p)))) at;
  })

  -- what it had is gone, and all else is the tree's still
  module _ (after : Disk) (host : IsTree after) (gone : get after (host_entry (s.folder_of i) (entry_text s (tree.long (n ∷ p)) (s.seal i n))) ≡ None) where
    pub moved_to : (path : HostPath) → IsOfTree s tree path → IsOfTree s moved path ⊎ (get after path ≡ None)
    moved_to path (inl of) = by_which (which n k p apart of.name of.above)
      where
        by_which : (n ∷ p ≡ of.name ∷ of.above) ⊎ ((k ∷ p ≡ of.name ∷ of.above) ⊎ ((n ∷ p ≢ of.name ∷ of.above) × (k ∷ p ≢ of.name ∷ of.above))) → IsOfTree s moved path ⊎ (get after path ≡ None)
        by_which (inl e) =
            let above_is : p ≡ of.above = cc in
            let name_is : n ≡ of.name = cc in
            let w : ◌≡◌ {A = Option Node} (Some (Dir i)) (Some (Dir of.identifier)) = sym parent ∙ ap (get tree.nodes) above_is ∙ of.parent in
            let identifier_is : i ≡ of.identifier = cc in
            inr (gone_at s after host i n of.identifier of.name (tree.long (n ∷ p)) (tree.long (of.name ∷ of.above)) of.node path identifier_is name_is (ap tree.long (sym e)) gone of.is)
        by_which (inr (inl e)) = let w : ◌≡◌ {A = Option Node} None (Some of.node) = sym free ∙ ap (get tree.nodes) e ∙ of.there in absurd cc
        by_which (inr (inr e)) =
            let back : before (before of.above) ≡ of.above = swapped_twice n k p apart of.above in
            let others = stays_other n k p apart of.name of.above back e.0 e.1 in
            let same : before (of.name ∷ before of.above) ≡ of.name ∷ of.above =
            swapped-other n k p apart of.name (before of.above) others.0 others.1 ∙ ap (λ (q : Path). of.name ∷ q) back in
            let long_is : moved.long (of.name ∷ before of.above) ≡ tree.long (of.name ∷ of.above) =
            cond-false (same_path (k ∷ p) (of.name ∷ before of.above)) _ _ (same_path-apart (k ∷ p) (of.name ∷ before of.above) others.1) ∙ ap tree.long same in
            inl (inl (record {
              above = before of.above;
              identifier = of.identifier;
              name = of.name;
              node = of.node;
              parent = at_before (before of.above) ∙ ap (get tree.nodes) back ∙ of.parent;
              there = at_before (of.name ∷ before of.above) ∙ ap (get tree.nodes) same ∙ of.there;
              is = subst (λ (z : Bool). In path (paths_at (place_of s of.identifier of.name z) of.node)) (sym long_is) of.is;
            }))
    moved_to path (inr of) = inl (inr (record { at = before of.at; identifier = of.identifier; there = at_before (before of.at) ∙ ap (get tree.nodes) (swapped_twice n k p apart of.at) ∙ of.there; is = of.is }))

  pub moved_from : (path : HostPath) → IsOfTree s moved path → IsOfTree s tree path ⊎ (get d path ≡ None)
  moved_from path (inl of) = by_which (which n k p apart of.name of.above)
    where
      by_which : (n ∷ p ≡ of.name ∷ of.above) ⊎ ((k ∷ p ≡ of.name ∷ of.above) ⊎ ((n ∷ p ≢ of.name ∷ of.above) × (k ∷ p ≢ of.name ∷ of.above))) → IsOfTree s tree path ⊎ (get d path ≡ None)
      by_which (inl e) =
          let w : ◌≡◌ {A = Option Node} None (Some of.node) = sym free ∙ ap (get tree.nodes) (sym (swapped-old n k p apart)) ∙ sym (at_before (n ∷ p)) ∙ ap (get moved.nodes) e ∙ of.there in
          absurd cc
      by_which (inr (inl e)) =
          let above_is : p ≡ of.above = cc in
          let name_is : k ≡ of.name = cc in
          let w : ◌≡◌ {A = Option Node} (Some (Dir i)) (Some (Dir of.identifier)) = sym parent ∙ ap (get tree.nodes) (sym (swapped-parent n k p apart)) ∙ sym (at_before p) ∙ ap (get moved.nodes) above_is ∙ of.parent in
          let identifier_is : i ≡ of.identifier = cc in
          inr (gone_at s d is.host i k of.identifier of.name long (moved.long (of.name ∷ of.above)) of.node path identifier_is name_is
          (ap moved.long (sym e) ∙ cond-true (same_path (k ∷ p) (k ∷ p)) _ _ (same_path-itself (k ∷ p))) none of.is)
      by_which (inr (inr e)) =
          let same : before (of.name ∷ of.above) ≡ of.name ∷ before of.above = swapped-other n k p apart of.name of.above e.0 e.1 in
          let long_is : moved.long (of.name ∷ of.above) ≡ tree.long (of.name ∷ before of.above) =
          cond-false (same_path (k ∷ p) (of.name ∷ of.above)) _ _ (same_path-apart (k ∷ p) (of.name ∷ of.above) e.1) ∙ ap tree.long same in
          inl (inl (record {
            above = before of.above;
            identifier = of.identifier;
            name = of.name;
            node = of.node;
            parent = sym (at_before of.above) ∙ of.parent;
            there = ap (get tree.nodes) (sym same) ∙ sym (at_before (of.name ∷ of.above)) ∙ of.there;
            is = subst (λ (z : Bool). In path (paths_at (place_of s of.identifier of.name z) of.node)) long_is of.is;
          }))
  moved_from path (inr of) = inl (inr (record { at = before of.at; identifier = of.identifier; there = sym (at_before of.at) ∙ of.there; is = of.is }))

-- two trees have the same paths if each node of the one is one of the other, known by the same file, at the same place
pub paths_alike : (s : Sealing) (a b : Tree) → ((q : Path) → a.long q ≡ b.long q)
    → ((q : Path) (y : Node) → get a.nodes q ≡ Some y → (x : Node) × (get b.nodes q ≡ Some x) × (known_file x ≡ known_file y) × ((t : List ℕ) → y ≡ Dir t → x ≡ Dir t))
    → (path : HostPath) → IsOfTree s a path → IsOfTree s b path
paths_alike s a b same_long nodes path (inl of) =
    let above = nodes of.above (Dir of.identifier) of.parent in
    let it = nodes (of.name ∷ of.above) of.node of.there in
    inl (record {
      above = of.above;
      identifier = of.identifier;
      name = of.name;
      node = it.0;
      parent = above.1 ∙ ap Some (above.3 of.identifier refl);
      there = it.1;
      is = subst (λ (z : Bool). In path (paths_at (place_of s of.identifier of.name z) it.0)) (same_long (of.name ∷ of.above))
          (subst (λ (z : List ℕ). In path (node_paths (a.long (of.name ∷ of.above)) (s.folder_of of.identifier) (entry_text s (a.long (of.name ∷ of.above)) (s.seal of.identifier of.name)) z)) (sym it.2) of.is);
    })
paths_alike s a b same_long nodes path (inr of) =
    let it = nodes of.at (Dir of.identifier) of.there in
    inr (record { at = of.at; identifier = of.identifier; there = it.1 ∙ ap Some (it.3 of.identifier refl); is = of.is })
