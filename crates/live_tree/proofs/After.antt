-- What holds of a tree holds of it after a node of it changed, got another name or was taken away.
use Rattle.std.proofs.Common.{◌≡◌, ◌≢◌, ℕ, ◌<◌, ◌^◌, Bool, true, false, cond, List, [], ◌∷◌, map, Option, Some, None, IsSome, ◌==◌, if◌then◌else◌, refl, sym, ap, ap₂, ◌∙◌, subst, true≢false, arith}
use Rattle.std.proofs.lemmas.Bool.{eqb-true, eq-eqb, ne_eqb}
use Rattle.std.specs.Ordering.{nat_cmp}
use Rattle.std.specs.Option.{option_map, option_and_then}
use Rattle.std.specs.List.Sorted.{IsStrictlySortedBy}
use Rattle.std.specs.Map.{lookup, keys_of}
use Rattle.std.specs.BTreeMap.{is_at}
use Rattle.tree_model.specs.Rows.{root}
use Rattle.clear_tree.specs.Kept.{What, KeptFile, KeptLink, KeptDir, KeptBad, folder_in}
use Rattle.live_tree.specs.Held.{HeldNode, HeldTree, node_of, IsNamed, IsFree, IsRoot, HasParent}
use Rattle.live_tree.specs.Index.{Names, number_at, has_names, is_place, IsSet, IsHeld}
use Rattle.clear_tree.specs.Built.{IsFile}
use Rattle.live_tree.specs.Changes.{edited_nodes, edited, changed_node, renamed_node, sized_node, dated_node}
use Rattle.live_tree.proofs.Entries.{edit}
use Rattle.live_tree.proofs.Held.{place_is, place_true, folder_there, folder_some, number_from}

-- ---- a node that changed

pub lookup_edit : (q k : ℕ) (f : HeldNode → HeldNode) (es : List (ℕ × HeldNode))
    → lookup (is_at (nat_cmp q)) (map (edit k f) es) ≡ option_map (λ (n : HeldNode). if q == k then f n else n) (lookup (is_at (nat_cmp q)) es)
lookup_edit q k f [] = refl
lookup_edit q k f (e ∷ es) = step (is_at (nat_cmp q) e.0) refl (lookup_edit q k f es)
  where
    step : (b : Bool) → is_at (nat_cmp q) e.0 ≡ b
        → lookup (is_at (nat_cmp q)) (map (edit k f) es) ≡ option_map (λ (n : HeldNode). if q == k then f n else n) (lookup (is_at (nat_cmp q)) es)
        → cond b (Some (if e.0 == k then f e.1 else e.1)) (lookup (is_at (nat_cmp q)) (map (edit k f) es))
        ≡ option_map (λ (n : HeldNode). if q == k then f n else n) (cond b (Some e.1) (lookup (is_at (nat_cmp q)) es))
    step true b rest = ap (λ (x : ℕ). Some (if x == k then f e.1 else e.1)) (sym (number_from q e.0 b))
    step false b rest = rest

keys_edit : (k : ℕ) (f : HeldNode → HeldNode) (es : List (ℕ × HeldNode)) → keys_of (map (edit k f) es) ≡ keys_of es
keys_edit k f [] = refl
keys_edit k f (e ∷ es) = ap (λ (ks : List ℕ). e.0 ∷ ks) (keys_edit k f es)

-- a node of the same directory, and a directory if that was one
pub record IsAlike (n n' : HeldNode) : Type 0 where
  pub parent : n'.kept.parent ≡ n.kept.parent
  pub folder : folder_in n'.kept.what ≡ folder_in n.kept.what

pub record Came (tree : HeldTree) (q : ℕ) (g : HeldNode → HeldNode) (n' : HeldNode) : Type 0 where
  pub node : HeldNode
  pub there : node_of tree q ≡ Some node
  pub is : n' ≡ g node

pub came_from : (tree : HeldTree) (q : ℕ) (g : HeldNode → HeldNode) (n' : HeldNode) (o : Option HeldNode) → node_of tree q ≡ o → option_map g o ≡ Some n' → Came tree q g n'
came_from tree q g n' None e h = absurd cc
came_from tree q g n' (Some node) e h = record { node = node; there = e; is = cc }

module _ (tree tree' : HeldTree) (g : ℕ → HeldNode → HeldNode) (at : (q : ℕ) → node_of tree' q ≡ option_map (g q) (node_of tree q))
    (alike : (q : ℕ) (n : HeldNode) → node_of tree q ≡ Some n → IsAlike n (g q n)) where
  pub forth : (q : ℕ) (n : HeldNode) → node_of tree q ≡ Some n → node_of tree' q ≡ Some (g q n)
  forth q n there = at q ∙ ap (option_map (g q)) there

  pub came : (q : ℕ) (n' : HeldNode) → node_of tree' q ≡ Some n' → Came tree q (g q) n'
  came q n' there = came_from tree q (g q) n' (node_of tree q) refl (sym (at q) ∙ there)

  pub root_forth : (node : HeldNode) → IsRoot tree node → IsRoot tree' (g root node)
  root_forth node is = record {
    there = forth root node is.there;
    own = (alike root node is.there).parent ∙ is.own;
    folder = subst IsSome (sym (alike root node is.there).folder) is.folder;
  }

  folder_forth : (parent : ℕ) → IsSome (option_and_then (λ (p : HeldNode). folder_in p.kept.what) (node_of tree parent))
      → IsSome (option_and_then (λ (p : HeldNode). folder_in p.kept.what) (node_of tree' parent))
  folder_forth parent is =
      folder_there (node_of tree parent) (node_of tree' parent)
      (λ p e folder. folder_some (node_of tree' parent) (g parent p) (forth parent p e) (subst IsSome (sym (alike parent p e).folder) folder)) is

  pub parents_forth : ((q : ℕ) (n : HeldNode) → node_of tree q ≡ Some n → q ≢ root → HasParent tree q n)
      → (q : ℕ) (n' : HeldNode) → node_of tree' q ≡ Some n' → q ≢ root → HasParent tree' q n'
  parents_forth parents q n' there below =
      let from = came q n' there in
      let old = parents q from.node from.there below in
      let up : n'.kept.parent ≡ from.node.kept.parent = ap (λ (n : HeldNode). n.kept.parent) from.is ∙ (alike q from.node from.there).parent in
      let before = old.before in
      record {
        before = omega (arith, up, before);
        folder = rw up (folder_forth from.node.kept.parent old.folder);
      }

  pub versions_forth : ((q : ℕ) (n : HeldNode) → node_of tree q ≡ Some n → (g q n).version < 2 ^ 32) → (q : ℕ) (n' : HeldNode) → node_of tree' q ≡ Some n' → n'.version < 2 ^ 32
  versions_forth versions q n' there = let from = came q n' there in subst (λ (n : HeldNode). n.version < 2 ^ 32) (sym from.is) (versions q from.node from.there)

  module _ (same_name : (q : ℕ) (n : HeldNode) → node_of tree q ≡ Some n → (g q n).kept.name ≡ n.kept.name) where
    pub named_forth : (parent : ℕ) (name : List ℕ) (number : ℕ) → IsNamed tree parent name number → IsNamed tree' parent name number
    named_forth parent name number is = record {
      node = g number is.node;
      child = record {
        there = forth number is.node is.child.there;
        below = is.child.below;
        inside = (alike number is.node is.child.there).parent ∙ is.child.inside;
      };
      named = same_name number is.node is.child.there ∙ is.named;
    }

    pub named_back : (parent : ℕ) (name : List ℕ) (number : ℕ) → IsNamed tree' parent name number → IsNamed tree parent name number
    named_back parent name number is =
        let from = came number is.node is.child.there in
        record {
          node = from.node;
          child = record {
            there = from.there;
            below = is.child.below;
            inside = sym (alike number from.node from.there).parent ∙ ap (λ (n : HeldNode). n.kept.parent) (sym from.is) ∙ is.child.inside;
          };
          named = sym (same_name number from.node from.there) ∙ ap (λ (n : HeldNode). n.kept.name) (sym from.is) ∙ is.named;
        }

module _ (names : Names) (tree tree' : HeldTree) (held : IsHeld names tree) (g : ℕ → HeldNode → HeldNode) (at : (q : ℕ) → node_of tree' q ≡ option_map (g q) (node_of tree q))
    (next : tree'.next ≡ tree.next) (alike : (q : ℕ) (n : HeldNode) → node_of tree q ≡ Some n → IsAlike n (g q n)) where
  pub held_by : (names' : Names) → ((q : ℕ) → has_names names q ≡ true → has_names names' q ≡ true)
      → ((parent : ℕ) (name : List ℕ) (number : ℕ) → number_at names' parent name ≡ Some number → IsNamed tree' parent name number)
      → ((parent : ℕ) (name : List ℕ) (number : ℕ) → IsNamed tree' parent name number → number_at names' parent name ≡ Some number)
      → IsStrictlySortedBy nat_cmp (keys_of tree'.nodes) → ((q : ℕ) (n : HeldNode) → node_of tree q ≡ Some n → (g q n).version < 2 ^ 32) → IsHeld names' tree'
  held_by names' grown named found ordered versions = record {
    ordered = ordered;
    first = (g root held.first.0, root_forth tree tree' g at alike held.first.0 held.first.1);
    parents = parents_forth tree tree' g at alike held.parents;
    numbers = λ q n' there. let from = came tree tree' g at alike q n' there in let low = held.numbers q from.node from.there in omega (arith, low, next);
    versions = versions_forth tree tree' g at alike versions;
    directories = λ q n' there folder.
        let from = came tree tree' g at alike q n' there in
        grown q (held.directories q from.node from.there (subst IsSome (ap (λ (n : HeldNode). folder_in n.kept.what) from.is ∙ (alike q from.node from.there).folder) folder));
    named = named;
    found = found;
  }

  pub held_alike : ((q : ℕ) (n : HeldNode) → node_of tree q ≡ Some n → (g q n).kept.name ≡ n.kept.name) → IsStrictlySortedBy nat_cmp (keys_of tree'.nodes)
      → ((q : ℕ) (n : HeldNode) → node_of tree q ≡ Some n → (g q n).version < 2 ^ 32) → IsHeld names tree'
  held_alike same_name ordered versions =
      held_by names (λ q there. there)
      (λ parent name number found. named_forth tree tree' g at alike same_name parent name number (held.named parent name number found))
      (λ parent name number is. held.found parent name number (named_back tree tree' g at alike same_name parent name number is)) ordered versions

-- the node of a number as it is changed
abbrev pub picked : ℕ → (HeldNode → HeldNode) → ℕ → HeldNode → HeldNode
picked number f q n = if q == number then f n else n

pub by_pick : (P : HeldNode → Type 0) (number : ℕ) (f : HeldNode → HeldNode) (q : ℕ) (n : HeldNode) → (q ≡ number → P (f n)) → P n → P (picked number f q n)
by_pick P number f q n here other = step (q == number) refl
  where
    step : (b : Bool) → (q == number) ≡ b → P (if q == number then f n else n)
    step true b = rw b (here (eqb-true q number b))
    step false b = rw b other

pub sorted_edit : (tree : HeldTree) (number : ℕ) (f : HeldNode → HeldNode) → IsStrictlySortedBy nat_cmp (keys_of tree.nodes) → IsStrictlySortedBy nat_cmp (keys_of (edited_nodes tree.nodes number f))
sorted_edit tree number f sorted = subst (IsStrictlySortedBy nat_cmp) (sym (keys_edit number f tree.nodes)) sorted

-- a node that keeps its directory, its name and what it is
pub held_edited : (names : Names) (tree : HeldTree) (number : ℕ) (f : HeldNode → HeldNode) → IsHeld names tree
    → ((n : HeldNode) → node_of tree number ≡ Some n → IsAlike n (f n)) → ((n : HeldNode) → (f n).kept.name ≡ n.kept.name)
    → ((n : HeldNode) → node_of tree number ≡ Some n → (f n).version < 2 ^ 32) → IsHeld names (edited tree number f)
held_edited names tree number f held alike same_name versions =
    held_alike names tree (edited tree number f) held (picked number f)
    (λ q. lookup_edit q number f tree.nodes) refl
    (λ q n there. by_pick (λ n'. IsAlike n n') number f q n (λ e. alike n (ap (node_of tree) (sym e) ∙ there)) (record { parent = refl; folder = refl }))
    (λ q n there. by_pick (λ n'. n'.kept.name ≡ n.kept.name) number f q n (λ e. same_name n) refl) (sorted_edit tree number f held.ordered)
    (λ q n there. by_pick (λ n'. n'.version < 2 ^ 32) number f q n (λ e. versions n (ap (node_of tree) (sym e) ∙ there)) (held.versions q n there))

-- one change more
pub held_changed : (names : Names) (tree : HeldTree) (number now : ℕ) → IsHeld names tree → IsHeld names (edited tree number (changed_node now))
held_changed names tree number now held =
    held_edited names tree number (changed_node now) held (λ n there. record { parent = refl; folder = refl }) (λ n. refl) (λ n there. omega arith)

pub held_dated : (names : Names) (tree : HeldTree) (number modified : ℕ) → IsHeld names tree → IsHeld names (edited tree number (dated_node modified))
held_dated names tree number modified held =
    held_edited names tree number (dated_node modified) held (λ n there. record { parent = refl; folder = refl }) (λ n. refl)
    (λ n there. held.versions number n there)

no_folder : (what : What) → IsFile what → (size : ℕ) → folder_in (KeptFile size) ≡ folder_in what
no_folder (KeptFile old) is size = refl
no_folder (KeptLink old) is size = refl
no_folder (KeptDir identifier folder) is size = absurd is
no_folder (KeptBad text) is size = refl

pub held_sized : (names : Names) (tree : HeldTree) (number size : ℕ) → IsHeld names tree → ((n : HeldNode) → node_of tree number ≡ Some n → IsFile n.kept.what)
    → IsHeld names (edited tree number (sized_node size))
held_sized names tree number size held written =
    held_edited names tree number (sized_node size) held (λ n there. record { parent = refl; folder = no_folder n.kept.what (written n there) size }) (λ n. refl)
    (λ n there. held.versions number n there)

-- ---- another name

module _ (names mid new : Names) (tree : HeldTree) (number : ℕ) (name entry : List ℕ) (long : Bool) (held : IsHeld names tree) (node : HeldNode) (there : node_of tree number ≡ Some node)
    (below : number ≢ root) (free : IsFree tree node.kept.parent name) (put : IsSet names mid node.kept.parent name (Some number)) (taken : IsSet mid new node.kept.parent node.kept.name None) where
  abbrev after : HeldTree
  after = edited tree number (renamed_node name entry long)

  abbrev pick : ℕ → HeldNode → HeldNode
  pick = picked number (renamed_node name entry long)

  at_after : (q : ℕ) → node_of after q ≡ option_map (pick q) (node_of tree q)
  at_after q = lookup_edit q number (renamed_node name entry long) tree.nodes

  there_after : (q : ℕ) (n : HeldNode) → node_of tree q ≡ Some n → node_of after q ≡ Some (pick q n)
  there_after q n is = at_after q ∙ ap (option_map (pick q)) is

  pick_here : (n : HeldNode) → pick number n ≡ renamed_node name entry long n
  pick_here n = ap (λ b. if b then renamed_node name entry long n else n) (eq-eqb number number refl)

  pick_other : (q : ℕ) (n : HeldNode) → q ≢ number → pick q n ≡ n
  pick_other q n apart = ap (λ b. if b then renamed_node name entry long n else n) (ne_eqb q number apart)

  own : IsNamed tree node.kept.parent node.kept.name number
  own = record { node = node; child = record { there = there; below = below; inside = refl }; named = refl }

  new_named : IsNamed after node.kept.parent name number
  new_named = record {
    node = renamed_node name entry long node;
    child = record { there = there_after number node there ∙ ap Some (pick_here node); below = below; inside = refl };
    named = refl;
  }

  other_named : (p : ℕ) (n : List ℕ) (k : ℕ) → k ≢ number → IsNamed tree p n k → IsNamed after p n k
  other_named p n k apart is = record {
    node = is.node;
    child = record { there = there_after k is.node is.child.there ∙ ap Some (pick_other k is.node apart); below = is.child.below; inside = is.child.inside };
    named = is.named;
  }

  named_of : (p : ℕ) (n : List ℕ) (k : ℕ) (b d : Bool) → is_place node.kept.parent node.kept.name p n ≡ b → is_place node.kept.parent name p n ≡ d
      → cond b None (cond d (Some number) (number_at names p n)) ≡ Some k → IsNamed after p n k
  named_of p n k true d old now at = absurd cc
  named_of p n k false true old now at =
      let this = place_is node.kept.parent name p n now in
      let e : number ≡ k = cc in
      rw (← e, ← this.parents, ← this.names) new_named
  named_of p n k false false old now at =
      let is = held.named p n k at in
      other_named p n k
      (λ same.
      let mine : is.node ≡ node = (let e : node_of tree number ≡ Some is.node = ap (node_of tree) (sym same) ∙ is.child.there in cc (e, there)) in
      let up : node.kept.parent ≡ p = ap (λ (x : HeldNode). x.kept.parent) (sym mine) ∙ is.child.inside in
      let called : node.kept.name ≡ n = ap (λ (x : HeldNode). x.kept.name) (sym mine) ∙ is.named in
      true≢false (sym (place_true node.kept.parent node.kept.name) ∙ ap₂ (λ (p : ℕ) (n : List ℕ). is_place node.kept.parent node.kept.name p n) up called ∙ old))
      is

  -- the node of the number itself
  found_here : (p : ℕ) (n : List ℕ) → node.kept.parent ≡ p → name ≡ n → (b : Bool) → is_place node.kept.parent node.kept.name p n ≡ b
      → cond b None (cond (is_place node.kept.parent name p n) (Some number) (number_at names p n)) ≡ Some number
  found_here p n up called true old =
      let this = place_is node.kept.parent node.kept.name p n old in
      let same : node.kept.name ≡ name = this.names ∙ sym called in
      absurd (free number (subst (λ (x : List ℕ). IsNamed tree node.kept.parent x number) same own))
  found_here p n up called false old =
      ap (λ b. cond b (Some number) (number_at names p n)) (ap₂ (λ (p : ℕ) (n : List ℕ). is_place node.kept.parent name p n) (sym up) (sym called) ∙ place_true node.kept.parent name)

  found_other : (p : ℕ) (n : List ℕ) (k : ℕ) → k ≢ number → IsNamed tree p n k → (b d : Bool) → is_place node.kept.parent node.kept.name p n ≡ b → is_place node.kept.parent name p n ≡ d
      → cond b None (cond d (Some number) (number_at names p n)) ≡ Some k
  found_other p n k apart is true d old now =
      let this = place_is node.kept.parent node.kept.name p n old in
      let mine = held.found node.kept.parent node.kept.name number own in
      let at : number_at names node.kept.parent node.kept.name ≡ Some k = ap₂ (λ (p : ℕ) (n : List ℕ). number_at names p n) this.parents this.names ∙ held.found p n k is in
      absurd (apart (cc (at, mine)))
  found_other p n k apart is false true old now =
      let this = place_is node.kept.parent name p n now in
      absurd (free k (rw (this.parents, this.names) is))
  found_other p n k apart is false false old now = held.found p n k is

  at_new : (p : ℕ) (n : List ℕ) → number_at new p n ≡ cond (is_place node.kept.parent node.kept.name p n) None (cond (is_place node.kept.parent name p n) (Some number) (number_at names p n))
  at_new p n = taken.numbers p n ∙ ap (cond (is_place node.kept.parent node.kept.name p n) None) (put.numbers p n)

  found_of : (p : ℕ) (n : List ℕ) (k : ℕ) (is : IsNamed after p n k) → Came tree k (pick k) is.node → (b : Bool) → (k == number) ≡ b
      → cond (is_place node.kept.parent node.kept.name p n) None (cond (is_place node.kept.parent name p n) (Some number) (number_at names p n)) ≡ Some k
  found_of p n k is from true b =
      let same = eqb-true k number b in
      let mine : from.node ≡ node = (let e : node_of tree number ≡ Some from.node = ap (node_of tree) (sym same) ∙ from.there in cc (e, there)) in
      let got : is.node ≡ renamed_node name entry long node = from.is ∙ ap (λ (q : ℕ). pick q from.node) same ∙ pick_here from.node ∙ ap (renamed_node name entry long) mine in
      found_here p n (ap (λ (x : HeldNode). x.kept.parent) (sym got) ∙ is.child.inside) (ap (λ (x : HeldNode). x.kept.name) (sym got) ∙ is.named)
      (is_place node.kept.parent node.kept.name p n) refl
      ∙ ap Some (sym same)
  found_of p n k is from false b =
      let apart : k ≢ number = (λ e. true≢false (sym (eq-eqb k number e) ∙ b)) in
      let got : is.node ≡ from.node = from.is ∙ pick_other k from.node apart in
      found_other p n k apart
      (record {
        node = from.node;
        child = record { there = from.there; below = is.child.below; inside = ap (λ (x : HeldNode). x.kept.parent) (sym got) ∙ is.child.inside };
        named = ap (λ (x : HeldNode). x.kept.name) (sym got) ∙ is.named;
      })
      (is_place node.kept.parent node.kept.name p n) (is_place node.kept.parent name p n) refl refl

  pub held_renamed : IsHeld new (edited tree number (renamed_node name entry long))
  held_renamed =
      held_by names tree after held pick at_after refl
      (λ q n is. by_pick (λ n'. IsAlike n n') number (renamed_node name entry long) q n (λ e. record { parent = refl; folder = refl }) (record { parent = refl; folder = refl }))
      new (λ q is. taken.directories q ∙ put.directories q ∙ is)
      (λ p n k at. named_of p n k (is_place node.kept.parent node.kept.name p n) (is_place node.kept.parent name p n) refl refl (sym (at_new p n) ∙ at))
      (λ p n k is. at_new p n ∙ found_of p n k is (came_from tree k (pick k) is.node (node_of tree k) refl (sym (at_after k) ∙ is.child.there)) (k == number) refl)
      (sorted_edit tree number (renamed_node name entry long) held.ordered)
      (λ q n is. by_pick (λ n'. n'.version < 2 ^ 32) number (renamed_node name entry long) q n (λ e. held.versions q n is) (held.versions q n is))
