-- A tree as it was loaded holds the tree of its disk.
use Rattle.std.specs.Prelude.{T, is_some}
use Rattle.std.proofs.Common.{◌≡◌, ◌≢◌, ◌↔◌, ◌<◌, ℕ, zero, suc, List, [], ◌∷◌, length, Option, Some, None, IsTrue, slice_get, refl, sym, ap, ap₂, ◌∙◌, subst, arith, true≢false}
use Rattle.std.proofs.lemmas.Option.{slice_get_within}
use Rattle.std.specs.Cmp.{nat_cmp_is}
use Rattle.std.specs.declared.cmp.Ordering.TheVariants.{Less, Equal, Greater}
use Rattle.std.specs.Ordering.{nat_cmp, ordering_reverse}
use Rattle.std.specs.Option.{option_map, option_and_then}
use Rattle.std.specs.FinMap.{get, entries, get-entries, entries_sorted}
use Rattle.std.specs.FinMap.Entries.{is_sorted, below_all}
use Rattle.std.specs.List.{AllByRecursion}
use Rattle.std.specs.List.Sorted.{IsStrictlySortedBy}
use Rattle.std.specs.Map.{keys_of}
use Rattle.outside.specs.Disk.{Disk, Node as Thing, IsTree as IsDiskTree}
use Rattle.tree_model.specs.Rows.{Content, root}
use Rattle.clear_tree.specs.Walk.{Path, walk_cmp, Sealing, Node, Dir, node_at}
use Rattle.clear_tree.specs.Places.{folders_of, entry_at}
use Rattle.clear_tree.specs.Rows.{number_of}
use Rattle.clear_tree.specs.Kept.{KeptNode, KeptTree, IsKept, kept_node, is_absent, long_in, long_by, entry_in, folder_in, path_in, size_in, AreContents, path_of as kept_path, size_of as kept_size, parent_folder as kept_folder}
use Rattle.clear_tree.proofs.Keeping.{first_true, second_true, below_at, find_at, number_at, number_is, first_zero, kept_at}
use Rattle.clear_tree.proofs.Paths.{walk_itself}
use Rattle.clear_tree.proofs.Unique.{walk_antisymm}
use Rattle.tree_deed_laws.specs.Trees.{Tree, IsTreeOf}
use Rattle.tree_deed_laws.proofs.Exact.{parent_there}
use Rattle.tree_deed_laws.proofs.Held.{entries_are_of_places}
use Rattle.tree_deed_laws.proofs.Seeing.{some_there}
use Rattle.live_tree.specs.Held.{HeldNode, HeldTree, node_of, unchanged_node, numbered, path_of, size_of, parent_folder, IsNamed, IsTree, HasParent}
use Rattle.live_tree.proofs.Loading.{numbered_at}
use Rattle.live_tree_laws.specs.Holds.{IsAt, IsHeldAs, Holds}
use Rattle.live_tree_laws.specs.Found.{AreLiveContents}
use Rattle.live_tree_laws.specs.Loading.{loaded_tree, IsLoaded, LoadingHolds}
use Rattle.live_tree_laws.proofs.Files.{contents_are_held}

abbrev Entry : Type 0
Entry = Path × Node

-- ---- numbers in a sorted list

-- what is before in the walk's order has a lower number
lower : (es : List Entry) (i j : ℕ) (a b : Entry) → T (is_sorted walk_cmp es) → slice_get es i ≡ Some a → slice_get es j ≡ Some b → walk_cmp a.0 b.0 ≡ Less → i < j
lower [] i j a b h x y less = absurd (cc)
lower (f ∷ es) zero zero a b h x y less =
    let z : ◌≡◌ {A = Option Entry} (Some a) (Some b) = sym x ∙ y in
    let same : a ≡ b = cc in
    let both : Less ≡ Equal = sym less ∙ ap (λ (w : Entry). walk_cmp w.0 b.0) same ∙ walk_itself b.0 in absurd (cc)
lower (f ∷ es) zero (suc j) a b h x y less = omega arith
lower (f ∷ es) (suc i) zero a b h x y less =
    let is : f ≡ b = cc in
    let other : walk_cmp b.0 a.0 ≡ Less = subst (λ (z : Entry). walk_cmp z.0 a.0 ≡ Less) is (below_at f.0 es i a (first_true _ _ h) x) in
    let both : Less ≡ Greater = sym less ∙ walk_antisymm a.0 b.0 ∙ ap ordering_reverse other in absurd (cc)
lower (f ∷ es) (suc i) (suc j) a b h x y less = let rest : i < j = lower es i j a b (second_true (below_all walk_cmp f.0 es) (is_sorted walk_cmp es) h) x y less in omega (arith, rest)

-- a parent is before its child
parent_first : (n : List ℕ) (p : Path) → walk_cmp p (n ∷ p) ≡ Less
parent_first n [] = refl
parent_first n (m ∷ p) = rw (parent_first m p) refl

-- ---- nodes that were numbered

all_above : (unlocked low from : ℕ) (ns : List KeptNode) → low < from → AllByRecursion (λ (y : ℕ). nat_cmp low y ≡ Less) (keys_of (numbered unlocked from ns))
all_above unlocked low from [] less = tt
all_above unlocked low from (y ∷ ns) less = (sym (nat_cmp_is low from Less less), all_above unlocked low (suc from) ns (omega (arith, less)))

sorted_numbered : (unlocked from : ℕ) (ns : List KeptNode) → IsStrictlySortedBy nat_cmp (keys_of (numbered unlocked from ns))
unfolding IsStrictlySortedBy
sorted_numbered unlocked from [] = tt
sorted_numbered unlocked from (y ∷ ns) = (all_above unlocked from (suc from) ns (omega arith), sorted_numbered unlocked (suc from) ns)

node_loaded : (unlocked : ℕ) (kept : KeptTree) (q : ℕ) → node_of (loaded_tree unlocked kept) q ≡ option_map (unchanged_node unlocked) (slice_get kept.nodes q)
node_loaded unlocked kept q = numbered_at unlocked 0 q q kept.nodes (omega arith)

absent : (o : Option Thing) → IsTrue (is_absent o) ↔ (o ≡ None)
absent None = ((λ h. refl), (λ h. refl))
absent (Some x) = ((λ h. absurd (true≢false (sym h))), (λ h. absurd (some_there _ _ refl h)))

mapped : {A B : Type 0} (f : A → B) (o : Option A) (y : B) → option_map f o ≡ Some y → (x : A) × (o ≡ Some x) × (y ≡ f x)
mapped f None y h = absurd (cc)
mapped f (Some x) y h = (x, refl, cc)

module _ (s : Sealing) (d : Disk) (kept : KeptTree) (unlocked : ℕ) (is : IsKept s d kept) (host : IsDiskTree d) where
  abbrev tree : Tree
  tree = record { nodes = is.nodes; marks = is.marks; long = long_by s d is.nodes }

  of_disk : IsTreeOf s d tree
  of_disk = record {
    owner = is.owner;
    host = host;
    there = is.there;
    first = is.first;
    exact = is.exact;
    marked = is.marked;
    placed = λ n p i x at there. subst (λ (o : Option Node). IsTrue (long_in s d o n) ↔ (entry_at s d (s.folder_of i) (s.seal i n) ≡ None)) (sym at) (absent _);
  }

  abbrev live : HeldTree
  live = loaded_tree unlocked kept

  abbrev es : List Entry
  es = entries is.nodes

  sorted : T (is_sorted walk_cmp es)
  sorted = entries_sorted is.nodes

  abbrev held_of : Entry → HeldNode
  held_of e = unchanged_node unlocked (kept_node s d is.nodes is.marks e)

  node_is : (k : ℕ) → node_of live k ≡ option_map (unchanged_node unlocked) (option_map (kept_node s d is.nodes is.marks) (slice_get es k))
  node_is k = node_loaded unlocked kept k ∙ ap (option_map (unchanged_node unlocked)) (ap (λ (z : List KeptNode). slice_get z k) is.kept ∙ kept_at s d is.nodes is.marks es k)

  held_at : (k : ℕ) (e : Entry) → slice_get es k ≡ Some e → node_of live k ≡ Some (held_of e)
  held_at k e h = node_is k ∙ ap (λ (o : Option Entry). option_map (unchanged_node unlocked) (option_map (kept_node s d is.nodes is.marks) o)) h

  entry_of_node : (k : ℕ) (held : HeldNode) → node_of live k ≡ Some held → (e : Entry) × (slice_get es k ≡ Some e) × (held ≡ held_of e)
  entry_of_node k held h =
      let outer = mapped (unchanged_node unlocked) (option_map (kept_node s d is.nodes is.marks) (slice_get es k)) held (sym (node_is k) ∙ h) in
      let inner = mapped (kept_node s d is.nodes is.marks) (slice_get es k) outer.0 outer.1 in
      (inner.0, inner.1, outer.2 ∙ ap (unchanged_node unlocked) inner.2)

  got : (k : ℕ) (e : Entry) → slice_get es k ≡ Some e → get is.nodes e.0 ≡ Some e.1
  got k e h = get-entries is.nodes e.0 ∙ find_at es k e.0 e.1 sorted h

  number_got : (p : Path) (x : Node) → get is.nodes p ≡ Some x → slice_get es (number_of es p) ≡ Some (p, x)
  number_got p x h = number_at es p x (sym (get-entries is.nodes p) ∙ h)

  one_path : (p q : Path) (x y : Node) → get is.nodes p ≡ Some x → get is.nodes q ≡ Some y → number_of es p ≡ number_of es q → p ≡ q
  one_path p q x y hp hq e =
      let w : ◌≡◌ {A = Option Entry} (Some (p, x)) (Some (q, y)) = sym (number_got p x hp) ∙ ap (slice_get es) e ∙ number_got q y hq in
      let pair : ◌≡◌ {A = Entry} (p, x) (q, y) = cc in
      ap (λ (z : Entry). z.0) pair

  root_there : get is.nodes [] ≡ Some (Dir [])
  unfolding node_at
  root_there = is.exact []

  root_number : number_of es [] ≡ root
  root_number = first_zero es (number_of es []) (Dir []) sorted (number_got [] (Dir []) root_there)

  parent_dir : (n : List ℕ) (q : Path) (x : Node) → get is.nodes (n ∷ q) ≡ Some x → (i : List ℕ) × (get is.nodes q ≡ Some (Dir i))
  parent_dir n q x h = let up = parent_there s (folders_of s d) is.owner q n x (sym (is.exact (n ∷ q)) ∙ h) in (up.0, is.exact q ∙ up.1)

  -- ---- it is a tree

  record Child (k : ℕ) (held : HeldNode) : Type 0 where
    name : List ℕ
    above : Path
    node : Node
    at : slice_get es k ≡ Some (name ∷ above, node)
    form : held ≡ held_of (name ∷ above, node)

  child : (k : ℕ) (held : HeldNode) → k ≢ root → node_of live k ≡ Some held → Child k held
  child k held below there = go (entry_of_node k held there)
    where
      go : (e : Entry) × (slice_get es k ≡ Some e) × (held ≡ held_of e) → Child k held
      go (([], x), at, form) = absurd (below (sym (number_is es k ([], x) sorted at) ∙ root_number))
      go ((n ∷ q, x), at, form) = record { name = n; above = q; node = x; at = at; form = form }

  parents : (k : ℕ) (held : HeldNode) → node_of live k ≡ Some held → k ≢ root → HasParent live k held
  parents k held there below =
      let c = child k held below there in
      let up = parent_dir c.name c.above c.node (got k (c.name ∷ c.above, c.node) c.at) in
      let at_up = number_got c.above (Dir up.0) up.1 in
      let inside : held.kept.parent ≡ number_of es c.above = ap (λ (z : HeldNode). z.kept.parent) c.form in
      let low = lower es (number_of es c.above) k (c.above, Dir up.0) (c.name ∷ c.above, c.node) sorted at_up c.at (parent_first c.name c.above) in
      record {
        before = omega (arith, low, inside);
        folder = ap is_some
            (ap (λ (z : ℕ). option_and_then (λ (parent : HeldNode). folder_in parent.kept.what) (node_of live z)) inside
            ∙ ap (option_and_then (λ (parent : HeldNode). folder_in parent.kept.what)) (held_at (number_of es c.above) (c.above, Dir up.0) at_up));
      }

  within : (k : ℕ) (held : HeldNode) → node_of live k ≡ Some held → k < length kept.nodes
  within k held there =
      let outer = mapped (unchanged_node unlocked) (slice_get kept.nodes k) held (sym (node_loaded unlocked kept k) ∙ there) in
      slice_get_within kept.nodes k outer.0 outer.1

  names : (a : ℕ) (n : List ℕ) (x y : ℕ) → IsNamed live a n x → IsNamed live a n y → x ≡ y
  names a n x y h g =
      let c = child x h.node h.child.below h.child.there in
      let e = child y g.node g.child.below g.child.there in
      let up = parent_dir c.name c.above c.node (got x (c.name ∷ c.above, c.node) c.at) in
      let up' = parent_dir e.name e.above e.node (got y (e.name ∷ e.above, e.node) e.at) in
      let numbers : number_of es c.above ≡ number_of es e.above =
      ap (λ (z : HeldNode). z.kept.parent) (sym c.form) ∙ h.child.inside ∙ sym g.child.inside ∙ ap (λ (z : HeldNode). z.kept.parent) e.form in
      let above : c.above ≡ e.above = one_path c.above e.above (Dir up.0) (Dir up'.0) up.1 up'.1 numbers in
      let name : c.name ≡ e.name = ap (λ (z : HeldNode). z.kept.name) (sym c.form) ∙ h.named ∙ sym g.named ∙ ap (λ (z : HeldNode). z.kept.name) e.form in
      sym (number_is es x (c.name ∷ c.above, c.node) sorted c.at) ∙ ap₂ (λ (m : List ℕ) (q : Path). number_of es (m ∷ q)) name above ∙ number_is es y (e.name ∷ e.above, e.node) sorted e.at

  root_entry : slice_get es root ≡ Some ([], Dir [])
  root_entry = ap (slice_get es) (sym root_number) ∙ number_got [] (Dir []) root_there

  is_tree : IsTree live
  is_tree = record {
    ordered = sorted_numbered unlocked 0 kept.nodes;
    first = (held_of ([], Dir []), record { there = held_at root ([], Dir []) root_entry; own = refl; folder = refl });
    parents = parents;
    numbers = within;
    versions = λ k held there. let e = entry_of_node k held there in let zero_is : held.version ≡ 0 = ap (λ (z : HeldNode). z.version) e.2 in omega (arith, zero_is);
    names = names;
  }

  -- ---- paths and numbers

  to_number : (p : Path) (x : Node) → get is.nodes p ≡ Some x → IsAt live p (number_of es p)
  to_number [] x h = root_number
  to_number (n ∷ q) x h =
      let up = parent_dir n q x h in (
        number_of es q,
        to_number q (Dir up.0) up.1,
        record {
          node = held_of (n ∷ q, x);
          child = record {
            there = held_at (number_of es (n ∷ q)) (n ∷ q, x) (number_got (n ∷ q) x h);
            below = λ e. (let z : n ∷ q ≡ [] = one_path (n ∷ q) [] x (Dir []) h root_there (e ∙ sym root_number) in cc);
            inside = refl;
          };
          named = refl;
        },
      )

  from_number : (p : Path) (k : ℕ) → IsAt live p k → (x : Node) × (get is.nodes p ≡ Some x) × (slice_get es k ≡ Some (p, x))
  from_number [] k h = (Dir [], root_there, ap (slice_get es) h ∙ root_entry)
  from_number (n ∷ q) k h =
      let up = from_number q h.0 h.1 in
      let c = child k h.2.node h.2.child.below h.2.child.there in
      let above = parent_dir c.name c.above c.node (got k (c.name ∷ c.above, c.node) c.at) in
      let numbers : number_of es c.above ≡ number_of es q = ap (λ (z : HeldNode). z.kept.parent) (sym c.form) ∙ h.2.child.inside ∙ sym (number_is es h.0 (q, up.0) sorted up.2) in
      let eq : c.above ≡ q = one_path c.above q (Dir above.0) up.0 above.1 up.1 numbers in
      let name : c.name ≡ n = ap (λ (z : HeldNode). z.kept.name) (sym c.form) ∙ h.2.named in
      let path : c.name ∷ c.above ≡ n ∷ q = ap₂ (λ (m : List ℕ) (w : Path). m ∷ w) name eq in
      let at : slice_get es k ≡ Some (n ∷ q, c.node) = c.at ∙ ap (λ (w : Path). Some (w, c.node)) path in
      (c.node, got k (n ∷ q, c.node) at, at)

  held_as : (p : Path) (x : Node) → get is.nodes p ≡ Some x → IsHeldAs s tree p x (held_of (p, x))
  held_as [] x h = record { what = refl; place = tt; foreign = refl; shadowed = refl }
  held_as (n ∷ q) x h = record {
    what = refl;
    place = λ i dir. record {
      entry = ap (λ (o : Option Node). entry_in s d o n) dir ∙ entries_are_of_places s d tree q i n x of_disk dir h;
      long = refl;
    };
    foreign = refl;
    shadowed = refl;
  }

  holds_loaded : Holds s tree live
  holds_loaded = record {
    is_tree = is_tree;
    nodes_of = λ p k at. let it = from_number p k at in record { node = it.0; held = held_of (p, it.0); at = it.1; there = held_at k (p, it.0) it.2; is = held_as p it.0 it.1 };
    numbers_of = λ p x h. record { number = number_of es p; at = to_number p x h };
    twice = is.twice;
  }

  -- ---- contents

  folder_same : (node : KeptNode) → parent_folder live node ≡ kept_folder kept node
  folder_same node = ap (option_and_then (λ (parent : HeldNode). folder_in parent.kept.what)) (node_loaded unlocked kept node.parent) ∙ go (slice_get kept.nodes node.parent)
    where
      go : (o : Option KeptNode) → option_and_then (λ (parent : HeldNode). folder_in parent.kept.what) (option_map (unchanged_node unlocked) o) ≡ option_and_then (λ (parent : KeptNode). folder_in parent.what) o
      go None = refl
      go (Some x) = refl

  path_same : (k : ℕ) → path_of live k ≡ kept_path kept k
  path_same k = ap (option_and_then (λ (node : HeldNode). option_and_then (path_in node.kept node.kept.what) (parent_folder live node.kept))) (node_loaded unlocked kept k) ∙ go (slice_get kept.nodes k)
    where
      go : (o : Option KeptNode) → option_and_then (λ (node : HeldNode). option_and_then (path_in node.kept node.kept.what) (parent_folder live node.kept)) (option_map (unchanged_node unlocked) o)
          ≡ option_and_then (λ (node : KeptNode). option_and_then (path_in node node.what) (kept_folder kept node)) o
      go None = refl
      go (Some x) = ap (option_and_then (path_in x x.what)) (folder_same x)

  size_same : (k : ℕ) → size_of live k ≡ kept_size kept k
  size_same k = ap (option_and_then (λ (node : HeldNode). size_in node.kept.what)) (node_loaded unlocked kept k) ∙ go (slice_get kept.nodes k)
    where
      go : (o : Option KeptNode) → option_and_then (λ (node : HeldNode). size_in node.kept.what) (option_map (unchanged_node unlocked) o) ≡ option_and_then (λ (node : KeptNode). size_in node.what) o
      go None = refl
      go (Some x) = refl

  live_contents : (contents : ℕ → Content) → AreContents s d kept contents ↔ AreLiveContents s d live contents
  live_contents contents = (
    (λ are. record {
      files = λ k path h. are.files k path (sym (path_same k) ∙ h);
      sizes = λ k size path bytes h g there. are.sizes k size path bytes (sym (path_same k) ∙ h) (sym (size_same k) ∙ g) there;
    }),
    (λ are. record {
      files = λ k path h. are.files k path (path_same k ∙ h);
      sizes = λ k size path bytes h g there. are.sizes k size path bytes (path_same k ∙ h) (size_same k ∙ g) there;
    }),
  )

  pub is_loaded : IsLoaded s d kept unlocked
  is_loaded = record {
    tree = tree;
    is = of_disk;
    holds = holds_loaded;
    contents = λ contents.
        let kept_live = live_contents contents in
        let held_live = contents_are_held s d tree live contents of_disk holds_loaded in
        ((λ are. held_live.1 (kept_live.0 are)), (λ are. kept_live.1 (held_live.0 are)));
  }

pub loading_holds : LoadingHolds
loading_holds s d kept unlocked is host = is_loaded s d kept unlocked is host
