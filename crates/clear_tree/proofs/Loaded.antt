-- A load whose walk has ended keeps the disk.
use Rattle.std.specs.Prelude.{T}
use Rattle.std.proofs.Common.{◌≡◌, ◌≢◌, ◌↔◌, ℕ, zero, suc, ◌<◌, ◌≤◌, Bool, true, false, cond, ◌&&◌, List, [], ◌∷◌, ◌++◌, append-nil, length, length-append, ◌+◌, Option, Some, None, IsTrue, refl, sym, ap, ◌∙◌, subst, inl, inr, ◌⊎◌, arith, slice_get, true≢false}
use Rattle.std.specs.declared.cmp.Ordering.{Ordering}
use Rattle.std.specs.declared.cmp.Ordering.TheVariants.{Less, Equal}
use Rattle.std.specs.FinMap as finmap
use Rattle.std.specs.FinMap.Entries.{is_sorted, below_all, find}
use Rattle.std.specs.Ordering.{is_lt}
use Rattle.std.specs.Option.{option_map}
use Rattle.std.proofs.lemmas.Option.{slice_get_within, slice_get_past}
use Rattle.std.proofs.lemmas.Bool.{cases_lt}
use Rattle.outside.specs.Disk.{Disk, IsFolder}
use Rattle.clear_tree.specs.Walk.{Path, same_path, walk_cmp, Sealing, Folders, Node, Dir, node_at, claimed}
use Rattle.clear_tree.specs.Places.{folders_of, host_folder}
use Rattle.clear_tree.specs.Marks.{Marks, AreMarks, HasForeign, IsShadowedIn, IsShadowed, NamedTwice}
use Rattle.clear_tree.specs.Queue.{Row, In, Ascending, IsWalk}
use Rattle.clear_tree.specs.Rows as rows_specs
use Rattle.clear_tree.specs.Kept.{KeptNode, KeptTree, IsKept, kept_node, kept_nodes, entry_in, long_in}
use Rattle.clear_tree.specs.Loading.{IsKeptRow, NamesTwice, AreLoaded, LoadingEnds}
use Rattle.clear_tree.proofs.Places.{in_at, at_in, get_there, same_lists}
use Rattle.clear_tree.proofs.Paths.{walk_itself, same_path-itself, same_path-true}
use Rattle.clear_tree.proofs.Queue.{row_cmp, Walked, walked, owner_of, walk_owner, row_sound, row_complete}
use Rattle.clear_tree.proofs.Keeping.{find_at, number_at, kept_at, length-kept}

abbrev Entry : Type 0
Entry = Path × Node

-- ---- rows that ascend are entries of a map

both_true : (a b : Bool) → T a → T b → T (a && b)
both_true true b p q = q
both_true false b p q = p

below_from : (p : Path) (es : List Row) → ((e : Row) → In e es → walk_cmp p e.0 ≡ Less) → T (below_all walk_cmp p es)
below_from p [] h = tt
below_from p (e ∷ es) h = both_true _ _ (subst (λ (o : Ordering). T (is_lt o)) (sym (h e (inl refl))) tt) (below_from p es (λ f i. h f (inr i)))

pub sorted_from : (es : List Row) → Ascending row_cmp es → T (is_sorted walk_cmp es)
sorted_from [] h = tt
sorted_from (e ∷ es) h = both_true _ _ (below_from e.0 es h.0) (sorted_from es h.1)

-- in an ascending list a path has one number
pub number_one : (es : List Row) → Ascending row_cmp es → (k : ℕ) (e : Row) → slice_get es k ≡ Some e → rows_specs.number_of es e.0 ≡ k
number_one [] a k e h = absurd (cc)
number_one (f ∷ es) a zero e h =
    let is : f ≡ e = cc in
    ap (λ (b : Bool). cond b 0 (suc (rows_specs.number_of es e.0))) (ap (λ (z : Row). same_path z.0 e.0) is ∙ same_path-itself e.0)
number_one (f ∷ es) a (suc k) e h = go (same_path f.0 e.0) refl (number_one es a.1 k e h)
  where
    go : (b : Bool) → same_path f.0 e.0 ≡ b → rows_specs.number_of es e.0 ≡ k → cond b 0 (suc (rows_specs.number_of es e.0)) ≡ suc k
    go true is n =
        let less : walk_cmp f.0 e.0 ≡ Less = a.0 e (in_at es k e h) in
        let same : walk_cmp f.0 e.0 ≡ Equal = ap (λ (z : Path). walk_cmp z e.0) (same_path-true f.0 e.0 is) ∙ walk_itself e.0 in
        absurd (cc)
    go false is n = ap suc n

-- a path that no row has
none_number : (es : List Row) (p : Path) → ((x : Node) → In (p, x) es → ⊥) → rows_specs.number_of es p ≡ length es
none_number [] p h = refl
none_number (e ∷ es) p h = go (same_path e.0 p) refl (none_number es p (λ x i. h x (inr i)))
  where
    go : (b : Bool) → same_path e.0 p ≡ b → rows_specs.number_of es p ≡ length es → cond b 0 (suc (rows_specs.number_of es p)) ≡ length (e ∷ es)
    go true is n = absurd (h e.1 (inl (ap (λ (z : Path). (z, e.1)) (sym (same_path-true e.0 p is)))))
    go false is n = ap suc n

-- ---- the marks that are kept

foreign_in : Option KeptNode → Bool
foreign_in None = false
foreign_in (Some node) = node.foreign

shadowed_in : Option KeptNode → Bool
shadowed_in None = false
shadowed_in (Some node) = node.shadowed

not_true : {P : Type 0} (b : Bool) → b ≡ false → ¬ P → IsTrue b ↔ P
not_true b e h = ((λ t. absurd (true≢false (sym t ∙ e))), (λ p. absurd (h p)))

module _ (s : Sealing) (d : Disk) (tree : KeptTree) (claims : List ℕ → Bool) (there : IsFolder d (host_folder (s.folder_of [])))
    (es : List Row) (w : Walked s (folders_of s d) es []) (loaded : AreLoaded s d es (length es) tree claims) where
  abbrev v : Folders
  v = folders_of s d

  abbrev owner : List ℕ → Path
  owner = owner_of s v es

  abbrev at : Path → Option Node
  at = node_at s v owner

  ascend : Ascending row_cmp es
  ascend = subst (Ascending row_cmp) (append-nil es) w.ascending

  nodes : rows_specs.Nodes
  nodes = finmap.from_sorted es

  entries-nodes : finmap.entries nodes ≡ es
  unfolding nodes
  entries-nodes = finmap.entries-from_sorted walk_cmp es (sorted_from es ascend)

  get-nodes : (p : Path) → finmap.get nodes p ≡ find walk_cmp p es
  unfolding nodes
  get-nodes p = finmap.get-from_sorted walk_cmp es p (sorted_from es ascend)

  found : (k : ℕ) (p : Path) (x : Node) → slice_get es k ≡ Some (p, x) → finmap.get nodes p ≡ Some x
  found k p x h = get-nodes p ∙ find_at es k p x (sorted_from es ascend) h

  sound : (k : ℕ) (p : Path) (x : Node) → slice_get es k ≡ Some (p, x) → at p ≡ Some x
  sound k p x h = row_sound s v es w p x (in_at es k (p, x) h)

  placed : (p : Path) (x : Node) → at p ≡ Some x → (k : ℕ) × (slice_get es k ≡ Some (p, x))
  placed p x h = at_in es (p, x) (row_complete s v es w p x h)

  absent : (p : Path) → at p ≡ None → finmap.get nodes p ≡ None
  absent p h = go (find walk_cmp p es) refl
    where
      go : (o : Option Node) → find walk_cmp p es ≡ o → finmap.get nodes p ≡ None
      go None e = get-nodes p ∙ e
      go (Some x) e =
          let y : at p ≡ Some x = sound (rows_specs.number_of es p) p x (number_at es p x e) in
          absurd (cc)

  exact : (p : Path) → finmap.get nodes p ≡ at p
  exact p = go (at p) refl
    where
      go : (o : Option Node) → at p ≡ o → finmap.get nodes p ≡ at p
      go None e = absent p e ∙ sym e
      go (Some x) e = let k : (k : ℕ) × (slice_get es k ≡ Some (p, x)) = placed p x e in found k.0 p x k.1 ∙ sym e

  -- the kept node of a path, by its number
  abbrev kept_of : Path → Option KeptNode
  kept_of p = slice_get tree.nodes (rows_specs.number_of es p)

  kept_there : (k : ℕ) (e : Row) → slice_get es k ≡ Some e → (node : KeptNode) × (slice_get tree.nodes k ≡ Some node)
  kept_there k e h =
      let l : k < length es = slice_get_within es k e h in
      let c : length tree.nodes ≡ length es = loaded.count in
      get_there tree.nodes k (omega (arith, l, c))

  kept_is : (k : ℕ) (e : Row) (node : KeptNode) → slice_get es k ≡ Some e → slice_get tree.nodes k ≡ Some node → kept_of e.0 ≡ Some node
  kept_is k e node h g = ap (slice_get tree.nodes) (number_one es ascend k e h) ∙ g

  kept_none : (p : Path) → at p ≡ None → kept_of p ≡ None
  kept_none p h =
      let past : rows_specs.number_of es p ≡ length es = none_number es p (λ x i. let y : at p ≡ Some x = row_sound s v es w p x i in cc) in
      let c : length tree.nodes ≡ length es = loaded.count in
      slice_get_past tree.nodes (rows_specs.number_of es p) (omega (arith, past, c))

  abbrev marks : Marks
  marks = record { foreign = λ p. foreign_in (kept_of p); shadowed = λ p. shadowed_in (kept_of p); twice = tree.twice }

  foreign_marked : (p : Path) → IsTrue (marks.foreign p) ↔ HasForeign s d (at p)
  unfolding foreign_in
  foreign_marked p = go (at p) refl
    where
      go : (o : Option Node) → at p ≡ o → IsTrue (foreign_in (kept_of p)) ↔ HasForeign s d (at p)
      go None e = not_true (foreign_in (kept_of p)) (ap foreign_in (kept_none p e)) (λ h. subst (HasForeign s d) e h)
      go (Some x) e =
          let k : (k : ℕ) × (slice_get es k ≡ Some (p, x)) = placed p x e in
          let n : (node : KeptNode) × (slice_get tree.nodes k.0 ≡ Some node) = kept_there k.0 (p, x) k.1 in
          let row : IsKeptRow s d es (length es) k.0 (p, x) n.0 = loaded.each k.0 (p, x) n.0 k.1 n.1 in
          subst (λ (z : Option Node). IsTrue (foreign_in (kept_of p)) ↔ HasForeign s d z) (sym e)
          (subst (λ (z : Option KeptNode). IsTrue (foreign_in z) ↔ HasForeign s d (Some x)) (sym (kept_is k.0 (p, x) n.0 k.1 n.1))
          (row.marked (slice_get_within es k.0 (p, x) k.1)))

  root_marked : marks.shadowed [] ≡ false
  unfolding node_at shadowed_in
  root_marked =
      let k : (k : ℕ) × (slice_get es k ≡ Some ([], Dir [])) = placed [] (Dir []) refl in
      let n : (node : KeptNode) × (slice_get tree.nodes k.0 ≡ Some node) = kept_there k.0 ([], Dir []) k.1 in
      let row : IsKeptRow s d es (length es) k.0 ([], Dir []) n.0 = loaded.each k.0 ([], Dir []) n.0 k.1 n.1 in
      ap shadowed_in (kept_is k.0 ([], Dir []) n.0 k.1 n.1) ∙ row.place.alone

  shadowed_marked : (n : List ℕ) (p : Path) → IsTrue (marks.shadowed (n ∷ p)) ↔ IsShadowedIn s d (at p) n (at (n ∷ p))
  unfolding shadowed_in
  shadowed_marked n p = go (at (n ∷ p)) refl
    where
      nowhere : (o : Option Node) → IsShadowedIn s d o n None → ⊥
      nowhere o h = h

      go : (o : Option Node) → at (n ∷ p) ≡ o → IsTrue (shadowed_in (kept_of (n ∷ p))) ↔ IsShadowedIn s d (at p) n (at (n ∷ p))
      go None e = not_true (shadowed_in (kept_of (n ∷ p))) (ap shadowed_in (kept_none (n ∷ p) e)) (λ h. nowhere (at p) (subst (IsShadowedIn s d (at p) n) e h))
      go (Some x) e =
          let k : (k : ℕ) × (slice_get es k ≡ Some (n ∷ p, x)) = placed (n ∷ p) x e in
          let m : (node : KeptNode) × (slice_get tree.nodes k.0 ≡ Some node) = kept_there k.0 (n ∷ p, x) k.1 in
          let row : IsKeptRow s d es (length es) k.0 (n ∷ p, x) m.0 = loaded.each k.0 (n ∷ p, x) m.0 k.1 m.1 in
          let dir : at p ≡ Some (Dir row.place.identifier) = sound m.0.parent p (Dir row.place.identifier) row.place.inside in
          subst (λ (z : Option Node). IsTrue (shadowed_in (kept_of (n ∷ p))) ↔ IsShadowedIn s d (at p) n z) (sym e)
          (subst (λ (z : Option Node). IsTrue (shadowed_in (kept_of (n ∷ p))) ↔ IsShadowedIn s d z n (Some x)) (sym dir)
          (subst (λ (z : Option KeptNode). IsTrue (shadowed_in z) ↔ IsShadowed s d row.place.identifier n) (sym (kept_is k.0 (n ∷ p, x) m.0 k.1 m.1))
          row.place.shadowed))

  twice_to : NamesTwice s es → NamedTwice s v owner
  twice_to t = record {
    one = t.a.0;
    other = t.b.0;
    folder = t.folder;
    two = λ is.
        let a : rows_specs.number_of es t.a.0 ≡ t.one = number_one es ascend t.one t.a t.first in
        let b : rows_specs.number_of es t.b.0 ≡ t.other = number_one es ascend t.other t.b t.second in
        let c : rows_specs.number_of es t.a.0 ≡ rows_specs.number_of es t.b.0 = ap (rows_specs.number_of es) is in
        let l : t.one < t.other = t.before in
        omega (arith, a, b, c, l);
    first = ap (claimed s) (sound t.one t.a.0 t.a.1 t.first) ∙ t.named;
    second = ap (claimed s) (sound t.other t.b.0 t.b.1 t.second) ∙ t.again;
  }

  claimed_at : (p : Path) (f : List ℕ) → claimed s (at p) ≡ Some f → (x : Node) × (at p ≡ Some x) × (claimed s (Some x) ≡ Some f)
  claimed_at p f h = go (at p) refl h
    where
      go : (o : Option Node) → at p ≡ o → claimed s o ≡ Some f → (x : Node) × (at p ≡ Some x) × (claimed s (Some x) ≡ Some f)
      go None e c = absurd (cc)
      go (Some x) e c = (x, e, c)

  twice_by : (i j : ℕ) (a b : Row) (f : List ℕ) → slice_get es i ≡ Some a → slice_get es j ≡ Some b → a.0 ≢ b.0 → claimed s (Some a.1) ≡ Some f → claimed s (Some b.1) ≡ Some f → NamesTwice s es
  twice_by i j a b f h g ne c c2 = go (cases_lt i j)
    where
      same_number : i ≡ j → ⊥
      same_number e =
          let both : ◌≡◌ {A = Option Row} (Some a) (Some b) = sym h ∙ ap (slice_get es) e ∙ g in
          let is : a ≡ b = cc in
          ne (ap (λ (z : Row). z.0) is)

      go : (i < j) ⊎ (j ≤ i) → NamesTwice s es
      go (inl l) = record { one = i; other = j; a = a; b = b; folder = f; before = l; first = h; second = g; named = c; again = c2 }
      go (inr l) = record { one = j; other = i; a = b; b = a; folder = f; before = (let n : i ≢ j = same_number in omega (arith, l, n)); first = g; second = h; named = c2; again = c }

  twice_from : NamedTwice s v owner → NamesTwice s es
  twice_from t =
      let a : (x : Node) × (at t.one ≡ Some x) × (claimed s (Some x) ≡ Some t.folder) = claimed_at t.one t.folder t.first in
      let b : (x : Node) × (at t.other ≡ Some x) × (claimed s (Some x) ≡ Some t.folder) = claimed_at t.other t.folder t.second in
      let i : (k : ℕ) × (slice_get es k ≡ Some (t.one, a.0)) = placed t.one a.0 a.1 in
      let j : (k : ℕ) × (slice_get es k ≡ Some (t.other, b.0)) = placed t.other b.0 b.1 in
      twice_by i.0 j.0 (t.one, a.0) (t.other, b.0) t.folder i.1 j.1 t.two a.2 b.2

  are_marks : AreMarks s d owner marks
  are_marks = record {
    foreign = foreign_marked;
    root = root_marked;
    shadowed = shadowed_marked;
    twice = ((λ h. twice_to (loaded.twice.0 h)), (λ t. loaded.twice.1 (twice_from t)));
  }

  -- ---- each node is what is kept of its entry

  node_is : (k : ℕ) (e : Row) (node : KeptNode) → slice_get es k ≡ Some e → slice_get tree.nodes k ≡ Some node → node ≡ kept_node s d nodes marks e
  unfolding foreign_in shadowed_in
  node_is k ([], x) node h g =
      let row : IsKeptRow s d es (length es) k ([], x) node = loaded.each k ([], x) node h g in
      let f : foreign_in (kept_of []) ≡ node.foreign = ap foreign_in (kept_is k ([], x) node h g) in
      let sh : shadowed_in (kept_of []) ≡ node.shadowed = ap shadowed_in (kept_is k ([], x) node h g) in
      λ i. record {
        parent = row.place.own i;
        name = row.place.name i;
        entry = row.place.entry i;
        long = row.place.short i;
        what = row.what i;
        foreign = sym f i;
        shadowed = sym sh i;
      }
  node_is k (n ∷ q, x) node h g =
      let row : IsKeptRow s d es (length es) k (n ∷ q, x) node = loaded.each k (n ∷ q, x) node h g in
      let f : foreign_in (kept_of (n ∷ q)) ≡ node.foreign = ap foreign_in (kept_is k (n ∷ q, x) node h g) in
      let sh : shadowed_in (kept_of (n ∷ q)) ≡ node.shadowed = ap shadowed_in (kept_is k (n ∷ q, x) node h g) in
      let p : rows_specs.number_of (finmap.entries nodes) q ≡ node.parent =
      ap (λ (z : List Row). rows_specs.number_of z q) entries-nodes ∙ number_one es ascend node.parent (q, Dir row.place.identifier) row.place.inside in
      let above : finmap.get nodes q ≡ Some (Dir row.place.identifier) = found node.parent q (Dir row.place.identifier) row.place.inside in
      let en : entry_in s d (finmap.get nodes q) n ≡ node.entry = ap (λ (z : Option Node). entry_in s d z n) above ∙ sym row.place.entry in
      let lo : long_in s d (finmap.get nodes q) n ≡ node.long = ap (λ (z : Option Node). long_in s d z n) above ∙ sym row.place.long in
      λ i. record {
        parent = sym p i;
        name = row.place.named i;
        entry = sym en i;
        long = sym lo i;
        what = row.what i;
        foreign = sym f i;
        shadowed = sym sh i;
      }

  kept_by : (k : ℕ) (x y : KeptNode) (o : Option Row) → slice_get es k ≡ o → slice_get tree.nodes k ≡ Some x → slice_get (kept_nodes s d nodes marks es) k ≡ Some y → x ≡ y
  kept_by k x y None e h g =
      let none : slice_get (kept_nodes s d nodes marks es) k ≡ None = kept_at s d nodes marks es k ∙ ap (option_map (kept_node s d nodes marks)) e in
      absurd (cc)
  kept_by k x y (Some r) e h g =
      let some : slice_get (kept_nodes s d nodes marks es) k ≡ Some (kept_node s d nodes marks r) = kept_at s d nodes marks es k ∙ ap (option_map (kept_node s d nodes marks)) e in
      let is : kept_node s d nodes marks r ≡ y = cc in
      node_is k r x e h ∙ is

  all_kept : tree.nodes ≡ kept_nodes s d nodes marks (finmap.entries nodes)
  all_kept =
      same_lists tree.nodes (kept_nodes s d nodes marks es) (loaded.count ∙ sym (length-kept s d nodes marks es)) (λ k x y h g. kept_by k x y (slice_get es k) refl h g)
      ∙ ap (kept_nodes s d nodes marks) (sym entries-nodes)

  pub is_kept : IsKept s d tree
  is_kept = record {
    owner = owner;
    nodes = nodes;
    marks = marks;
    there = there;
    first = walk_owner s v es w;
    exact = exact;
    marked = are_marks;
    kept = all_kept;
    twice = refl;
  }

no_rest : {A : Type 0} (xs ys : List A) (n : ℕ) → length xs ≡ n → n ≡ length (xs ++ ys) → ys ≡ []
no_rest xs [] n e f = refl
no_rest xs (y ∷ ys) n e f = let l : length (xs ++ y ∷ ys) ≡ length xs + length (y ∷ ys) = length-append xs (y ∷ ys) in absurd (omega (arith, e, f, l))

pub loading_ends : LoadingEnds
loading_ends s d tree claims there is =
    let none : is.todo ≡ [] = no_rest is.done is.todo (length tree.nodes) is.turned is.loaded.count in
    let walk : IsWalk s (folders_of s d) is.done [] = subst (IsWalk s (folders_of s d) is.done) none is.walk in
    let l : AreLoaded s d (is.done ++ []) (length tree.nodes) tree claims = subst (λ (z : List Row). AreLoaded s d (is.done ++ z) (length tree.nodes) tree claims) none is.loaded in
    let l2 : AreLoaded s d is.done (length tree.nodes) tree claims = subst (λ (z : List Row). AreLoaded s d z (length tree.nodes) tree claims) (append-nil is.done) l in
    is_kept s d tree claims there is.done (walked s (folders_of s d) is.done [] walk)
    (subst (λ (z : ℕ). AreLoaded s d is.done z tree claims) (sym is.turned) l2)
