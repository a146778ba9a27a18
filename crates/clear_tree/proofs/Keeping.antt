-- What is kept of a disk determines its rows.
use Rattle.std.specs.Prelude.{T}
use Rattle.std.proofs.Common.{◌≡◌, ◌≢◌, ℕ, zero, suc, ◌+◌, Bool, true, false, cond, ◌&&◌, List, [], ◌∷◌, length, map, Option, Some, None, refl, sym, ap, ◌∙◌, subst, arith, slice_get}
use Rattle.std.specs.declared.cmp.Ordering.{Ordering}
use Rattle.std.specs.declared.cmp.Ordering.TheVariants.{Less, Equal, Greater}
use Rattle.std.specs.FinMap as finmap
use Rattle.std.specs.FinMap.Entries.{is_sorted, below_all, find}
use Rattle.std.specs.Option.{option_map, option_and_then}
use Rattle.std.specs.Ordering.{is_lt, is_eq, ordering_reverse}
use Rattle.std.proofs.lemmas.Option.{slice_get-map}
use Rattle.outside.specs.Disk.{Disk, Node as Thing, node_at as thing_at, file as host_file}
use Rattle.tree_model.specs.Rows.{Content, chunks}
use Rattle.clear_tree.specs.Walk.{Path, same_path, walk_cmp, Sealing, Kind, Plain, Named, Linked, Bare, Node, File, Link, Dir, Bad, look, node, below, node_at, is_good}
use Rattle.clear_tree.specs.Places.{folders_of, host_inner, seen_at, text_symlink}
use Rattle.clear_tree.specs.Marks.{Marks}
use Rattle.clear_tree.specs.Rows as rows
use Rattle.clear_tree.specs.Kept.{KeptNode, KeptTree, IsKept, what_of, kept_node, kept_nodes, kind_of, content_of, rows_from, row_of, tree_rows, node_of, parent_folder, path_of, path_in, file_path, folder_in, size_of, size_in, entry_in, long_in, AreContents, TellsRows, KeepingTellsRows}
use Rattle.clear_tree.proofs.Paths.{walk_itself, same_path-from, same_path-true}
use Rattle.clear_tree.proofs.Unique.{walk_antisymm, walk_equal}
use Rattle.clear_tree.proofs.Found.{file_there, link_there, look_seen}

-- ---- entries by path and by number

less_is : (o : Ordering) → T (is_lt o) → o ≡ Less
less_is Less h = refl
less_is Equal h = absurd h
less_is Greater h = absurd h

pub first_true : (a b : Bool) → T (a && b) → T a
first_true true b h = tt
first_true false b h = h

pub second_true : (a b : Bool) → T (a && b) → T b
second_true true b h = h
second_true false b h = absurd h

abbrev Entry : Type 0
Entry = Path × Node

pub below_at : (p : Path) (es : List Entry) (k : ℕ) (e : Entry) → T (below_all walk_cmp p es) → slice_get es k ≡ Some e → walk_cmp p e.0 ≡ Less
below_at p [] k e h g = absurd (cc)
below_at p (f ∷ es) zero e h g = let is : f ≡ e = cc in subst (λ (z : Entry). walk_cmp p z.0 ≡ Less) is (less_is _ (first_true _ _ h))
below_at p (f ∷ es) (suc k) e h g = below_at p es k e (second_true _ _ h) g

-- in a sorted list what a path has is the entry there
pub find_at : (es : List Entry) (k : ℕ) (p : Path) (x : Node) → T (is_sorted walk_cmp es) → slice_get es k ≡ Some (p, x) → find walk_cmp p es ≡ Some x
find_at [] k p x h g = absurd (cc)
find_at (e ∷ es) zero p x h g =
    let is : e ≡ (p, x) = cc in
    subst (λ (z : Entry). cond (is_eq (walk_cmp p z.0)) (Some z.1) (find walk_cmp p es) ≡ Some x) (sym is)
    (ap (λ (o : Ordering). cond (is_eq o) (Some x) (find walk_cmp p es)) (walk_itself p))
find_at (e ∷ es) (suc k) p x h g =
    let less : walk_cmp e.0 p ≡ Less = below_at e.0 es k (p, x) (first_true _ _ h) g in
    let more : walk_cmp p e.0 ≡ Greater = walk_antisymm p e.0 ∙ ap ordering_reverse less in
    ap (λ (o : Ordering). cond (is_eq o) (Some e.1) (find walk_cmp p es)) more ∙ find_at es k p x (second_true _ _ h) g

-- a path's number is that of its entry
pub number_at : (es : List Entry) (p : Path) (x : Node) → find walk_cmp p es ≡ Some x → slice_get es (rows.number_of es p) ≡ Some (p, x)
number_at [] p x h = absurd (cc)
number_at (e ∷ es) p x h = go (walk_cmp p e.0) refl h (number_at es p x)
  where
    there : p ≡ e.0 → ◌≡◌ {A = Option Node} (Some e.1) (Some x) → slice_get (e ∷ es) (rows.number_of (e ∷ es) p) ≡ Some (p, x)
    there is y =
        let same : same_path e.0 p ≡ true = same_path-from e.0 p (sym is) in
        let at : e.1 ≡ x = cc in
        ap (λ (b : Bool). slice_get (e ∷ es) (cond b 0 (suc (rows.number_of es p)))) same ∙ (λ i. Some (sym is i, at i))

    by : p ≢ e.0 → find walk_cmp p es ≡ Some x → (find walk_cmp p es ≡ Some x → slice_get es (rows.number_of es p) ≡ Some (p, x)) → (b : Bool) → same_path e.0 p ≡ b → slice_get (e ∷ es) (cond b 0 (suc (rows.number_of es p))) ≡ Some (p, x)
    by ne y rest true is = absurd (ne (sym (same_path-true e.0 p is)))
    by ne y rest false is = rest y

    apart : p ≢ e.0 → find walk_cmp p es ≡ Some x → (find walk_cmp p es ≡ Some x → slice_get es (rows.number_of es p) ≡ Some (p, x)) → slice_get (e ∷ es) (rows.number_of (e ∷ es) p) ≡ Some (p, x)
    apart ne y rest = by ne y rest (same_path e.0 p) refl

    tied : walk_cmp p e.0 ≢ Equal → p ≢ e.0
    tied ne is = ne (ap (λ (z : Path). walk_cmp z e.0) is ∙ walk_itself e.0)

    go : (o : Ordering) → walk_cmp p e.0 ≡ o → cond (is_eq o) (Some e.1) (find walk_cmp p es) ≡ Some x → (find walk_cmp p es ≡ Some x → slice_get es (rows.number_of es p) ≡ Some (p, x)) → slice_get (e ∷ es) (rows.number_of (e ∷ es) p) ≡ Some (p, x)
    go Less is y rest = apart (tied (λ z. cc)) y rest
    go Equal is y rest = there (walk_equal p e.0 is) y
    go Greater is y rest = apart (tied (λ z. cc)) y rest

-- in a sorted list the number of an entry's path is that of the entry
pub number_is : (es : List Entry) (k : ℕ) (e : Entry) → T (is_sorted walk_cmp es) → slice_get es k ≡ Some e → rows.number_of es e.0 ≡ k
number_is [] k e h g = absurd (cc)
number_is (f ∷ es) zero e h g =
    let is : f ≡ e = cc in
    ap (λ (b : Bool). cond b 0 (suc (rows.number_of es e.0))) (same_path-from f.0 e.0 (ap (λ (z : Entry). z.0) is))
number_is (f ∷ es) (suc k) e h g = go (same_path f.0 e.0) refl (number_is es k e (second_true _ _ h) g)
  where
    less : walk_cmp f.0 e.0 ≡ Less
    less = below_at f.0 es k e (first_true _ _ h) g

    go : (b : Bool) → same_path f.0 e.0 ≡ b → rows.number_of es e.0 ≡ k → cond b 0 (suc (rows.number_of es e.0)) ≡ suc k
    go false is ih = ap suc ih
    go true is ih = let z : Less ≡ Equal = sym less ∙ ap (λ (q : Path). walk_cmp q e.0) (same_path-true f.0 e.0 is) ∙ walk_itself e.0 in absurd (cc)

none_before_root : (p : Path) → walk_cmp p [] ≢ Less
none_before_root [] e = cc
none_before_root (m ∷ p) e = cc

-- the root comes first
pub first_zero : (es : List Entry) (k : ℕ) (x : Node) → T (is_sorted walk_cmp es) → slice_get es k ≡ Some ([], x) → k ≡ 0
first_zero [] k x h at = absurd (cc)
first_zero (f ∷ es) zero x h at = refl
first_zero (f ∷ es) (suc k) x h at = absurd (none_before_root f.0 (below_at f.0 es k ([], x) (first_true _ _ h) at))

-- ---- rows

same_kind : (s : Sealing) (x : Node) → kind_of (what_of s x) ≡ rows.kind_of x
same_kind s (File b) = refl
same_kind s (Link b) = refl
same_kind s (Dir i) = refl
same_kind s (Bad t) = refl

same_content : (s : Sealing) (x : Node) (c : Content) → c ≡ rows.content_in s x → content_of (what_of s x) c ≡ rows.content_in s x
same_content s (File b) c h = h
same_content s (Link b) c h = h
same_content s (Dir i) c h = refl
same_content s (Bad t) c h = refl

-- the content of the entry of a number
contents_in : Sealing → List Entry → ℕ → Content
contents_in s [] k = chunks true []
contents_in s (e ∷ es) zero = rows.content_in s e.1
contents_in s (e ∷ es) (suc k) = contents_in s es k

contents_at : (s : Sealing) (es : List Entry) (k : ℕ) (e : Entry) → slice_get es k ≡ Some e → contents_in s es k ≡ rows.content_in s e.1
unfolding contents_in
contents_at s [] k e h = absurd (cc)
contents_at s (f ∷ es) zero e h = let is : f ≡ e = cc in ap (λ (z : Entry). rows.content_in s z.1) is
contents_at s (f ∷ es) (suc k) e h = contents_at s es k e h

module _ (s : Sealing) (d : Disk) (nodes : rows.Nodes) (marks : Marks) where
  kept-map : (es : List Entry) → kept_nodes s d nodes marks es ≡ map (kept_node s d nodes marks) es
  kept-map [] = refl
  kept-map (e ∷ es) = ap (λ (z : List KeptNode). kept_node s d nodes marks e ∷ z) (kept-map es)

  pub kept_at : (es : List Entry) (k : ℕ) → slice_get (kept_nodes s d nodes marks es) k ≡ option_map (kept_node s d nodes marks) (slice_get es k)
  kept_at es k = ap (λ (z : List KeptNode). slice_get z k) (kept-map es) ∙ slice_get-map (kept_node s d nodes marks) es k

  pub length-kept : (es : List Entry) → length (kept_nodes s d nodes marks es) ≡ length es
  length-kept [] = refl
  length-kept (e ∷ es) = ap suc (length-kept es)

  same_row : (contents : ℕ → Content) (now number : ℕ) (e : Entry) → contents number ≡ rows.content_in s e.1 →
      row_of contents now number (kept_node s d nodes marks e) ≡ rows.row_of s now marks (finmap.entries nodes) number e
  same_row contents now number e h =
      let k : kind_of (what_of s e.1) ≡ rows.kind_of e.1 = same_kind s e.1 in
      let c : content_of (what_of s e.1) (contents number) ≡ rows.content_in s e.1 = same_content s e.1 (contents number) h in
      λ i. record {
        number = number;
        parent = rows.parent_of (finmap.entries nodes) e.0;
        name = rows.name_of e.0;
        kind = k i;
        content = c i;
        foreign = marks.foreign e.0;
        shadowed = marks.shadowed e.0;
        version = 0;
        modified = now;
      }

  same_rows : (contents : ℕ → Content) (now number : ℕ) (es : List Entry) → ((k : ℕ) → contents (number + k) ≡ contents_in s es k) →
      rows_from contents now number (kept_nodes s d nodes marks es) ≡ rows.rows_from s now marks (finmap.entries nodes) number es
  unfolding contents_in
  same_rows contents now number [] h = refl
  same_rows contents now number (e ∷ es) h =
      let here : number + 0 ≡ number = omega arith in
      let one : row_of contents now number (kept_node s d nodes marks e) ≡ rows.row_of s now marks (finmap.entries nodes) number e =
      same_row contents now number e (ap contents (sym here) ∙ h 0) in
      let rest : rows_from contents now (suc number) (kept_nodes s d nodes marks es) ≡ rows.rows_from s now marks (finmap.entries nodes) (suc number) es =
      same_rows contents now (suc number) es (λ k. let next : suc number + k ≡ number + suc k = omega arith in ap contents next ∙ h (suc k)) in
      λ i. one i ∷ rest i

-- ---- host files

-- what is at the path of a number's host file
record Stands (s : Sealing) (d : Disk) (tree : KeptTree) (es : List Entry) (number : ℕ) (path : List (List ℕ)) : Type 0 where
  bytes : List ℕ
  there : thing_at d path ≡ Some (host_file bytes)
  content : contents_in s es number ≡ s.content bytes
  size : size_of tree number ≡ Some (length bytes)

module _ (s : Sealing) (d : Disk) (tree : KeptTree) (is : IsKept s d tree) where
  abbrev es : List Entry
  es = finmap.entries is.nodes

  node_there : (k : ℕ) (e : Entry) → slice_get es k ≡ Some e → node_of tree k ≡ Some (kept_node s d is.nodes is.marks e)
  node_there k e h = ap (λ (z : List KeptNode). slice_get z k) is.kept ∙ kept_at s d is.nodes is.marks es k ∙ ap (option_map (kept_node s d is.nodes is.marks)) h

  got : (k : ℕ) (p : Path) (x : Node) → slice_get es k ≡ Some (p, x) → finmap.get is.nodes p ≡ Some x
  got k p x h = finmap.get-entries is.nodes p ∙ find_at es k p x (finmap.entries_sorted is.nodes) h

  number_got : (p : Path) (x : Node) → finmap.get is.nodes p ≡ Some x → slice_get es (rows.number_of es p) ≡ Some (p, x)
  number_got p x h = number_at es p x (sym (finmap.get-entries is.nodes p) ∙ h)

  -- the parent of a node below the root
  record Inside (n : List ℕ) (q : Path) (x : Node) : Type 0 where
    identifier : List ℕ
    parent : finmap.get is.nodes q ≡ Some (Dir identifier)
    kind : Kind
    looked : look s (folders_of s d) identifier n ≡ Some kind
    node_is : node s (folders_of s d) is.owner (n ∷ q) (Some kind) ≡ Some x

  below_is : (n : List ℕ) (q : Path) (x : Node) (y : Option Node) → finmap.get is.nodes q ≡ y → below s (folders_of s d) is.owner (n ∷ q) n y ≡ Some x → Inside n q x
  below_is n q x None at h = absurd (cc)
  below_is n q x (Some (File b)) at h = absurd (cc)
  below_is n q x (Some (Link b)) at h = absurd (cc)
  below_is n q x (Some (Bad t)) at h = absurd (cc)
  below_is n q x (Some (Dir i)) at h = go (look s (folders_of s d) i n) refl h
    where
      go : (o : Option Kind) → look s (folders_of s d) i n ≡ o → node s (folders_of s d) is.owner (n ∷ q) o ≡ Some x → Inside n q x
      go None l z = absurd (cc)
      go (Some k) l z = record { identifier = i; parent = at; kind = k; looked = l; node_is = z }

  inside : (n : List ℕ) (q : Path) (x : Node) → finmap.get is.nodes (n ∷ q) ≡ Some x → Inside n q x
  unfolding node_at
  inside n q x h = below_is n q x (finmap.get is.nodes q) refl (ap (below s (folders_of s d) is.owner (n ∷ q) n) (is.exact q) ∙ sym (is.exact (n ∷ q)) ∙ h)

  folder_is : (n : List ℕ) (q : Path) (x : Node) (i : Inside n q x) → parent_folder tree (kept_node s d is.nodes is.marks (n ∷ q, x)) ≡ Some (s.folder_of i.identifier)
  folder_is n q x i =
      ap (option_and_then (λ (z : KeptNode). folder_in z.what)) (node_there (rows.number_of es q) (q, Dir i.identifier) (number_got q (Dir i.identifier) i.parent))

  file_kind : (p : Path) (k : Kind) (b : List ℕ) → node s (folders_of s d) is.owner p (Some k) ≡ Some (File b) → k ≡ Plain b
  file_kind p (Plain c) b h = cc
  file_kind p (Linked c) b h = absurd (cc)
  file_kind p Bare b h = absurd (cc)
  file_kind p (Named t) b h = go (is_good s (folders_of s d) is.owner p t) h
    where
      go : (g : Bool) → ◌≡◌ {A = Option Node} (Some (cond g (Dir t) (Bad t))) (Some (File b)) → Named t ≡ Plain b
      go true z = absurd (cc)
      go false z = absurd (cc)

  link_kind : (p : Path) (k : Kind) (b : List ℕ) → node s (folders_of s d) is.owner p (Some k) ≡ Some (Link b) → k ≡ Linked b
  link_kind p (Plain c) b h = absurd (cc)
  link_kind p (Linked c) b h = cc
  link_kind p Bare b h = absurd (cc)
  link_kind p (Named t) b h = go (is_good s (folders_of s d) is.owner p t) h
    where
      go : (g : Bool) → ◌≡◌ {A = Option Node} (Some (cond g (Dir t) (Bad t))) (Some (Link b)) → Named t ≡ Linked b
      go true z = absurd (cc)
      go false z = absurd (cc)

  same_some : {A : Type 0} (x y : A) → Some x ≡ Some y → x ≡ y
  same_some x y h = cc

  -- where a file of an entry is, by the node of its directory
  abbrev file_in : List ℕ → List ℕ → Option Node → List (List ℕ)
  file_in folder n y = file_path (long_in s d y n) folder (entry_in s d y n)

  abbrev link_in : List ℕ → List ℕ → Option Node → List (List ℕ)
  link_in folder n y = host_inner folder (entry_in s d y n) text_symlink

  -- the path of the node of an entry, by what the entry is
  stands_in : (k : ℕ) (n : List ℕ) (q : Path) (x : Node) (path : List (List ℕ)) → slice_get es k ≡ Some (n ∷ q, x) → (i : Inside n q x) →
      path_in (kept_node s d is.nodes is.marks (n ∷ q, x)) (what_of s x) (s.folder_of i.identifier) ≡ Some path → Stands s d tree es k path
  stands_in k n q (Dir j) path at i h = absurd (cc)
  stands_in k n q (Bad t) path at i h = absurd (cc)
  stands_in k n q (File b) path at i h =
      let seen : seen_at s d (s.folder_of i.identifier) (s.seal i.identifier n) ≡ Some (Plain b) =
      look_seen s d i.identifier n (Plain b) (i.looked ∙ ap (λ (z : Kind). Some z) (file_kind (n ∷ q) i.kind b i.node_is)) in
      let at_path : file_in (s.folder_of i.identifier) n (Some (Dir i.identifier)) ≡ path =
      ap (file_in (s.folder_of i.identifier) n) (sym i.parent) ∙ same_some _ path h in
      record {
        bytes = b;
        there = subst (λ (z : List (List ℕ)). thing_at d z ≡ Some (host_file b)) at_path (file_there s d (s.folder_of i.identifier) (s.seal i.identifier n) b seen);
        content = contents_at s es k (n ∷ q, File b) at;
        size = ap (option_and_then (λ (z : KeptNode). size_in z.what)) (node_there k (n ∷ q, File b) at);
      }
  stands_in k n q (Link b) path at i h =
      let seen : seen_at s d (s.folder_of i.identifier) (s.seal i.identifier n) ≡ Some (Linked b) =
      look_seen s d i.identifier n (Linked b) (i.looked ∙ ap (λ (z : Kind). Some z) (link_kind (n ∷ q) i.kind b i.node_is)) in
      let at_path : link_in (s.folder_of i.identifier) n (Some (Dir i.identifier)) ≡ path =
      ap (link_in (s.folder_of i.identifier) n) (sym i.parent) ∙ same_some _ path h in
      record {
        bytes = b;
        there = subst (λ (z : List (List ℕ)). thing_at d z ≡ Some (host_file b)) at_path (link_there s d (s.folder_of i.identifier) (s.seal i.identifier n) b seen);
        content = contents_at s es k (n ∷ q, Link b) at;
        size = ap (option_and_then (λ (z : KeptNode). size_in z.what)) (node_there k (n ∷ q, Link b) at);
      }

  no_file_in : (node : KeptNode) (o : Option (List ℕ)) (i : List ℕ) (path : List (List ℕ)) → option_and_then (path_in node (what_of s (Dir i))) o ≡ Some path → ⊥
  no_file_in node None i path h = cc
  no_file_in node (Some f) i path h = cc

  stands_at : (k : ℕ) (e : Entry) (path : List (List ℕ)) → slice_get es k ≡ Some e →
      option_and_then (path_in (kept_node s d is.nodes is.marks e) (what_of s e.1)) (parent_folder tree (kept_node s d is.nodes is.marks e)) ≡ Some path → Stands s d tree es k path
  unfolding node_at
  stands_at k ([], x) path at h =
      let root : ◌≡◌ {A = Option Node} (Some (Dir [])) (Some x) = sym (is.exact []) ∙ got k [] x at in
      let is_dir : Dir [] ≡ x = same_some (Dir []) x root in
      absurd (no_file_in (kept_node s d is.nodes is.marks ([], x)) (parent_folder tree (kept_node s d is.nodes is.marks ([], x))) [] path
      (subst (λ (z : Node). option_and_then (path_in (kept_node s d is.nodes is.marks ([], x)) (what_of s z)) (parent_folder tree (kept_node s d is.nodes is.marks ([], x))) ≡ Some path) (sym is_dir) h))
  stands_at k (n ∷ q, x) path at h =
      let i : Inside n q x = inside n q x (got k (n ∷ q) x at) in
      stands_in k n q x path at i
      (ap (option_and_then (path_in (kept_node s d is.nodes is.marks (n ∷ q, x)) (what_of s x))) (sym (folder_is n q x i)) ∙ h)

  stands : (k : ℕ) (path : List (List ℕ)) → path_of tree k ≡ Some path → Stands s d tree es k path
  stands k path h = go (slice_get es k) refl
    where
      go : (o : Option Entry) → slice_get es k ≡ o → Stands s d tree es k path
      go None at =
          let none : node_of tree k ≡ None = ap (λ (z : List KeptNode). slice_get z k) is.kept ∙ kept_at s d is.nodes is.marks es k ∙ ap (option_map (kept_node s d is.nodes is.marks)) at in
          let no_path : path_of tree k ≡ None = ap (option_and_then (λ node. option_and_then (path_in node node.what) (parent_folder tree node))) none in
          absurd (cc)
      go (Some e) at = stands_at k e path at
          (ap (option_and_then (λ node. option_and_then (path_in node node.what) (parent_folder tree node))) (sym (node_there k e at)) ∙ h)

  same_bytes : (o : Option Thing) (a b : List ℕ) → o ≡ Some (host_file a) → o ≡ Some (host_file b) → a ≡ b
  same_bytes o a b h g = cc

  are_contents : AreContents s d tree (contents_in s es)
  are_contents = record {
    files = λ number path h. let at : Stands s d tree es number path = stands number path h in record { bytes = at.bytes; there = at.there; content = at.content };
    sizes = λ number size path bytes h g there.
        let at : Stands s d tree es number path = stands number path h in
        let same : bytes ≡ at.bytes = same_bytes (thing_at d path) bytes at.bytes there at.there in
        ap length same ∙ same_some (length at.bytes) size (sym at.size ∙ g);
  }

  are_rows : (now : ℕ) → tree_rows (contents_in s es) now tree ≡ rows.rows_of s now is.nodes is.marks
  are_rows now =
      let first : rows_from (contents_in s es) now 0 tree.nodes ≡ rows.rows_from s now is.marks es 0 es =
      ap (rows_from (contents_in s es) now 0) is.kept ∙ same_rows s d is.nodes is.marks (contents_in s es) now 0 es
      (λ k. let from : 0 + k ≡ k = omega arith in ap (contents_in s es) from) in
      let next : length tree.nodes ≡ finmap.len is.nodes =
      ap (λ (z : List KeptNode). length z) is.kept ∙ length-kept s d is.nodes is.marks es ∙ sym (finmap.len-entries is.nodes) in
      λ i. record { nodes = first i; next = next i; named_twice = is.twice i }

  pub tells_rows : TellsRows s d tree
  tells_rows = record {
    contents = contents_in s es;
    are = are_contents;
    clear = λ now. record {
      owner = is.owner;
      nodes = is.nodes;
      marks = is.marks;
      there = is.there;
      first = is.first;
      exact = is.exact;
      marked = is.marked;
      rows_are = are_rows now;
    };
  }

pub keeping_tells_rows : KeepingTellsRows
keeping_tells_rows s d tree is = tells_rows s d tree is
