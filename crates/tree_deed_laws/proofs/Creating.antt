-- Marks and places of a disk, after one node more.
use Rattle.std.proofs.Common.{◌≡◌, ◌≢◌, ◌↔◌, ℕ, Bool, true, false, List, [], ◌∷◌, Option, Some, None, IsTrue, sym, ap, ap₂, ◌∙◌, subst, inl, inr, ◌⊎◌}
use Rattle.std.specs.Map.{update}
use Rattle.std.specs.FinMap.{get}
use Rattle.std.proofs.lemmas.Bool.{cond-true, cond-false}
use Rattle.outside.specs.Disk.{Disk, folder as Folder, IsTree}
use Rattle.clear_tree.specs.Walk.{Path, same_path, Sealing, Folders, Kind, Named, Bare, Node, Dir, is_name, look, node, node_at, claimed, IsOwner, ChangedAt, new_owner}
use Rattle.clear_tree.specs.Places.{entry_at, folders_of, host_folder, host_entry, host_inner, entry_of, text_dirid, text_name, is_folder}
use Rattle.clear_tree.specs.Marks.{Marks, HasForeign, IsShadowedIn, IsShadowed, NamedTwice, IsForeign}
use Rattle.clear_tree.proofs.Paths.{path_cases, child_apart, same_path-from, same_path-apart}
use Rattle.clear_tree.proofs.Leaf.{change_leaf, leaf_owner}
use Rattle.clear_tree.proofs.Directory as directory
use Rattle.tree_deed_laws.specs.Trees.{AreTexts, but_at}
use Rattle.tree_deed_laws.proofs.Seeing.{some_there, look_seen}
use Rattle.tree_deed_laws.proofs.Exact as exact
use Rattle.tree_deed_laws.proofs.Exact.{through, neither, SameForeign, foreign_to, foreign_from, IsPlace, has_foreign, is_shadowed_in, never_seen}
use Rattle.tree_deed_laws.proofs.OneEntry as one
use Rattle.tree_deed_laws.proofs.OneEntry.{OneEntry, child_cases}
use Rattle.tree_deed_laws.proofs.Stands.{StandsFor}

-- one more node, at an entry that was free, so that nothing else has changed in what nodes and marks ask
pub record Creation (s : Sealing) (d d' : Disk) (marks : Marks) (long : Path → Bool) (o : List ℕ → Path) (p : Path) (i n e : List ℕ) (kk : Kind) (b : Bool) : Type 0 where
  pub texts : AreTexts s
  pub st : StandsFor s d marks long o
  pub at : node_at s (folders_of s d) o p ≡ Some (Dir i)
  pub no_node : node_at s (folders_of s d) o (n ∷ p) ≡ None
  pub named : is_name n (s.open_name i (s.seal i n)) ≡ true
  pub tree' : IsTree d'
  pub place : IsPlace s d d' (s.folder_of i) (s.seal i n) e
  pub entry : (g u : List ℕ) → u ≢ text_dirid → (g ≡ s.folder_of i → u ≡ e → ⊥) → get d' (host_entry g u) ≡ get d (host_entry g u)
  pub inner : (g u l : List ℕ) → (g ≡ s.folder_of i → u ≡ e → ⊥) → get d' (host_inner g u l) ≡ get d (host_inner g u l)
  pub copies : (g : List ℕ) → get d' (host_entry g text_dirid) ≡ get d (host_entry g text_dirid)
  pub free : (folders_of s d).seen (s.folder_of i) (s.seal i n) ≡ None
  pub free_entry : get d (host_entry (s.folder_of i) e) ≡ None
  pub shown : (folders_of s d').seen (s.folder_of i) (s.seal i n) ≡ Some kk
  pub good : kk ≢ Bare
  pub at_e : entry_of s d' (s.folder_of i) (s.seal i n) ≡ e
  pub alone : IsShadowed s d' i n → ⊥
  pub is_at : IsTrue b ↔ (entry_at s d' (s.folder_of i) (s.seal i n) ≡ None)

module _ {s : Sealing} {d d' : Disk} {marks : Marks} {long : Path → Bool} {o : List ℕ → Path} {p : Path} {i n e : List ℕ} {kk : Kind} {b : Bool} (creation : Creation s d d' marks long o p i n e kk b) where
  open creation use {texts, st, at, no_node, named, tree', place, entry, inner, copies, free, free_entry, shown, good, at_e, alone, is_at}

  abbrev v : Folders
  v = folders_of s d

  abbrev v' : Folders
  v' = folders_of s d'

  abbrev own : IsOwner s v o
  own = st.first

  -- the entry that has changed
  abbrev entry_of_it : OneEntry s d d' o n i p e
  entry_of_it = record {
    texts = texts;
    own = own;
    at = at;
    named = named;
    place = place;
    entry = entry;
    inner = inner;
  }

  changed : ChangedAt v v' (s.folder_of i) (s.seal i n)
  changed = one.changed entry_of_it

  look_new : look s v' i n ≡ Some kk
  look_new = look_seen s v' i n named ∙ shown

  clean : (w : Disk) → (w ≡ d) ⊎ (w ≡ d') → IsForeign s w i e → ⊥
  clean w (inl h) f = f.there (ap (λ (z : Disk). get z (host_entry (s.folder_of i) e)) h ∙ free_entry)
  clean w (inr h) f = (subst (λ (z : Disk). IsForeign s z i e) h f).no_node (record { name = n; kind = kk; shown = look_new; known = good; place = sym at_e })

  at_n : (w : Disk) → (w ≡ d) ⊎ (w ≡ d') → (x : Kind) → look s (folders_of s w) i n ≡ Some x → x ≢ Bare → entry_of s w (s.folder_of i) (s.seal i n) ≡ e
  at_n w (inl h) x l b =
      let z : look s v i n ≡ Some x = ap (λ (y : Disk). look s (folders_of s y) i n) (sym h) ∙ l in
      absurd (some_there _ _ (sym (look_seen s v i n named) ∙ z) free)
  at_n w (inr h) x l b = ap (λ (y : Disk). entry_of s y (s.folder_of i) (s.seal i n)) h ∙ at_e

  foreign_same : (q : Path) (j : List ℕ) → node_at s v o q ≡ Some (Dir j) → SameForeign s d d' j
  foreign_same q j hq = one.same_foreign entry_of_it q j hq (copies (s.folder_of j)) at_n clean

  -- ---- with the node x
  module _ (o' : List ℕ → Path) (x : Node) (root' : get d' (host_folder (s.folder_of [])) ≡ Some Folder) (first' : IsOwner s v' o')
      (nodes' : (q : Path) → node_at s v' o' q ≡ update same_path (node_at s v o) (n ∷ p) (Some x) q)
      (own_clean : HasForeign s d' (Some x) → ⊥)
      (fresh : (f : List ℕ) → claimed s (Some x) ≡ Some f → (q : Path) → claimed s (node_at s v o q) ≢ Some f) where
    here : (q : Path) → n ∷ p ≡ q → node_at s v' o' q ≡ Some x
    here q h = nodes' q ∙ cond-true (same_path (n ∷ p) q) _ _ (same_path-from (n ∷ p) q h)

    other : (q : Path) → n ∷ p ≢ q → node_at s v' o' q ≡ node_at s v o q
    other q h = nodes' q ∙ cond-false (same_path (n ∷ p) q) _ _ (same_path-apart (n ∷ p) q h)

    foreign' : (q : Path) → IsTrue (marks.foreign q) ↔ HasForeign s d' (node_at s v' o' q)
    foreign' q = go (path_cases (n ∷ p) q)
      where
        go : ((same_path (n ∷ p) q ≡ true) × (n ∷ p ≡ q)) ⊎ ((same_path (n ∷ p) q ≡ false) × (n ∷ p ≢ q)) → IsTrue (marks.foreign q) ↔ HasForeign s d' (node_at s v' o' q)
        go (inl h) = neither _ _ _ (st.marked.foreign q)
            (λ f. subst (λ (z : Option Node). HasForeign s d z) (ap (node_at s v o) (sym h.1) ∙ no_node) f)
            (λ f. own_clean (subst (λ (z : Option Node). HasForeign s d' z) (here q h.1) f))
        go (inr h) = through _ _ _ (st.marked.foreign q) (has_foreign s d d' (node_at s v o q) (node_at s v' o' q) (other q h.1)
            (λ j hj. (foreign_to s d d' j (foreign_same q j hj), foreign_from s d d' j (foreign_same q j hj))))

    -- the new node has none below it, so the parent of any other is of before
    parent_other : (q : Path) (l : List ℕ) (y : Node) → node_at s v o (l ∷ q) ≡ Some y → n ∷ p ≢ q
    parent_other q l y hl h = some_there _ _ (exact.parent_there s v o q l y hl).1 (ap (node_at s v o) (sym h) ∙ no_node)

    shadowed' : (l : List ℕ) (q : Path) → IsTrue (marks.shadowed (l ∷ q)) ↔ IsShadowedIn s d' (node_at s v' o' q) l (node_at s v' o' (l ∷ q))
    shadowed' l q = go (child_cases n p l q)
      where
        go : ((l ≡ n) × (q ≡ p)) ⊎ (n ∷ p ≢ l ∷ q) → IsTrue (marks.shadowed (l ∷ q)) ↔ IsShadowedIn s d' (node_at s v' o' q) l (node_at s v' o' (l ∷ q))
        go (inl h) =
            let old : node_at s v o (l ∷ q) ≡ None = ap₂ (λ (a : List ℕ) (c : Path). node_at s v o (a ∷ c)) h.0 h.1 ∙ no_node in
            let dir : node_at s v' o' q ≡ Some (Dir i) = other q (λ z. child_apart n p (z ∙ h.1)) ∙ ap (node_at s v o) h.1 ∙ at in
            let new : node_at s v' o' (l ∷ q) ≡ Some x = here (l ∷ q) (ap₂ (λ (a : List ℕ) (c : Path). a ∷ c) (sym h.0) (sym h.1)) in
            neither _ _ _ (st.marked.shadowed l q)
            (λ f. subst (λ (z : Option Node). IsShadowedIn s d (node_at s v o q) l z) old f)
            (λ f. alone (subst (λ (z : List ℕ). IsShadowed s d' i z) h.0
            (subst (λ (z : Option Node). IsShadowedIn s d' z l (Some x)) dir (subst (λ (z : Option Node). IsShadowedIn s d' (node_at s v' o' q) l z) new f))))
        go (inr h) = through _ _ _ (st.marked.shadowed l q) (is_shadowed_in s d d' (node_at s v o q) (node_at s v' o' q) (node_at s v o (l ∷ q)) (node_at s v' o' (l ∷ q)) l
            (other (l ∷ q) h) (λ y hy. other q (parent_other q l y hy))
            (λ j y hj hy. one.same_shadow entry_of_it q j hj l y hy h))

    placed' : (l : List ℕ) (q : Path) (j : List ℕ) (y : Node) → node_at s v' o' q ≡ Some (Dir j) → node_at s v' o' (l ∷ q) ≡ Some y
        → IsTrue (but_at long (n ∷ p) b (l ∷ q)) ↔ (entry_at s d' (s.folder_of j) (s.seal j l) ≡ None)
    placed' l q j y hq hl = go (child_cases n p l q)
      where
        go : ((l ≡ n) × (q ≡ p)) ⊎ (n ∷ p ≢ l ∷ q) → IsTrue (but_at long (n ∷ p) b (l ∷ q)) ↔ (entry_at s d' (s.folder_of j) (s.seal j l) ≡ None)
        go (inl h) =
            let dir : ◌≡◌ {A = Option Node} (Some (Dir j)) (Some (Dir i)) = sym hq ∙ other q (λ z. child_apart n p (z ∙ h.1)) ∙ ap (node_at s v o) h.1 ∙ at in
            let ej : j ≡ i = cc in
            subst (λ (z : Bool). IsTrue z ↔ (entry_at s d' (s.folder_of j) (s.seal j l) ≡ None))
            (sym (cond-true (same_path (n ∷ p) (l ∷ q)) _ _ (same_path-from (n ∷ p) (l ∷ q) (ap₂ (λ (a : List ℕ) (c : Path). a ∷ c) (sym h.0) (sym h.1)))))
            (subst (λ (z : List ℕ). IsTrue b ↔ (entry_at s d' (s.folder_of z) (s.seal z l) ≡ None)) (sym ej)
            (subst (λ (z : List ℕ). IsTrue b ↔ (entry_at s d' (s.folder_of i) (s.seal i z) ≡ None)) (sym h.0) is_at))
        go (inr h) =
            let oldl : node_at s v o (l ∷ q) ≡ Some y = sym (other (l ∷ q) h) ∙ hl in
            let oldq : node_at s v o q ≡ Some (Dir j) = sym (other q (parent_other q l y oldl)) ∙ hq in
            let same = one.entry_at_kept entry_of_it q j oldq l y oldl h in
            subst (λ (z : Bool). IsTrue z ↔ (entry_at s d' (s.folder_of j) (s.seal j l) ≡ None))
            (sym (cond-false (same_path (n ∷ p) (l ∷ q)) _ _ (same_path-apart (n ∷ p) (l ∷ q) h)))
            (through _ _ _ (st.placed l q j y oldq oldl) ((λ z. same ∙ z), (λ z. sym same ∙ z)))

    -- who names a folder: the new node, or one of before
    at_new : (q : Path) → n ∷ p ≡ q → claimed s (node_at s v' o' q) ≡ claimed s (Some x)
    at_new q h = ap (claimed s) (here q h)

    at_other : (q : Path) → n ∷ p ≢ q → claimed s (node_at s v' o' q) ≡ claimed s (node_at s v o q)
    at_other q h = ap (claimed s) (other q h)

    not_new : (q : Path) (f : List ℕ) → claimed s (node_at s v o q) ≡ Some f → n ∷ p ≢ q
    not_new q f h z = let w : ◌≡◌ {A = Option (List ℕ)} None (Some f) = sym (ap (λ (y : Path). claimed s (node_at s v o y)) (sym z) ∙ ap (claimed s) no_node) ∙ h in cc

    twice_to : NamedTwice s v o → NamedTwice s v' o'
    twice_to t = record {
      one = t.one;
      other = t.other;
      folder = t.folder;
      two = t.two;
      first = at_other t.one (not_new t.one t.folder t.first) ∙ t.first;
      second = at_other t.other (not_new t.other t.folder t.second) ∙ t.second;
    }

    twice_from : NamedTwice s v' o' → NamedTwice s v o
    twice_from t = go (path_cases (n ∷ p) t.one) (path_cases (n ∷ p) t.other)
      where
        go : ((same_path (n ∷ p) t.one ≡ true) × (n ∷ p ≡ t.one)) ⊎ ((same_path (n ∷ p) t.one ≡ false) × (n ∷ p ≢ t.one)) →
            ((same_path (n ∷ p) t.other ≡ true) × (n ∷ p ≡ t.other)) ⊎ ((same_path (n ∷ p) t.other ≡ false) × (n ∷ p ≢ t.other)) → NamedTwice s v o
        go (inl a) (inl b) = absurd (t.two (sym a.1 ∙ b.1))
        go (inl a) (inr b) = absurd (fresh t.folder (sym (at_new t.one a.1) ∙ t.first) t.other (sym (at_other t.other b.1) ∙ t.second))
        go (inr a) (inl b) = absurd (fresh t.folder (sym (at_new t.other b.1) ∙ t.second) t.one (sym (at_other t.one a.1) ∙ t.first))
        go (inr a) (inr b) = record {
          one = t.one;
          other = t.other;
          folder = t.folder;
          two = t.two;
          first = sym (at_other t.one a.1) ∙ t.first;
          second = sym (at_other t.other b.1) ∙ t.second;
        }

    pub created : StandsFor s d' marks (but_at long (n ∷ p) b) o'
    created = record {
      tree = tree';
      root = root';
      first = first';
      marked = record {
        foreign = foreign';
        root = st.marked.root;
        shadowed = shadowed';
        twice = through _ _ _ st.marked.twice (twice_to, twice_from);
      };
      placed = placed';
    }

  -- ---- a node that names no folder
  module _ (x : Node) (folders : (g : List ℕ) → get d' (host_folder g) ≡ get d (host_folder g)) (is : node s v' o (n ∷ p) (Some kk) ≡ Some x)
      (leaf : claimed s (Some x) ≡ None) (own_clean : HasForeign s d' (Some x) → ⊥) where
    is_new : node s v' o (n ∷ p) (look s v' i n) ≡ Some x
    is_new = ap (node s v' o (n ∷ p)) look_new ∙ is

    present_same : (g : List ℕ) → v'.present g ≡ v.present g
    present_same g = ap is_folder (folders g)

    pub leaf_nodes : (q : Path) → node_at s v' o q ≡ update same_path (node_at s v o) (n ∷ p) (Some x) q
    leaf_nodes q = change_leaf s v v' o n i p own at named changed present_same (ap (claimed s) no_node) (ap (claimed s) is_new ∙ leaf) q
        ∙ ap (λ (y : Option Node). update same_path (node_at s v o) (n ∷ p) y q) is_new

    pub leaf_created : StandsFor s d' marks (but_at long (n ∷ p) b) o
    leaf_created = created o x (folders (s.folder_of []) ∙ st.root)
        (leaf_owner s v v' o n i p own at named changed present_same (ap (claimed s) no_node) (ap (claimed s) is_new ∙ leaf)) leaf_nodes own_clean
        (λ f h. let z : ◌≡◌ {A = Option (List ℕ)} (Some f) None = sym h ∙ leaf in absurd (cc))

  -- ---- a directory
  module _ (t : List ℕ) (is : kk ≡ Named t) (valid : s.valid_id t ≡ true)
      (folders : (g : List ℕ) → g ≢ s.folder_of t → get d' (host_folder g) ≡ get d (host_folder g)) (made : get d' (host_folder (s.folder_of t)) ≡ Some Folder)
      (absent : get d (host_folder (s.folder_of t)) ≡ None)
      (empty : (u : List ℕ) → get d' (host_entry (s.folder_of t) u) ≡ None) (hollow : (u l : List ℕ) → get d' (host_inner (s.folder_of t) u l) ≡ None)
      (fresh : (q : Path) → claimed s (node_at s v o q) ≢ Some (s.folder_of t)) where
    present_else : (g : List ℕ) → g ≢ s.folder_of t → v'.present g ≡ v.present g
    present_else g ne = ap is_folder (folders g ne)

    nothing_seen : (u : List ℕ) → v'.seen (s.folder_of t) u ≡ None
    nothing_seen u = never_seen s d' (s.folder_of t) u (empty u) (hollow (s.long_of u) text_name)

    named_now : v'.seen (s.folder_of i) (s.seal i n) ≡ Some (Named t)
    named_now = shown ∙ ap (λ (z : Kind). Some z) is

    not_root : s.folder_of [] ≢ s.folder_of t
    not_root z = some_there _ _ st.root (ap (λ (y : List ℕ). get d (host_folder y)) z ∙ absent)

    pub dir_nodes : (q : Path) → node_at s v' (new_owner o (s.folder_of t) (n ∷ p)) q ≡ update same_path (node_at s v o) (n ∷ p) (Some (Dir t)) q
    dir_nodes = directory.create_dir s v v' o n i t p own at named changed present_else valid (ap is_folder made) nothing_seen fresh no_node named_now

    pub dir_created : StandsFor s d' marks (but_at long (n ∷ p) b) (new_owner o (s.folder_of t) (n ∷ p))
    dir_created = created (new_owner o (s.folder_of t) (n ∷ p)) (Dir t) (folders (s.folder_of []) not_root ∙ st.root)
        (directory.created_owner s v v' o n i t p own at named changed present_else valid (ap is_folder made) nothing_seen fresh no_node named_now) dir_nodes
        (λ f. f.1.there (empty f.0))
        (λ f h q c. let a : s.folder_of t ≡ f = cc in fresh q (c ∙ ap (λ (z : List ℕ). Some z) (sym a)))
