-- Marks and places of a disk, after a node without nodes below it is gone.
use Rattle.std.proofs.Common.{◌≡◌, ◌≢◌, ◌↔◌, ℕ, Bool, true, false, List, [], ◌∷◌, Option, Some, None, IsTrue, sym, ap, ap₂, ◌∙◌, subst, inl, inr, ◌⊎◌}
use Rattle.std.specs.Map.{update}
use Rattle.std.specs.FinMap.{get}
use Rattle.std.proofs.lemmas.Bool.{cond-true, cond-false}
use Rattle.outside.specs.Disk.{Disk, folder as Folder, IsTree}
use Rattle.clear_tree.specs.Walk.{Path, same_path, Sealing, Folders, Kind, Bare, Node, Dir, is_name, look, node, node_at, claimed, IsOwner, NamedOnce, ChangedAt}
use Rattle.clear_tree.specs.Places.{entry_at, folders_of, host_folder, host_entry, host_inner, entry_of, text_dirid, is_folder}
use Rattle.clear_tree.specs.Marks.{Marks, HasForeign, IsShadowedIn, IsShadowed, NamedTwice, IsForeign}
use Rattle.clear_tree.proofs.Paths.{path_cases, same_path-from, same_path-apart}
use Rattle.clear_tree.proofs.Leaf.{change_leaf, leaf_owner}
use Rattle.clear_tree.proofs.Directory as directory
use Rattle.tree_deed_laws.specs.Trees.{AreTexts}
use Rattle.tree_deed_laws.proofs.Seeing.{some_there, look_seen}
use Rattle.tree_deed_laws.proofs.Exact as exact
use Rattle.tree_deed_laws.proofs.Exact.{through, neither, SameForeign, foreign_to, foreign_from, IsPlace, name_there, has_foreign, is_shadowed_in}
use Rattle.tree_deed_laws.proofs.OneEntry as one
use Rattle.tree_deed_laws.proofs.OneEntry.{OneEntry, child_cases}
use Rattle.tree_deed_laws.proofs.Stands.{StandsFor}

-- a node without nodes below it is gone, and so is its entry
pub record NodeGone (s : Sealing) (d d' : Disk) (marks : Marks) (long : Path → Bool) (o : List ℕ → Path) (p : Path) (i n e : List ℕ) (x : Node) (kk : Kind) : Type 0 where
  pub texts : AreTexts s
  pub st : StandsFor s d marks long o
  pub at : node_at s (folders_of s d) o p ≡ Some (Dir i)
  pub is_node : node_at s (folders_of s d) o (n ∷ p) ≡ Some x
  pub leaf : (l : List ℕ) → node_at s (folders_of s d) o (l ∷ n ∷ p) ≡ None
  pub unmarked : IsShadowed s d i n → ⊥
  pub no_foreign : HasForeign s d (Some x) → ⊥
  pub tree' : IsTree d'
  pub place : IsPlace s d d' (s.folder_of i) (s.seal i n) e
  pub entry : (g u : List ℕ) → u ≢ text_dirid → (g ≡ s.folder_of i → u ≡ e → ⊥) → get d' (host_entry g u) ≡ get d (host_entry g u)
  pub inner : (g u l : List ℕ) → (g ≡ s.folder_of i → u ≡ e → ⊥) → get d' (host_inner g u l) ≡ get d (host_inner g u l)
  pub copies : (q : Path) (j : List ℕ) → node_at s (folders_of s d) o q ≡ Some (Dir j) → n ∷ p ≢ q → get d' (host_entry (s.folder_of j) text_dirid) ≡ get d (host_entry (s.folder_of j) text_dirid)
  pub shown : (folders_of s d).seen (s.folder_of i) (s.seal i n) ≡ Some kk
  pub good : kk ≢ Bare
  pub at_e : entry_of s d (s.folder_of i) (s.seal i n) ≡ e
  pub gone_entry : get d' (host_entry (s.folder_of i) e) ≡ None
  pub gone : (folders_of s d').seen (s.folder_of i) (s.seal i n) ≡ None

module _ {s : Sealing} {d d' : Disk} {marks : Marks} {long : Path → Bool} {o : List ℕ → Path} {p : Path} {i n e : List ℕ} {x : Node} {kk : Kind} (removal : NodeGone s d d' marks long o p i n e x kk) where
  open removal use {texts, st, at, is_node, leaf, unmarked, no_foreign, tree', place, entry, inner, copies, shown, good, at_e, gone_entry, gone}

  abbrev v : Folders
  v = folders_of s d

  abbrev v' : Folders
  v' = folders_of s d'

  abbrev own : IsOwner s v o
  own = st.first

  named : is_name n (s.open_name i (s.seal i n)) ≡ true
  named = name_there s v o p n i x at is_node

  -- the entry that has changed
  abbrev entry_of_it : OneEntry s d d' o n i p e
  entry_of_it = record {
    texts = texts;
    own = own;
    at = at;
    named = named;
    place = place;
    entry = entry;
    inner = inner;
  }

  changed : ChangedAt v v' (s.folder_of i) (s.seal i n)
  changed = one.changed entry_of_it

  look_old : look s v i n ≡ Some kk
  look_old = look_seen s v i n named ∙ shown

  clean : (w : Disk) → (w ≡ d) ⊎ (w ≡ d') → IsForeign s w i e → ⊥
  clean w (inr h) f = f.there (ap (λ (z : Disk). get z (host_entry (s.folder_of i) e)) h ∙ gone_entry)
  clean w (inl h) f = (subst (λ (z : Disk). IsForeign s z i e) h f).no_node (record { name = n; kind = kk; shown = look_old; known = good; place = sym at_e })

  at_n : (w : Disk) → (w ≡ d) ⊎ (w ≡ d') → (y : Kind) → look s (folders_of s w) i n ≡ Some y → y ≢ Bare → entry_of s w (s.folder_of i) (s.seal i n) ≡ e
  at_n w (inr h) y l b =
      let z : look s v' i n ≡ Some y = ap (λ (u : Disk). look s (folders_of s u) i n) (sym h) ∙ l in
      absurd (some_there _ _ (sym (look_seen s v' i n named) ∙ z) gone)
  at_n w (inl h) y l b = ap (λ (u : Disk). entry_of s u (s.folder_of i) (s.seal i n)) h ∙ at_e

  foreign_same : (q : Path) (j : List ℕ) → node_at s v o q ≡ Some (Dir j) → n ∷ p ≢ q → SameForeign s d d' j
  foreign_same q j hq ne = one.same_foreign entry_of_it q j hq (copies q j hq ne) at_n clean

  module _ (root' : get d' (host_folder (s.folder_of [])) ≡ Some Folder) (first' : IsOwner s v' o)
      (nodes' : (q : Path) → node_at s v' o q ≡ update same_path (node_at s v o) (n ∷ p) None q)
      (not_it : NamedTwice s v o → (q : Path) (f : List ℕ) → claimed s (node_at s v o q) ≡ Some f → n ∷ p ≢ q) where
    here : (q : Path) → n ∷ p ≡ q → node_at s v' o q ≡ None
    here q h = nodes' q ∙ cond-true (same_path (n ∷ p) q) _ _ (same_path-from (n ∷ p) q h)

    other : (q : Path) → n ∷ p ≢ q → node_at s v' o q ≡ node_at s v o q
    other q h = nodes' q ∙ cond-false (same_path (n ∷ p) q) _ _ (same_path-apart (n ∷ p) q h)

    foreign' : (q : Path) → IsTrue (marks.foreign q) ↔ HasForeign s d' (node_at s v' o q)
    foreign' q = go (path_cases (n ∷ p) q)
      where
        go : ((same_path (n ∷ p) q ≡ true) × (n ∷ p ≡ q)) ⊎ ((same_path (n ∷ p) q ≡ false) × (n ∷ p ≢ q)) → IsTrue (marks.foreign q) ↔ HasForeign s d' (node_at s v' o q)
        go (inl h) = neither _ _ _ (st.marked.foreign q)
            (λ f. no_foreign (subst (λ (z : Option Node). HasForeign s d z) (ap (node_at s v o) (sym h.1) ∙ is_node) f))
            (λ f. subst (λ (z : Option Node). HasForeign s d' z) (here q h.1) f)
        go (inr h) = through _ _ _ (st.marked.foreign q) (has_foreign s d d' (node_at s v o q) (node_at s v' o q) (other q h.1)
            (λ j hj. (foreign_to s d d' j (foreign_same q j hj h.1), foreign_from s d d' j (foreign_same q j hj h.1))))

    parent_other : (q : Path) (l : List ℕ) (y : Node) → node_at s v o (l ∷ q) ≡ Some y → n ∷ p ≢ q
    parent_other q l y hl h = some_there _ _ hl (ap (λ (z : Path). node_at s v o (l ∷ z)) (sym h) ∙ leaf l)

    shadowed' : (l : List ℕ) (q : Path) → IsTrue (marks.shadowed (l ∷ q)) ↔ IsShadowedIn s d' (node_at s v' o q) l (node_at s v' o (l ∷ q))
    shadowed' l q = go (child_cases n p l q)
      where
        go : ((l ≡ n) × (q ≡ p)) ⊎ (n ∷ p ≢ l ∷ q) → IsTrue (marks.shadowed (l ∷ q)) ↔ IsShadowedIn s d' (node_at s v' o q) l (node_at s v' o (l ∷ q))
        go (inl h) =
            let dir : node_at s v o q ≡ Some (Dir i) = ap (node_at s v o) h.1 ∙ at in
            let was : node_at s v o (l ∷ q) ≡ Some x = ap₂ (λ (a : List ℕ) (c : Path). node_at s v o (a ∷ c)) h.0 h.1 ∙ is_node in
            let now : node_at s v' o (l ∷ q) ≡ None = here (l ∷ q) (ap₂ (λ (a : List ℕ) (c : Path). a ∷ c) (sym h.0) (sym h.1)) in
            neither _ _ _ (st.marked.shadowed l q)
            (λ f. unmarked (subst (λ (z : List ℕ). IsShadowed s d i z) h.0
            (subst (λ (z : Option Node). IsShadowedIn s d z l (Some x)) dir (subst (λ (z : Option Node). IsShadowedIn s d (node_at s v o q) l z) was f))))
            (λ f. subst (λ (z : Option Node). IsShadowedIn s d' (node_at s v' o q) l z) now f)
        go (inr h) = through _ _ _ (st.marked.shadowed l q) (is_shadowed_in s d d' (node_at s v o q) (node_at s v' o q) (node_at s v o (l ∷ q)) (node_at s v' o (l ∷ q)) l
            (other (l ∷ q) h) (λ y hy. other q (parent_other q l y hy))
            (λ j y hj hy. one.same_shadow entry_of_it q j hj l y hy h))

    placed' : (l : List ℕ) (q : Path) (j : List ℕ) (y : Node) → node_at s v' o q ≡ Some (Dir j) → node_at s v' o (l ∷ q) ≡ Some y
        → IsTrue (long (l ∷ q)) ↔ (entry_at s d' (s.folder_of j) (s.seal j l) ≡ None)
    placed' l q j y hq hl =
        let h : n ∷ p ≢ l ∷ q = λ z. some_there _ _ hl (here (l ∷ q) z) in
        let oldl : node_at s v o (l ∷ q) ≡ Some y = sym (other (l ∷ q) h) ∙ hl in
        let oldq : node_at s v o q ≡ Some (Dir j) = sym (other q (parent_other q l y oldl)) ∙ hq in
        let same = one.entry_at_kept entry_of_it q j oldq l y oldl h in
        through _ _ _ (st.placed l q j y oldq oldl) ((λ z. same ∙ z), (λ z. sym same ∙ z))

    at_other : (q : Path) → n ∷ p ≢ q → claimed s (node_at s v' o q) ≡ claimed s (node_at s v o q)
    at_other q h = ap (claimed s) (other q h)

    still : (q : Path) (f : List ℕ) → claimed s (node_at s v' o q) ≡ Some f → n ∷ p ≢ q
    still q f h e = let z : ◌≡◌ {A = Option (List ℕ)} None (Some f) = sym (ap (claimed s) (here q e)) ∙ h in cc

    twice_to : NamedTwice s v o → NamedTwice s v' o
    twice_to t = record {
      one = t.one;
      other = t.other;
      folder = t.folder;
      two = t.two;
      first = at_other t.one (not_it t t.one t.folder t.first) ∙ t.first;
      second = at_other t.other (not_it t t.other t.folder t.second) ∙ t.second;
    }

    twice_from : NamedTwice s v' o → NamedTwice s v o
    twice_from t = record {
      one = t.one;
      other = t.other;
      folder = t.folder;
      two = t.two;
      first = sym (at_other t.one (still t.one t.folder t.first)) ∙ t.first;
      second = sym (at_other t.other (still t.other t.folder t.second)) ∙ t.second;
    }

    pub removed : StandsFor s d' marks long o
    removed = record {
      tree = tree';
      root = root';
      first = first';
      marked = record {
        foreign = foreign';
        root = st.marked.root;
        shadowed = shadowed';
        twice = through _ _ _ st.marked.twice (twice_to, twice_from);
      };
      placed = placed';
    }

  -- ---- a node that names no folder
  module _ (folders : (g : List ℕ) → get d' (host_folder g) ≡ get d (host_folder g)) (none_named : claimed s (Some x) ≡ None) where
    is_gone : node s v' o (n ∷ p) (look s v' i n) ≡ None
    is_gone = ap (node s v' o (n ∷ p)) (look_seen s v' i n named ∙ gone)

    present_same : (g : List ℕ) → v'.present g ≡ v.present g
    present_same g = ap is_folder (folders g)

    no_claim : claimed s (node_at s v o (n ∷ p)) ≡ None
    no_claim = ap (claimed s) is_node ∙ none_named

    pub leaf_nodes : (q : Path) → node_at s v' o q ≡ update same_path (node_at s v o) (n ∷ p) None q
    leaf_nodes q = change_leaf s v v' o n i p own at named changed present_same no_claim (ap (claimed s) is_gone) q
        ∙ ap (λ (y : Option Node). update same_path (node_at s v o) (n ∷ p) y q) is_gone

    pub leaf_removed : StandsFor s d' marks long o
    leaf_removed = removed (folders (s.folder_of []) ∙ st.root)
        (leaf_owner s v v' o n i p own at named changed present_same no_claim (ap (claimed s) is_gone)) leaf_nodes
        (λ t q f h z. let w : ◌≡◌ {A = Option (List ℕ)} None (Some f) = sym no_claim ∙ ap (λ (y : Path). claimed s (node_at s v o y)) z ∙ h in cc)

  -- ---- an empty directory
  module _ (t : List ℕ) (is : x ≡ Dir t) (folders : (g : List ℕ) → g ≢ s.folder_of t → get d' (host_folder g) ≡ get d (host_folder g)) (once : NamedOnce s v o) where
    is_dir : node_at s v o (n ∷ p) ≡ Some (Dir t)
    is_dir = is_node ∙ ap (λ (z : Node). Some z) is

    present_else : (g : List ℕ) → g ≢ s.folder_of t → v'.present g ≡ v.present g
    present_else g ne = ap is_folder (folders g ne)

    not_root : s.folder_of [] ≢ s.folder_of t
    unfolding node_at
    not_root z = let a : [] ≡ n ∷ p = once [] (n ∷ p) (s.folder_of t) (ap (λ (y : List ℕ). Some y) z) (ap (claimed s) is_dir) in cc

    pub dir_nodes : (q : Path) → node_at s v' o q ≡ update same_path (node_at s v o) (n ∷ p) None q
    dir_nodes = directory.remove_dir s v v' o n i t p own at named changed present_else once is_dir leaf gone

    pub dir_removed : StandsFor s d' marks long o
    dir_removed = removed (folders (s.folder_of []) not_root ∙ st.root)
        (directory.removed_owner s v v' o n i t p own at named changed present_else once is_dir leaf gone) dir_nodes
        (λ w q f h z. exact.never_twice s v o once w)
