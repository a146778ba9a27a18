-- Marks and places of a disk, after a node has a new name.
use Rattle.std.proofs.Common.{◌≡◌, ◌≢◌, ◌↔◌, ℕ, Bool, true, List, [], ◌∷◌, Option, Some, None, IsTrue, sym, ap, ◌∙◌, subst, inl, inr, ◌⊎◌}
use Rattle.std.specs.FinMap.{get}
use Rattle.std.proofs.lemmas.Bool.{cond-true, cond-false}
use Rattle.outside.specs.Disk.{Disk, IsTree}
use Rattle.clear_tree.specs.Walk.{Path, same_path, Sealing, Folders, Kind, Bare, Node, Dir, is_name, look, node_at, claimed, IsOwner, NamedOnce, ChangedTwo}
use Rattle.clear_tree.specs.Places.{entry_at, folders_of, host_folder, host_entry, host_inner, entry_of, text_dirid, is_folder}
use Rattle.clear_tree.specs.Marks.{Marks, HasForeign, IsShadowedIn, IsShadowed, IsForeign}
use Rattle.clear_tree.proofs.Paths.{same_path-from, same_path-apart}
use Rattle.tree_deed_laws.specs.Trees.{AreTexts, swapped, but_at}
use Rattle.tree_deed_laws.proofs.Rename.{ShownMoved, which, stays_other, swapped_twice, swapped-new, swapped-old, swapped-other, swapped-parent, swapped-root, renamed, renamed_owner, renamed_leaf_owner}
use Rattle.tree_deed_laws.proofs.Seeing.{some_there, looked, look_seen, node_kind}
use Rattle.tree_deed_laws.proofs.Exact as exact
use Rattle.tree_deed_laws.proofs.Exact.{through, neither, SameForeign, foreign_to, foreign_from, IsPlace, TwoEntries, name_there, same_twice, has_foreign, is_shadowed_in}
use Rattle.tree_deed_laws.proofs.Stands.{StandsFor}

-- the marks, places and nodes of another disk, with one name changed in the directory at p
abbrev pub Moves : Sealing → Disk → Disk → Marks → (Path → Bool) → (List ℕ → Path) → List ℕ → List ℕ → Path → Bool → Type 0
Moves s d d' marks long o n k p b =
    StandsFor s d'
    (record { foreign = λ q. marks.foreign (swapped (n ∷ p) (k ∷ p) q); shadowed = λ q. marks.shadowed (swapped (n ∷ p) (k ∷ p) q); twice = marks.twice })
    (but_at (λ q. long (swapped (n ∷ p) (k ∷ p) q)) (k ∷ p) b) (λ f. swapped (n ∷ p) (k ∷ p) (o f))
    × ((q : Path) → node_at s (folders_of s d') (λ f. swapped (n ∷ p) (k ∷ p) (o f)) q ≡ node_at s (folders_of s d) o (swapped (n ∷ p) (k ∷ p) q))

-- a node is at another entry of its directory, under another name
pub record Move (s : Sealing) (d d' : Disk) (marks : Marks) (long : Path → Bool) (o : List ℕ → Path) (p : Path) (i n k e e' : List ℕ) (x : Node) (kk : Kind) (b : Bool) : Type 0 where
  pub texts : AreTexts s
  pub st : StandsFor s d marks long o
  pub at : node_at s (folders_of s d) o p ≡ Some (Dir i)
  pub is_node : node_at s (folders_of s d) o (n ∷ p) ≡ Some x
  pub no_node : node_at s (folders_of s d) o (k ∷ p) ≡ None
  pub named_k : is_name k (s.open_name i (s.seal i k)) ≡ true
  pub unmarked : IsShadowed s d i n → ⊥
  pub tree' : IsTree d'
  pub place_n : IsPlace s d d' (s.folder_of i) (s.seal i n) e
  pub place_k : IsPlace s d d' (s.folder_of i) (s.seal i k) e'
  pub entry : (g u : List ℕ) → u ≢ text_dirid → (g ≡ s.folder_of i → u ≡ e → ⊥) → (g ≡ s.folder_of i → u ≡ e' → ⊥) → get d' (host_entry g u) ≡ get d (host_entry g u)
  pub inner : (g u l : List ℕ) → (g ≡ s.folder_of i → u ≡ e → ⊥) → (g ≡ s.folder_of i → u ≡ e' → ⊥) → get d' (host_inner g u l) ≡ get d (host_inner g u l)
  pub copies : (g : List ℕ) → get d' (host_entry g text_dirid) ≡ get d (host_entry g text_dirid)
  pub folders : (g : List ℕ) → get d' (host_folder g) ≡ get d (host_folder g)
  pub shown : (folders_of s d).seen (s.folder_of i) (s.seal i n) ≡ Some kk
  pub good : kk ≢ Bare
  pub at_e : entry_of s d (s.folder_of i) (s.seal i n) ≡ e
  pub free : (folders_of s d).seen (s.folder_of i) (s.seal i k) ≡ None
  pub free_entry : get d (host_entry (s.folder_of i) e') ≡ None
  pub gone : (folders_of s d').seen (s.folder_of i) (s.seal i n) ≡ None
  pub gone_entry : get d' (host_entry (s.folder_of i) e) ≡ None
  pub moved : (folders_of s d').seen (s.folder_of i) (s.seal i k) ≡ Some kk
  pub at_e' : entry_of s d' (s.folder_of i) (s.seal i k) ≡ e'
  pub alone : IsShadowed s d' i k → ⊥
  pub is_at : IsTrue b ↔ (entry_at s d' (s.folder_of i) (s.seal i k) ≡ None)

module _ {s : Sealing} {d d' : Disk} {marks : Marks} {long : Path → Bool} {o : List ℕ → Path} {p : Path} {i n k e e' : List ℕ} {x : Node} {kk : Kind} {b : Bool} (move : Move s d d' marks long o p i n k e e' x kk b) where
  open move use {texts, st, at, is_node, no_node, named_k, unmarked, tree', place_n, place_k, entry, inner, copies, folders, shown, good, at_e, free, free_entry, gone, gone_entry, moved, at_e', alone, is_at}

  abbrev v : Folders
  v = folders_of s d

  abbrev v' : Folders
  v' = folders_of s d'

  abbrev own : IsOwner s v o
  own = st.first

  apart : n ≢ k
  apart h = some_there _ _ is_node (ap (λ (z : List ℕ). node_at s v o (z ∷ p)) h ∙ no_node)

  named : is_name n (s.open_name i (s.seal i n)) ≡ true
  named = name_there s v o p n i x at is_node

  -- the two entries that have changed
  abbrev entries : TwoEntries s d d' o n k i p e e'
  entries = record {
    texts = texts;
    own = own;
    at_p = at;
    named_n = named;
    named_k = named_k;
    place_n = place_n;
    place_k = place_k;
    entry = entry;
    inner = inner;
  }

  changed : ChangedTwo v v' (s.folder_of i) (s.seal i n) (s.seal i k)
  changed = record { others = exact.others entries }

  clean : (w : Disk) → (w ≡ d) ⊎ (w ≡ d') → (IsForeign s w i e → ⊥) × (IsForeign s w i e' → ⊥)
  clean w (inl h) = (
    (λ f. (subst (λ (z : Disk). IsForeign s z i e) h f).no_node (record { name = n; kind = kk; shown = look_seen s v i n named ∙ shown; known = good; place = sym at_e })),
    (λ f. f.there (ap (λ (z : Disk). get z (host_entry (s.folder_of i) e')) h ∙ free_entry)),
  )
  clean w (inr h) = (
    (λ f. f.there (ap (λ (z : Disk). get z (host_entry (s.folder_of i) e)) h ∙ gone_entry)),
    (λ f. (subst (λ (z : Disk). IsForeign s z i e') h f).no_node (record { name = k; kind = kk; shown = look_seen s v' i k named_k ∙ moved; known = good; place = sym at_e' })),
  )

  at_n : (w : Disk) → (w ≡ d) ⊎ (w ≡ d') → (y : Kind) → look s (folders_of s w) i n ≡ Some y → y ≢ Bare → entry_of s w (s.folder_of i) (s.seal i n) ≡ e
  at_n w (inr h) y l q =
      let z : look s v' i n ≡ Some y = ap (λ (u : Disk). look s (folders_of s u) i n) (sym h) ∙ l in
      absurd (some_there _ _ (sym (look_seen s v' i n named) ∙ z) gone)
  at_n w (inl h) y l q = ap (λ (u : Disk). entry_of s u (s.folder_of i) (s.seal i n)) h ∙ at_e

  at_k : (w : Disk) → (w ≡ d) ⊎ (w ≡ d') → (y : Kind) → look s (folders_of s w) i k ≡ Some y → y ≢ Bare → entry_of s w (s.folder_of i) (s.seal i k) ≡ e'
  at_k w (inl h) y l q =
      let z : look s v i k ≡ Some y = ap (λ (u : Disk). look s (folders_of s u) i k) (sym h) ∙ l in
      absurd (some_there _ _ (sym (look_seen s v i k named_k) ∙ z) free)
  at_k w (inr h) y l q = ap (λ (u : Disk). entry_of s u (s.folder_of i) (s.seal i k)) h ∙ at_e'

  foreign_same : (q : Path) (j : List ℕ) → node_at s v o q ≡ Some (Dir j) → SameForeign s d d' j
  foreign_same q j hq = exact.same_foreign entries q j hq (copies (s.folder_of j)) at_n at_k clean

  present_same : (g : List ℕ) → v'.present g ≡ v.present g
  present_same g = ap is_folder (folders g)

  same_seen : v'.seen (s.folder_of i) (s.seal i k) ≡ v.seen (s.folder_of i) (s.seal i n)
  same_seen = moved ∙ sym shown

  -- what is shown under the two names
  abbrev shown_moved : ShownMoved n k p apart s v v' o i
  shown_moved = record {
    own = own;
    at_p = at;
    named_old = named;
    named_new = named_k;
    changed = changed;
    folders = present_same;
    free = free;
    gone = gone;
    moved = same_seen;
  }

  abbrev sw : Path → Path
  sw = swapped (n ∷ p) (k ∷ p)

  abbrev o' : List ℕ → Path
  o' f = sw (o f)

  pub nodes' : (q : Path) → node_at s v' o' q ≡ node_at s v o (sw q)
  nodes' q = renamed n k p apart shown_moved q

  abbrev moved_marks : Marks
  moved_marks = record { foreign = λ q. marks.foreign (sw q); shadowed = λ q. marks.shadowed (sw q); twice = marks.twice }

  foreign' : (q : Path) → IsTrue (marks.foreign (sw q)) ↔ HasForeign s d' (node_at s v' o' q)
  foreign' q = through _ _ _ (st.marked.foreign (sw q)) (has_foreign s d d' (node_at s v o (sw q)) (node_at s v' o' q) (nodes' q)
      (λ j hj. (foreign_to s d d' j (foreign_same (sw q) j hj), foreign_from s d d' j (foreign_same (sw q) j hj))))

  at_old : node_at s v' o' (n ∷ p) ≡ None
  at_old = nodes' (n ∷ p) ∙ ap (node_at s v o) (swapped-old n k p apart) ∙ no_node

  at_new : node_at s v' o' (k ∷ p) ≡ Some x
  at_new = nodes' (k ∷ p) ∙ ap (node_at s v o) (swapped-new n k p apart) ∙ is_node

  at_parent : node_at s v' o' p ≡ Some (Dir i)
  at_parent = nodes' p ∙ ap (node_at s v o) (swapped-parent n k p apart) ∙ at

  shadowed' : (l : List ℕ) (q : Path) → IsTrue (marks.shadowed (sw (l ∷ q))) ↔ IsShadowedIn s d' (node_at s v' o' q) l (node_at s v' o' (l ∷ q))
  shadowed' l q = go (which n k p apart l q)
    where
      go : (n ∷ p ≡ l ∷ q) ⊎ ((k ∷ p ≡ l ∷ q) ⊎ ((n ∷ p ≢ l ∷ q) × (k ∷ p ≢ l ∷ q)))
          → IsTrue (marks.shadowed (sw (l ∷ q))) ↔ IsShadowedIn s d' (node_at s v' o' q) l (node_at s v' o' (l ∷ q))
      go (inl z) =
          let to : sw (l ∷ q) ≡ k ∷ p = ap sw (sym z) ∙ swapped-old n k p apart in
          let now : node_at s v' o' (l ∷ q) ≡ None = ap (node_at s v' o') (sym z) ∙ at_old in
          subst (λ (w : Path). IsTrue (marks.shadowed w) ↔ IsShadowedIn s d' (node_at s v' o' q) l (node_at s v' o' (l ∷ q))) (sym to)
          (neither _ _ _ (st.marked.shadowed k p)
          (λ f. subst (λ (w : Option Node). IsShadowedIn s d (node_at s v o p) k w) no_node f)
          (λ f. subst (λ (w : Option Node). IsShadowedIn s d' (node_at s v' o' q) l w) now f))
      go (inr (inl z)) =
          let ep : q ≡ p = cc in
          let el : l ≡ k = cc in
          let to : sw (l ∷ q) ≡ n ∷ p = ap sw (sym z) ∙ swapped-new n k p apart in
          let now : node_at s v' o' (l ∷ q) ≡ Some x = ap (node_at s v' o') (sym z) ∙ at_new in
          let dir : node_at s v' o' q ≡ Some (Dir i) = ap (node_at s v' o') ep ∙ at_parent in
          subst (λ (w : Path). IsTrue (marks.shadowed w) ↔ IsShadowedIn s d' (node_at s v' o' q) l (node_at s v' o' (l ∷ q))) (sym to)
          (neither _ _ _ (st.marked.shadowed n p)
          (λ f. unmarked (subst (λ (w : Option Node). IsShadowedIn s d w n (Some x)) at (subst (λ (w : Option Node). IsShadowedIn s d (node_at s v o p) n w) is_node f)))
          (λ f. alone (subst (λ (w : List ℕ). IsShadowed s d' i w) el
          (subst (λ (w : Option Node). IsShadowedIn s d' w l (Some x)) dir (subst (λ (w : Option Node). IsShadowedIn s d' (node_at s v' o' q) l w) now f)))))
      go (inr (inr z)) =
          let far : (n ∷ p ≢ l ∷ sw q) × (k ∷ p ≢ l ∷ sw q) = stays_other n k p apart l q (swapped_twice n k p apart q) z.0 z.1 in
          let to : sw (l ∷ q) ≡ l ∷ sw q = swapped-other n k p apart l q z.0 z.1 in
          subst (λ (w : Path). IsTrue (marks.shadowed w) ↔ IsShadowedIn s d' (node_at s v' o' q) l (node_at s v' o' (l ∷ q))) (sym to)
          (through _ _ _ (st.marked.shadowed l (sw q)) (is_shadowed_in s d d' (node_at s v o (sw q)) (node_at s v' o' q) (node_at s v o (l ∷ sw q)) (node_at s v' o' (l ∷ q)) l
          (nodes' (l ∷ q) ∙ ap (node_at s v o) to) (λ y hy. nodes' q)
          (λ j y hj hy.
          let its = name_there s v o (sw q) l j y hj hy in
          let nk = node_kind s v o (sw q) j l y hj hy in
          let sn = (looked s v j l nk.0 nk.1).1 in (
            exact.shadow_to entries (sw q) j hj l its (λ w. far.0 (sym w)) (λ w. far.1 (sym w)) nk.0 sn,
            exact.shadow_from entries (sw q) j hj l its (λ w. far.0 (sym w)) (λ w. far.1 (sym w)) nk.0 sn,
          ))))

  abbrev long' : Path → Bool
  long' = but_at (λ q. long (sw q)) (k ∷ p) b

  placed' : (l : List ℕ) (q : Path) (j : List ℕ) (y : Node) → node_at s v' o' q ≡ Some (Dir j) → node_at s v' o' (l ∷ q) ≡ Some y
      → IsTrue (long' (l ∷ q)) ↔ (entry_at s d' (s.folder_of j) (s.seal j l) ≡ None)
  placed' l q j y hq hl = go (which n k p apart l q)
    where
      go : (n ∷ p ≡ l ∷ q) ⊎ ((k ∷ p ≡ l ∷ q) ⊎ ((n ∷ p ≢ l ∷ q) × (k ∷ p ≢ l ∷ q))) → IsTrue (long' (l ∷ q)) ↔ (entry_at s d' (s.folder_of j) (s.seal j l) ≡ None)
      go (inl z) = absurd (some_there _ _ hl (ap (node_at s v' o') (sym z) ∙ at_old))
      go (inr (inl z)) =
          let ep : q ≡ p = cc in
          let el : l ≡ k = cc in
          let dir : ◌≡◌ {A = Option Node} (Some (Dir j)) (Some (Dir i)) = sym hq ∙ ap (node_at s v' o') ep ∙ at_parent in
          let ej : j ≡ i = cc in
          subst (λ (w : Bool). IsTrue w ↔ (entry_at s d' (s.folder_of j) (s.seal j l) ≡ None))
          (sym (cond-true (same_path (k ∷ p) (l ∷ q)) _ _ (same_path-from (k ∷ p) (l ∷ q) z)))
          (subst (λ (w : List ℕ). IsTrue b ↔ (entry_at s d' (s.folder_of w) (s.seal w l) ≡ None)) (sym ej)
          (subst (λ (w : List ℕ). IsTrue b ↔ (entry_at s d' (s.folder_of i) (s.seal i w) ≡ None)) (sym el) is_at))
      go (inr (inr z)) =
          let far : (n ∷ p ≢ l ∷ sw q) × (k ∷ p ≢ l ∷ sw q) = stays_other n k p apart l q (swapped_twice n k p apart q) z.0 z.1 in
          let to : sw (l ∷ q) ≡ l ∷ sw q = swapped-other n k p apart l q z.0 z.1 in
          let oldq : node_at s v o (sw q) ≡ Some (Dir j) = sym (nodes' q) ∙ hq in
          let oldl : node_at s v o (l ∷ sw q) ≡ Some y = ap (node_at s v o) (sym to) ∙ sym (nodes' (l ∷ q)) ∙ hl in
          let same = exact.entry_at_kept entries (sw q) j oldq l
          (name_there s v o (sw q) l j y oldq oldl) (λ w. far.0 (sym w)) (λ w. far.1 (sym w)) in
          subst (λ (w : Bool). IsTrue w ↔ (entry_at s d' (s.folder_of j) (s.seal j l) ≡ None))
          (ap long (sym to) ∙ sym (cond-false (same_path (k ∷ p) (l ∷ q)) _ _ (same_path-apart (k ∷ p) (l ∷ q) z.1)))
          (through _ _ _ (st.placed l (sw q) j y oldq oldl) ((λ u. same ∙ u), (λ u. sym same ∙ u)))

  renamed_all : IsOwner s v' o' → StandsFor s d' moved_marks long' o'
  renamed_all first' = record {
    tree = tree';
    root = folders (s.folder_of []) ∙ st.root;
    first = first';
    marked = record {
      foreign = foreign';
      root = ap marks.shadowed (swapped-root n k p apart) ∙ st.marked.root;
      shadowed = shadowed';
      twice = through _ _ _ st.marked.twice (
        same_twice s v' v o' o sw (swapped_twice n k p apart) (λ q. sym (ap (claimed s) (nodes' (sw q) ∙ ap (node_at s v o) (swapped_twice n k p apart q)))),
        same_twice s v v' o o' sw (swapped_twice n k p apart) (λ q. ap (claimed s) (nodes' q)),
      );
    };
    placed = placed';
  }

  pub leaf_moved : claimed s (Some x) ≡ None → Moves s d d' marks long o n k p b
  leaf_moved none_named =
      (renamed_all (renamed_leaf_owner n k p apart shown_moved (ap (claimed s) is_node ∙ none_named)), nodes')

  pub dir_moved : NamedOnce s v o → Moves s d d' marks long o n k p b
  dir_moved once = (renamed_all (renamed_owner n k p apart shown_moved once), nodes')
