-- A file, a link, an empty directory removed, from a short or a long place.
use Rattle.std.proofs.Common.{◌≡◌, ◌≢◌, ℕ, Bool, true, false, cond, List, [], ◌∷◌, Option, Some, None, refl, sym, ap, ◌∙◌, subst, inl, inr, ◌⊎◌}
use Rattle.std.specs.FinMap.{get, remove}
use Rattle.outside.specs.Disk.{Disk, Node as Thing, folder as Folder, file as Bytes, IsTree}
use Rattle.outside.specs.Changes.{IsBare, IsFree}
use Rattle.deeds.specs.Deeds.{DoesAll, AreApart, Unnamed, Removes as Removal, RemovesDir, in_order}
use Rattle.deeds.specs.Repeatable.{IsRepeatable, journal_file, new_file}
use Rattle.deeds.proofs.Amid.{tree_run}
use Rattle.deeds.proofs.Doing.{does_then}
use Rattle.clear_tree.specs.Walk.{Path, same_path, Sealing, Kind, Plain, Bare, Node, File, Link, Dir, look, node, node_at, claimed, NamedOnce}
use Rattle.clear_tree.specs.Places.{entry_at, folders_of, host_folder, host_entry, host_inner, entry_of, entry_where, seen_at, text_dir, text_dirid, text_symlink, text_contents, text_name}
use Rattle.clear_tree.specs.Marks.{HasTwin, HasForeign, NamedTwice, Foreign, known_at}
use Rattle.clear_tree.proofs.Paths.{child_apart}
use Rattle.tree_deed_laws.specs.Trees.{AreTexts, Tree, IsTreeOf, without_node}
use Rattle.tree_deed_laws.specs.Changes.{IsHeldByNone, Leads, RemovesFile, RemovesLink, RemovesDirectory}
use Rattle.tree_deed_laws.specs.Deeds.{entry_text, remove_node_at, remove_file_at, remove_dir_at}
use Rattle.tree_deed_laws.proofs.Disk.{get_gone, get_gone_other, entry_is, inner_is, folder_is, inner_entry, entry_inner, entry_folder, folder_entry, folder_inner, inner_folder}
use Rattle.tree_deed_laws.proofs.Seeing.{entry_same, entry_part, entry_none, entry_some, text_cases, some_there, dir_there, holds_none, holds_it, seen_same, long_same}
use Rattle.tree_deed_laws.proofs.Nodes.{MakesKind, IsNodeFolder, node_shown, plain_shown, none_shown}
use Rattle.tree_deed_laws.proofs.Filling.{IsAt, not_long, no_copy, at_place, kind_name, kind_good}
use Rattle.tree_deed_laws.proofs.Phases.{Cleared, clear}
use Rattle.tree_deed_laws.proofs.Standing.{IsPlain, kind_of_file, kind_of_link, kind_of_dir, node_has, text, as_plain, as_folder, empty_folder, copy_is_file}
use Rattle.tree_deed_laws.proofs.Exact.{IsPlace, unset, named_once}
use Rattle.tree_deed_laws.proofs.Stands.{StandsFor, stands}
use Rattle.tree_deed_laws.proofs.Held.{plain, now_at, without_it, none_below}
use Rattle.tree_deed_laws.proofs.Removing.{NodeGone, leaf_removed, leaf_nodes, dir_removed, dir_nodes}

-- ---- a node folder without its known file, which is gone from w, is cleared away
module _ (s : Sealing) (texts : AreTexts s) (w : Disk) (F X : List ℕ) (b : Bool) (text : s.is_text X ≡ true)
    (there : get w (host_entry F (entry_text s b X)) ≡ Some Folder) (bare : (l : List ℕ) → (b ≡ true → l ≢ text_name) → get w (host_inner F (entry_text s b X) l) ≡ None)
    (name : b ≡ true → get w (host_inner F (entry_text s b X) text_name) ≡ Some (Bytes X)) where
  abbrev E : List ℕ
  E = entry_text s b X

  abbrev pub cleared : (d1 : Disk) × Cleared w d1 b F E
  cleared = clear w b F E there bare (λ h. inr (X, name h))

  pub cleared_entry : (g u : List ℕ) → (g ≡ F → u ≡ E → ⊥) → get cleared.0 (host_entry g u) ≡ get w (host_entry g u)
  cleared_entry g u h = cleared.1.off (host_entry g u) (λ z. let a = entry_is g u F E z in h a.0 a.1) (entry_inner g u F E text_name)

  pub cleared_inner : (g u l : List ℕ) → (g ≡ F → u ≡ E → ⊥) → get cleared.0 (host_inner g u l) ≡ get w (host_inner g u l)
  cleared_inner g u l h = cleared.1.off (host_inner g u l) (inner_entry g u l F E) (λ z. let a = inner_is g u F E l text_name z in h a.0 a.1)

  pub cleared_folder : (g : List ℕ) → get cleared.0 (host_folder g) ≡ get w (host_folder g)
  cleared_folder g = cleared.1.off (host_folder g) (folder_entry g F E) (folder_inner g F E text_name)

  -- the text shows nothing any more, if there is no twin
  pub cleared_seen : (b ≡ true → entry_at s w F X ≡ None) → (b ≡ false → get w (host_inner F (s.long_of X) text_name) ≢ Some (Bytes X)) → seen_at s cleared.0 F X ≡ None
  cleared_seen short twin = none_shown s cleared.0 F X text (go b refl) (which b refl)
    where
      go : (c : Bool) → b ≡ c → entry_at s cleared.0 F X ≡ None
      go false h = entry_none s cleared.0 F X (ap (λ (c : Bool). get cleared.0 (host_entry F (entry_text s c X))) (sym h) ∙ cleared.1.entry)
      go true h = entry_same s w cleared.0 F X (cleared_entry F X (λ a z. not_long s texts X X text (z ∙ ap (λ (c : Bool). entry_text s c X) h))) ∙ short h

      which : (c : Bool) → b ≡ c → get cleared.0 (host_inner F (s.long_of X) text_name) ≢ Some (Bytes X)
      which true h z = some_there _ _ z (ap (λ (c : Bool). get cleared.0 (host_inner F (entry_text s c X) text_name)) (sym h) ∙ cleared.1.none text_name)
      which false h z = twin h (sym (cleared_inner F (s.long_of X) text_name (λ a y. not_long s texts X X text (sym (y ∙ ap (λ (c : Bool). entry_text s c X) h)))) ∙ z)

-- ---- the known file removed, and then the folder
module _ (s : Sealing) (texts : AreTexts s) (d : Disk) (F X : List ℕ) (b : Bool) (kn t : List ℕ) (kk : Kind) (text : s.is_text X ≡ true) (node : IsNodeFolder s d F X b kn t kk) where
  abbrev N : List ℕ
  N = entry_text s b X

  abbrev pub cut : Disk
  cut = remove d (host_inner F N kn)

  pub cut_there : get cut (host_entry F N) ≡ Some Folder
  cut_there = get_gone_other d _ (host_entry F N) (entry_inner F N F N kn) ∙ node.entry

  pub cut_bare : (l : List ℕ) → (b ≡ true → l ≢ text_name) → get cut (host_inner F N l) ≡ None
  cut_bare l far = go (text_cases l kn)
    where
      go : (l ≡ kn) ⊎ (l ≢ kn) → get cut (host_inner F N l) ≡ None
      go (inl a) = ap (λ (z : List ℕ). get cut (host_inner F N z)) a ∙ get_gone d (host_inner F N kn)
      go (inr a) = get_gone_other d _ (host_inner F N l) (λ z. a (inner_is F N F N l kn z).2) ∙ node.only l a far

  pub cut_name : b ≡ true → get cut (host_inner F N text_name) ≡ Some (Bytes X)
  cut_name h = get_gone_other d _ (host_inner F N text_name) (λ z. kind_name b kn t kk node.kind (sym (inner_is F N F N text_name kn z).2)) ∙ node.name h

  abbrev pub gone_disk : Disk
  gone_disk = (cleared s texts cut F X b text cut_there cut_bare cut_name).0

  pub gone_does : DoesAll (remove_node_at b F N kn) d gone_disk
  gone_does = (cut, inr (inr (t, node.main), refl), (cleared s texts cut F X b text cut_there cut_bare cut_name).1.does)

  pub gone_entry : get gone_disk (host_entry F N) ≡ None
  gone_entry = (cleared s texts cut F X b text cut_there cut_bare cut_name).1.entry

  pub gone_inner : (l : List ℕ) → get gone_disk (host_inner F N l) ≡ None
  gone_inner = (cleared s texts cut F X b text cut_there cut_bare cut_name).1.none

  pub off_entry : (g u : List ℕ) → (g ≡ F → u ≡ N → ⊥) → get gone_disk (host_entry g u) ≡ get d (host_entry g u)
  off_entry g u h = cleared_entry s texts cut F X b text cut_there cut_bare cut_name g u h ∙ get_gone_other d _ (host_entry g u) (entry_inner g u F N kn)

  pub off_inner : (g u l : List ℕ) → (g ≡ F → u ≡ N → ⊥) → get gone_disk (host_inner g u l) ≡ get d (host_inner g u l)
  off_inner g u l h = cleared_inner s texts cut F X b text cut_there cut_bare cut_name g u l h ∙ get_gone_other d _ (host_inner g u l) (λ z. let a = inner_is g u F N l kn z in h a.0 a.1)

  pub off_folder : (g : List ℕ) → get gone_disk (host_folder g) ≡ get d (host_folder g)
  off_folder g = cleared_folder s texts cut F X b text cut_there cut_bare cut_name g ∙ get_gone_other d _ (host_folder g) (folder_inner g F N kn)

  pub gone_seen : (HasTwin s d F X → ⊥) → seen_at s gone_disk F X ≡ None
  gone_seen twin = cleared_seen s texts cut F X b text cut_there cut_bare cut_name
      (λ h. entry_same s d cut F X (get_gone_other d _ (host_entry F X) (entry_inner F X F N kn)) ∙ node.short h)
      (λ h z. twin (record {
        short = some_there _ _ (entry_part s d F X (node.part h) ∙ subst (λ (c : Bool). get d (host_entry F (entry_text s c X)) ≡ Some Folder) h node.entry);
        long = sym (get_gone_other d _ (host_inner F (s.long_of X) text_name) (λ y. not_long s texts X X text (sym ((inner_is F (s.long_of X) F N text_name kn y).1 ∙ ap (λ (c : Bool). entry_text s c X) h)))) ∙ z;
      }))

module _ (F E kn : List ℕ) (far : kn ≢ text_name) where
  pub node_ordered : (b : Bool) → in_order (remove_node_at b F E kn) ≡ remove_node_at b F E kn
  node_ordered false = refl
  node_ordered true = refl

  pub node_apart : (b : Bool) → AreApart (remove_node_at b F E kn)
  node_apart false = (((((λ e. cc), tt), tt), (((λ e. cc), tt), tt), tt), (tt, tt))
  node_apart true = (((((λ e. far (inner_is F E F E kn text_name e).2), tt), tt), (((λ e. far (sym (inner_is F E F E text_name kn e).2)), tt), tt), ((((λ e. cc), tt), tt), (((λ e. cc), tt), tt), tt)), (((((λ e. cc), tt), tt), (((λ e. cc), tt), tt), tt), (tt, tt)))

  beside_journal : (b : Bool) → Unnamed journal_file (remove_node_at b F E kn)
  beside_journal false = (((λ e. cc), tt), (((λ e. cc), tt), tt))
  beside_journal true = (((λ e. cc), tt), (((λ e. cc), tt), (((λ e. cc), tt), tt)))

  beside_new : (b : Bool) → Unnamed new_file (remove_node_at b F E kn)
  beside_new false = (((λ e. cc), tt), (((λ e. cc), tt), tt))
  beside_new true = (((λ e. cc), tt), (((λ e. cc), tt), (((λ e. cc), tt), tt)))

  pub node_repeatable : (b : Bool) → IsRepeatable (remove_node_at b F E kn)
  node_repeatable b = record { apart = node_apart b; beside_journal = beside_journal b; beside_new = beside_new b }

-- ---- a node folder that names no directory: a link, or a file at its long place
-- a node in a folder of its own, which names no folder and holds nothing foreign
pub record RemovedNode (s : Sealing) (d : Disk) (tree : Tree) (p : Path) (i n : List ℕ) (x : Node) (b : Bool) (kn t : List ℕ) : Type 0 where
  pub texts : AreTexts s
  pub is : IsTreeOf s d tree
  pub held : IsHeldByNone tree p i n x
  pub at_b : IsAt s d (s.folder_of i) (s.seal i n) b
  pub kind : MakesKind b kn t (node_has s d tree.marks tree.long is.owner p i n x b texts (stands s d tree is) (plain s d tree p i n x is held) at_b).0
  pub none_named : claimed s (Some x) ≡ None
  pub no_foreign : HasForeign s d (Some x) → ⊥

module _ {s : Sealing} {d : Disk} {tree : Tree} {p : Path} {i n : List ℕ} {x : Node} {b : Bool} {kn t : List ℕ} (gone_node : RemovedNode s d tree p i n x b kn t) where
  open gone_node use {texts, is, held, at_b, kind, none_named, no_foreign}

  abbrev o : List ℕ → Path
  o = is.owner

  abbrev st : StandsFor s d tree.marks tree.long o
  st = stands s d tree is

  abbrev it : IsPlain s d o p i n x
  it = plain s d tree p i n x is held

  abbrev F : List ℕ
  F = s.folder_of i

  abbrev X : List ℕ
  X = s.seal i n

  abbrev E' : List ℕ
  E' = entry_text s b X

  its_text : s.is_text X ≡ true
  its_text = text s d tree.marks tree.long o p i n x b texts st it at_b

  abbrev kk : Kind
  kk = (node_has s d tree.marks tree.long is.owner p i n x b texts (stands s d tree is) (plain s d tree p i n x is held) at_b).0

  far : kn ≢ text_name
  far = kind_name b kn t kk kind

  folder : IsNodeFolder s d F X b kn t kk
  folder = as_folder s d tree.marks tree.long o p i n x b texts st it at_b kn t kind

  shown : (seen_at s d F X ≡ Some kk) × (entry_of s d F X ≡ E') × (known_at d F E' ≡ kn)
  shown = node_shown s d F X b kn t kk its_text folder

  abbrev d' : Disk
  d' = gone_disk s texts d F X b kn t kk its_text folder

  does : DoesAll (remove_node_at b F E' kn) d d'
  does = gone_does s texts d F X b kn t kk its_text folder

  entry : (g u : List ℕ) → (g ≡ F → u ≡ E' → ⊥) → get d' (host_entry g u) ≡ get d (host_entry g u)
  entry = off_entry s texts d F X b kn t kk its_text folder

  inner : (g u l : List ℕ) → (g ≡ F → u ≡ E' → ⊥) → get d' (host_inner g u l) ≡ get d (host_inner g u l)
  inner = off_inner s texts d F X b kn t kk its_text folder

  tree' : IsTree d'
  tree' = tree_run (remove_node_at b F E' kn) d d' st.tree does

  place : IsPlace s d d' F X E'
  place = at_place s d d' F X b (λ z. holds_it X _ (folder.name z)) (λ z. holds_none X _ (gone_inner s texts d F X b kn t kk its_text folder text_name))

  copies : (q : Path) (j : List ℕ) → node_at s (folders_of s d) o q ≡ Some (Dir j) → n ∷ p ≢ q → get d' (host_entry (s.folder_of j) text_dirid) ≡ get d (host_entry (s.folder_of j) text_dirid)
  copies q j hq ne = entry (s.folder_of j) text_dirid (λ a z. no_copy s texts b X its_text (sym z))

  gone : seen_at s d' F X ≡ None
  gone = gone_seen s texts d F X b kn t kk its_text folder (λ z. it.unmarked (inr z))

  abbrev removal : NodeGone s d d' tree.marks tree.long o p i n E' x kk
  removal = record {
    texts = texts;
    st = st;
    at = it.parent;
    is_node = it.there;
    leaf = none_below s d tree p i n x is held none_named;
    unmarked = it.unmarked;
    no_foreign = no_foreign;
    tree' = tree';
    place = place;
    entry = λ g u nd h. entry g u h;
    inner = inner;
    copies = copies;
    shown = shown.0;
    good = kind_good b kn t kk kind;
    at_e = shown.1;
    gone_entry = gone_entry s texts d F X b kn t kk its_text folder;
    gone = gone;
  }

  done : StandsFor s d' tree.marks tree.long o
  done = leaf_removed removal (off_folder s texts d F X b kn t kk its_text folder) none_named

  nodes' : (q : Path) → node_at s (folders_of s d') o q ≡ cond (same_path (n ∷ p) q) None (node_at s (folders_of s d) o q)
  nodes' = leaf_nodes removal (off_folder s texts d F X b kn t kk its_text folder) none_named

  pub removes_node : Leads s d (remove_node_at b F E' kn) (without_node tree (n ∷ p))
  removes_node = record {
    after = d';
    ordered = node_ordered F E' kn far b;
    does = does;
    repeatable = node_repeatable F E' kn far b;
    clear = without_it s d tree p i n x is held d' done nodes';
  }

pub removes_link : RemovesLink
removes_link s d tree p i n x texts is held =
    removes_node link
  where
    has : (kk : Kind) × (look s (folders_of s d) i n ≡ Some kk) × (kk ≢ Bare) × (node s (folders_of s d) is.owner (n ∷ p) (Some kk) ≡ Some (Link x))
    has = node_has s d tree.marks tree.long is.owner p i n (Link x) (tree.long (n ∷ p)) texts (stands s d tree is) (plain s d tree p i n (Link x) is held) (now_at s d tree p i n (Link x) is held)

    link : RemovedNode s d tree p i n (Link x) (tree.long (n ∷ p)) text_symlink x
    link = record {
      texts = texts;
      is = is;
      held = held;
      at_b = now_at s d tree p i n (Link x) is held;
      kind = inr (inl (refl, kind_of_link s (folders_of s d) is.owner (n ∷ p) has.0 x has.3));
      none_named = refl;
      no_foreign = λ f. f;
    }

-- ---- a file

file_long : (s : Sealing) (d : Disk) (tree : Tree) (p : Path) (i n x : List ℕ) → AreTexts s → IsTreeOf s d tree → IsHeldByNone tree p i n (File x)
    → IsAt s d (s.folder_of i) (s.seal i n) true → Leads s d (remove_file_at true (s.folder_of i) (entry_text s true (s.seal i n))) (without_node tree (n ∷ p))
file_long s d tree p i n x texts is held at_b =
    removes_node file
  where
    has : (kk : Kind) × (look s (folders_of s d) i n ≡ Some kk) × (kk ≢ Bare) × (node s (folders_of s d) is.owner (n ∷ p) (Some kk) ≡ Some (File x))
    has = node_has s d tree.marks tree.long is.owner p i n (File x) true texts (stands s d tree is) (plain s d tree p i n (File x) is held) at_b

    file : RemovedNode s d tree p i n (File x) true text_contents x
    file = record {
      texts = texts;
      is = is;
      held = held;
      at_b = at_b;
      kind = inr (inr (refl, kind_of_file s (folders_of s d) is.owner (n ∷ p) has.0 x has.3, refl));
      none_named = refl;
      no_foreign = λ f. f;
    }

file_short : (s : Sealing) (d : Disk) (tree : Tree) (p : Path) (i n x : List ℕ) → AreTexts s → IsTreeOf s d tree → IsHeldByNone tree p i n (File x)
    → IsAt s d (s.folder_of i) (s.seal i n) false → Leads s d (remove_file_at false (s.folder_of i) (entry_text s false (s.seal i n))) (without_node tree (n ∷ p))
file_short s d tree p i n x texts is held at_b = record {
  after = d';
  ordered = refl;
  does = does;
  repeatable = record { apart = (tt, tt); beside_journal = (((λ e. cc), tt), tt); beside_new = (((λ e. cc), tt), tt) };
  clear = without_it s d tree p i n (File x) is held d' done nodes';
}
  where
    o : List ℕ → Path
    o = is.owner

    st : StandsFor s d tree.marks tree.long o
    st = stands s d tree is

    it : IsPlain s d o p i n (File x)
    it = plain s d tree p i n (File x) is held

    F : List ℕ
    F = s.folder_of i

    X : List ℕ
    X = s.seal i n

    its_text : s.is_text X ≡ true
    its_text = text s d tree.marks tree.long o p i n (File x) false texts st it at_b

    has : (kk : Kind) × (look s (folders_of s d) i n ≡ Some kk) × (kk ≢ Bare) × (node s (folders_of s d) o (n ∷ p) (Some kk) ≡ Some (File x))
    has = node_has s d tree.marks tree.long o p i n (File x) false texts st it at_b

    kind : has.0 ≡ Plain x
    kind = kind_of_file s (folders_of s d) o (n ∷ p) has.0 x has.3

    at_it : entry_at s d F X ≡ Some (Bytes x)
    at_it = as_plain s d tree.marks tree.long o p i n (File x) false texts st it at_b x kind refl

    file : get d (host_entry F X) ≡ Some (Bytes x)
    file = (entry_some s d F X (Bytes x) at_it).1

    d' : Disk
    d' = remove d (host_entry F X)

    does : DoesAll (remove_file_at false F X) d d'
    does = (d', inr (inr (x, file), refl), refl)

    inner : (g u l : List ℕ) → get d' (host_inner g u l) ≡ get d (host_inner g u l)
    inner g u l = get_gone_other d _ (host_inner g u l) (inner_entry g u l F X)

    tree' : IsTree d'
    tree' = tree_run (remove_file_at false F X) d d' st.tree does

    entry : (g u : List ℕ) → u ≢ text_dirid → (g ≡ F → u ≡ X → ⊥) → get d' (host_entry g u) ≡ get d (host_entry g u)
    entry g u nd h = get_gone_other d _ (host_entry g u) (λ z. let a = entry_is g u F X z in h a.0 a.1)

    copies : (q : Path) (j : List ℕ) → node_at s (folders_of s d) o q ≡ Some (Dir j) → n ∷ p ≢ q → get d' (host_entry (s.folder_of j) text_dirid) ≡ get d (host_entry (s.folder_of j) text_dirid)
    copies q j hq ne = get_gone_other d _ _ (λ z. no_copy s texts false X its_text (sym (entry_is (s.folder_of j) text_dirid F X z).1))

    gone : seen_at s d' F X ≡ None
    gone = none_shown s d' F X its_text (entry_none s d' F X (get_gone d (host_entry F X)))
        (λ z. it.unmarked (inr (record { short = some_there _ _ at_it; long = sym (inner F (s.long_of X) text_name) ∙ z })))

    folders' : (g : List ℕ) → get d' (host_folder g) ≡ get d (host_folder g)
    folders' g = get_gone_other d _ (host_folder g) (folder_entry g F X)

    removal : NodeGone s d d' tree.marks tree.long o p i n X (File x) (Plain x)
    removal = record {
      texts = texts;
      st = st;
      at = it.parent;
      is_node = it.there;
      leaf = none_below s d tree p i n (File x) is held refl;
      unmarked = it.unmarked;
      no_foreign = λ f. f;
      tree' = tree';
      place = inl refl;
      entry = entry;
      inner = λ g u l h. inner g u l;
      copies = copies;
      shown = plain_shown s d F X x its_text at_it;
      good = λ z. cc;
      at_e = ap (λ (w : Option Thing). entry_where w X (s.long_of X)) at_it;
      gone_entry = get_gone d (host_entry F X);
      gone = gone;
    }

    done : StandsFor s d' tree.marks tree.long o
    done = leaf_removed removal folders' refl

    nodes' : (q : Path) → node_at s (folders_of s d') o q ≡ cond (same_path (n ∷ p) q) None (node_at s (folders_of s d) o q)
    nodes' = leaf_nodes removal folders' refl

file_at : (s : Sealing) (d : Disk) (tree : Tree) (p : Path) (i n x : List ℕ) (b : Bool) → AreTexts s → IsTreeOf s d tree → IsHeldByNone tree p i n (File x)
    → IsAt s d (s.folder_of i) (s.seal i n) b → Leads s d (remove_file_at b (s.folder_of i) (entry_text s b (s.seal i n))) (without_node tree (n ∷ p))
file_at s d tree p i n x false texts is held at_b = file_short s d tree p i n x texts is held at_b
file_at s d tree p i n x true texts is held at_b = file_long s d tree p i n x texts is held at_b

pub removes_file : RemovesFile
removes_file s d tree p i n x texts is held = file_at s d tree p i n x (tree.long (n ∷ p)) texts is held (now_at s d tree p i n (File x) is held)

-- ---- an empty directory

module _ (F E G : List ℕ) (two : F ≢ G) where
  pub dir_ordered : (b : Bool) → in_order (remove_dir_at b F E G) ≡ remove_dir_at b F E G
  dir_ordered false = refl
  dir_ordered true = refl

  pub dir_apart : (b : Bool) → AreApart (remove_dir_at b F E G)
  dir_apart false = (((((λ e. cc), tt), tt), (((λ e. cc), tt), tt), ((((λ e. cc), tt), tt), (((λ e. cc), tt), tt), ((((λ e. cc), tt), tt), (((λ e. cc), tt), tt), tt))), (((((λ e. two (entry_is F E G text_dirid e).0), tt), tt), (((λ e. two (sym (entry_is G text_dirid F E e).0)), tt), tt), ((((λ e. cc), tt), tt), (((λ e. cc), tt), tt), tt)), (((((λ e. cc), tt), tt), (((λ e. cc), tt), tt), tt), (tt, tt))))
  dir_apart true = (((((λ e. cc), tt), tt), (((λ e. cc), tt), tt), ((((λ e. cc), tt), tt), (((λ e. cc), tt), tt), ((((λ e. cc), tt), tt), (((λ e. cc), tt), tt), ((((λ e. cc), tt), tt), (((λ e. cc), tt), tt), tt)))), (((((λ e. cc), tt), tt), (((λ e. cc), tt), tt), ((((λ e. cc), tt), tt), (((λ e. cc), tt), tt), ((((λ e. cc), tt), tt), (((λ e. cc), tt), tt), tt))), (((((λ e. two (entry_is F E G text_dirid e).0), tt), tt), (((λ e. two (sym (entry_is G text_dirid F E e).0)), tt), tt), ((((λ e. cc), tt), tt), (((λ e. cc), tt), tt), tt)), (((((λ e. cc), tt), tt), (((λ e. cc), tt), tt), tt), (tt, tt)))))

  dir_beside_journal : (b : Bool) → Unnamed journal_file (remove_dir_at b F E G)
  dir_beside_journal false = (((λ e. cc), tt), (((λ e. cc), tt), (((λ e. cc), tt), (((λ e. cc), tt), tt))))
  dir_beside_journal true = (((λ e. cc), tt), (((λ e. cc), tt), (((λ e. cc), tt), (((λ e. cc), tt), (((λ e. cc), tt), tt)))))

  dir_beside_new : (b : Bool) → Unnamed new_file (remove_dir_at b F E G)
  dir_beside_new false = (((λ e. cc), tt), (((λ e. cc), tt), (((λ e. cc), tt), (((λ e. cc), tt), tt))))
  dir_beside_new true = (((λ e. cc), tt), (((λ e. cc), tt), (((λ e. cc), tt), (((λ e. cc), tt), (((λ e. cc), tt), tt)))))

  pub dir_repeatable : (b : Bool) → IsRepeatable (remove_dir_at b F E G)
  dir_repeatable b = record { apart = dir_apart b; beside_journal = dir_beside_journal b; beside_new = dir_beside_new b }

pub removes_directory : RemovesDirectory
removes_directory s d tree p i n t texts is held emptied = record {
  after = d4;
  ordered = dir_ordered F E G two b;
  does = does;
  repeatable = dir_repeatable F E G two b;
  clear = without_it s d tree p i n (Dir t) is held d4 done nodes';
}
  where
    b : Bool
    b = tree.long (n ∷ p)

    at_b : IsAt s d (s.folder_of i) (s.seal i n) b
    at_b = now_at s d tree p i n (Dir t) is held

    o : List ℕ → Path
    o = is.owner

    st : StandsFor s d tree.marks tree.long o
    st = stands s d tree is

    it : IsPlain s d o p i n (Dir t)
    it = plain s d tree p i n (Dir t) is held

    F : List ℕ
    F = s.folder_of i

    X : List ℕ
    X = s.seal i n

    G : List ℕ
    G = s.folder_of t

    E : List ℕ
    E = entry_text s b X

    its_text : s.is_text X ≡ true
    its_text = text s d tree.marks tree.long o p i n (Dir t) b texts st it at_b

    at : node_at s (folders_of s d) o p ≡ Some (Dir i)
    at = it.parent

    is_dir : node_at s (folders_of s d) o (n ∷ p) ≡ Some (Dir t)
    is_dir = it.there

    has : (kk : Kind) × (look s (folders_of s d) i n ≡ Some kk) × (kk ≢ Bare) × (node s (folders_of s d) o (n ∷ p) (Some kk) ≡ Some (Dir t))
    has = node_has s d tree.marks tree.long o p i n (Dir t) b texts st it at_b

    kk : Kind
    kk = has.0

    kind : MakesKind b text_dir t kk
    kind = inl (refl, kind_of_dir s (folders_of s d) o (n ∷ p) kk t has.3)

    node_is : IsNodeFolder s d F X b text_dir t kk
    node_is = as_folder s d tree.marks tree.long o p i n (Dir t) b texts st it at_b text_dir t kind

    once : NamedOnce s (folders_of s d) o
    once = named_once s (folders_of s d) o (unset tree.marks.twice (NamedTwice s (folders_of s d) o) is.marked.twice emptied.once)

    two : F ≢ G
    two e = child_apart n p (sym (once p (n ∷ p) F (ap (claimed s) at) (ap (claimed s) is_dir ∙ ap (λ (z : List ℕ). Some z) (sym e))))

    none_in : (l : List ℕ) → node_at s (folders_of s d) o (l ∷ n ∷ p) ≡ None
    none_in l = sym (is.exact (l ∷ n ∷ p)) ∙ emptied.no_child l

    clean : Foreign s d t → ⊥
    clean f = unset (tree.marks.foreign (n ∷ p)) (HasForeign s d (node_at s (folders_of s d) o (n ∷ p))) (is.marked.foreign (n ∷ p)) emptied.no_foreign
        (subst (λ (z : Option Node). HasForeign s d z) (sym is_dir) f)

    empty : (u : List ℕ) → u ≢ text_dirid → get d (host_entry G u) ≡ None
    empty = empty_folder s d o t (n ∷ p) is_dir none_in clean

    no_folder : get d (host_entry G text_dirid) ≢ Some Folder
    no_folder = copy_is_file s d o t (n ∷ p) is_dir none_in clean

    d2 : Disk
    d2 = gone_disk s texts d F X b text_dir t kk its_text node_is

    d3 : Disk
    d3 = remove d2 (host_entry G text_dirid)

    d4 : Disk
    d4 = remove d3 (host_folder G)

    entry2 : (g u : List ℕ) → (g ≡ F → u ≡ E → ⊥) → get d2 (host_entry g u) ≡ get d (host_entry g u)
    entry2 = off_entry s texts d F X b text_dir t kk its_text node_is

    copy2 : get d2 (host_entry G text_dirid) ≡ get d (host_entry G text_dirid)
    copy2 = entry2 G text_dirid (λ a z. two (sym a))

    free_copy : IsFree (get d2 (host_entry G text_dirid))
    free_copy = go (get d2 (host_entry G text_dirid)) refl
      where
        go : (w : Option Thing) → get d2 (host_entry G text_dirid) ≡ w → IsFree (get d2 (host_entry G text_dirid))
        go None e = inl e
        go (Some (Bytes y)) e = inr (y, e)
        go (Some Folder) e = absurd (no_folder (sym copy2 ∙ e))

    bare_folder : IsBare d3 (host_folder G)
    bare_folder = record {
      below = λ e. cc;
      there = get_gone_other d2 _ (host_folder G) (folder_entry G G text_dirid) ∙ off_folder s texts d F X b text_dir t kk its_text node_is G ∙ dir_there s d o st.root (n ∷ p) t is_dir;
      no_child = λ u. go u (text_cases u text_dirid);
    }
      where
        go : (u : List ℕ) → (u ≡ text_dirid) ⊎ (u ≢ text_dirid) → get d3 (host_entry G u) ≡ None
        go u (inl a) = ap (λ (z : List ℕ). get d3 (host_entry G z)) a ∙ get_gone d2 (host_entry G text_dirid)
        go u (inr far) = get_gone_other d2 _ (host_entry G u) (λ z. far (entry_is G u G text_dirid z).1) ∙ entry2 G u (λ a z. two (sym a)) ∙ empty u far

    does : DoesAll (remove_dir_at b F E G) d d4
    does = does_then (remove_node_at b F E text_dir) (Removal (host_entry G text_dirid) ∷ RemovesDir (host_folder G) ∷ []) d d2 d4
        (gone_does s texts d F X b text_dir t kk its_text node_is) (d3, inr (free_copy, refl), (d4, inr (inr bare_folder, refl), refl))

    entry4 : (g u : List ℕ) → (g ≡ G → u ≡ text_dirid → ⊥) → get d4 (host_entry g u) ≡ get d2 (host_entry g u)
    entry4 g u h = get_gone_other d3 _ (host_entry g u) (entry_folder g u G) ∙ get_gone_other d2 _ (host_entry g u) (λ z. let a = entry_is g u G text_dirid z in h a.0 a.1)

    inner4 : (g u l : List ℕ) → get d4 (host_inner g u l) ≡ get d2 (host_inner g u l)
    inner4 g u l = get_gone_other d3 _ (host_inner g u l) (inner_folder g u l G) ∙ get_gone_other d2 _ (host_inner g u l) (inner_entry g u l G text_dirid)

    shown : (seen_at s d F X ≡ Some kk) × (entry_of s d F X ≡ E) × (known_at d F E ≡ text_dir)
    shown = node_shown s d F X b text_dir t kk its_text node_is

    seen4 : seen_at s d4 F X ≡ None
    seen4 = seen_same s d2 d4 F X (λ z. (entry4 F X (λ a y. two a), (λ l. inner4 F X l), long_same d2 d4 F (s.long_of X) X (λ l. inner4 F (s.long_of X) l)))
        ∙ gone_seen s texts d F X b text_dir t kk its_text node_is (λ z. it.unmarked (inr z))

    -- a directory that stays has another folder
    other_folder : (q : Path) (j : List ℕ) → node_at s (folders_of s d) o q ≡ Some (Dir j) → n ∷ p ≢ q → s.folder_of j ≢ G
    other_folder q j hq ne e = ne (once (n ∷ p) q G (ap (claimed s) is_dir) (ap (claimed s) hq ∙ ap (λ (z : List ℕ). Some z) e))

    tree' : IsTree d4
    tree' = tree_run (remove_dir_at b F E G) d d4 st.tree does

    place : IsPlace s d d4 F X E
    place = at_place s d d4 F X b (λ z. holds_it X _ (node_is.name z)) (λ z. holds_none X _ (inner4 F E text_name ∙ gone_inner s texts d F X b text_dir t kk its_text node_is text_name))

    inner' : (g u l : List ℕ) → (g ≡ F → u ≡ E → ⊥) → get d4 (host_inner g u l) ≡ get d (host_inner g u l)
    inner' g u l h = inner4 g u l ∙ off_inner s texts d F X b text_dir t kk its_text node_is g u l h

    copies : (q : Path) (j : List ℕ) → node_at s (folders_of s d) o q ≡ Some (Dir j) → n ∷ p ≢ q → get d4 (host_entry (s.folder_of j) text_dirid) ≡ get d (host_entry (s.folder_of j) text_dirid)
    copies q j hq ne = entry4 (s.folder_of j) text_dirid (λ a z. other_folder q j hq ne a) ∙ entry2 (s.folder_of j) text_dirid (λ a z. no_copy s texts b X its_text (sym z))

    gone_entry' : get d4 (host_entry F E) ≡ None
    gone_entry' = entry4 F E (λ a z. two a) ∙ gone_entry s texts d F X b text_dir t kk its_text node_is

    folders' : (g : List ℕ) → g ≢ G → get d4 (host_folder g) ≡ get d (host_folder g)
    folders' g ne = get_gone_other d3 _ (host_folder g) (λ z. ne (folder_is g G z)) ∙ get_gone_other d2 _ (host_folder g) (folder_entry g G text_dirid)
        ∙ off_folder s texts d F X b text_dir t kk its_text node_is g

    removal : NodeGone s d d4 tree.marks tree.long o p i n E (Dir t) kk
    removal = record {
      texts = texts;
      st = st;
      at = it.parent;
      is_node = it.there;
      leaf = none_in;
      unmarked = it.unmarked;
      no_foreign = clean;
      tree' = tree';
      place = place;
      entry = λ g u nd h. entry4 g u (λ a z. nd z) ∙ entry2 g u h;
      inner = inner';
      copies = copies;
      shown = shown.0;
      good = kind_good b text_dir t kk kind;
      at_e = shown.1;
      gone_entry = gone_entry';
      gone = seen4;
    }

    done : StandsFor s d4 tree.marks tree.long o
    done = dir_removed removal t refl folders' once

    nodes' : (q : Path) → node_at s (folders_of s d4) o q ≡ cond (same_path (n ∷ p) q) None (node_at s (folders_of s d) o q)
    nodes' = dir_nodes removal t refl folders' once
