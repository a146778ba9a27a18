-- A file made and a directory made, at a short or a long place.
use Rattle.std.proofs.Common.{◌≡◌, ◌≢◌, ◌↔◌, ℕ, Bool, true, false, cond, List, [], ◌∷◌, ◌++◌, Option, Some, None, IsNone, IsSome, IsTrue, refl, sym, ap, ◌∙◌, subst, inl, inr, ◌⊎◌, true≢false}
use Rattle.std.specs.FinMap.{get, insert}
use Rattle.outside.specs.Disk.{Disk, Node as Thing, folder as Folder, file as Bytes, IsTree, CanPut, CanMakeDir}
use Rattle.deeds.specs.Deeds.{PlainDeed, Puts, DoesAll, AreApart, Unnamed, in_order}
use Rattle.deeds.specs.Repeatable.{IsRepeatable, journal_file, new_file}
use Rattle.deeds.proofs.Amid.{tree_run}
use Rattle.deeds.proofs.Doing.{does_then}
use Rattle.deeds.proofs.Putting.{none_held}
use Rattle.clear_tree.specs.Walk.{Path, same_path, Sealing, Kind, Plain, Named, Node, File, Dir, node_at, claimed, new_owner}
use Rattle.clear_tree.specs.Places.{entry_at, folders_of, host_two, host_folder, host_entry, host_inner, entry_of, entry_where, seen_at, text_d, text_dir, text_dirid, text_contents, text_name}
use Rattle.clear_tree.specs.Marks.{Marks, IsShadowed, known_at}
use Rattle.tree_deed_laws.specs.Trees.{AreTexts, Tree, IsTreeOf, with_node, but_at}
use Rattle.tree_deed_laws.specs.Taken.{taken_by_identifier}
use Rattle.tree_deed_laws.specs.Changes.{IsNew, Leads, CreatesFile, CreatesDirectory}
use Rattle.tree_deed_laws.specs.Deeds.{entry_text, place_of, make_node, create_file_at, create_file_deeds, create_dir_deeds}
use Rattle.tree_deed_laws.proofs.Disk.{get_put, get_put_other, entry_is, inner_is, folder_is, inner_entry, entry_inner, entry_folder, entry_two, folder_entry, folder_inner, folder_two, inner_folder, inner_two}
use Rattle.tree_deed_laws.proofs.Seeing.{nothing, text_of, entry_same, entry_part, some_there, none_below, dir_there, holds_none, holds_it}
use Rattle.tree_deed_laws.proofs.Nodes.{MakesKind, IsNodeFolder, plain_shown, node_shown}
use Rattle.tree_deed_laws.proofs.Filling.{not_long, no_copy, at_place, entry_free, free_seen, kind_name, filled, no_mark_at, folder_at, file_at}
use Rattle.tree_deed_laws.proofs.Phases.{Made, make}
use Rattle.tree_deed_laws.proofs.Places.{free_places, free_identifier}
use Rattle.tree_deed_laws.proofs.Exact.{IsPlace}
use Rattle.tree_deed_laws.proofs.Standing.{IsNewName}
use Rattle.tree_deed_laws.proofs.Stands.{StandsFor, stands, tree_stands}
use Rattle.tree_deed_laws.proofs.Maps.{get_with}
use Rattle.tree_deed_laws.proofs.Creating.{Creation, leaf_created, leaf_nodes, dir_created, dir_nodes}

-- what is known of a new name
pub record NewPlace (s : Sealing) (d : Disk) (marks : Marks) (long : Path → Bool) (o : List ℕ → Path) (p : Path) (i n : List ℕ) : Type 0 where
  pub texts : AreTexts s
  pub st : StandsFor s d marks long o
  pub new : IsNewName s d o p i n
  pub short_free : entry_at s d (s.folder_of i) (s.seal i n) ≡ None
  pub long_free : get d (host_entry (s.folder_of i) (s.long_of (s.seal i n))) ≡ None

module _ {s : Sealing} {d : Disk} {marks : Marks} {long : Path → Bool} {o : List ℕ → Path} {p : Path} {i n : List ℕ} (at : NewPlace s d marks long o p i n) where
  open at use {texts, st, new, short_free, long_free}

  abbrev F : List ℕ
  F = s.folder_of i

  abbrev X : List ℕ
  X = s.seal i n

  text : s.is_text X ≡ true
  text = text_of s texts i n new.named

  here : get d (host_folder F) ≡ Some Folder
  here = dir_there s d o st.root p i new.parent

  -- ---- a host file at the short place
  module _ (header : List ℕ) (part : s.is_part X ≡ true) where
    raw_free : get d (host_entry F X) ≡ None
    raw_free = sym (entry_part s d F X part) ∙ short_free

    abbrev pub plain_disk : Disk
    plain_disk = insert d (host_entry F X) (Bytes header)

    can : CanPut d (host_entry F X)
    can = record { inside = here; free = inl (subst IsNone (sym raw_free) refl) }

    pub plain_does : DoesAll (create_file_at false F X X header) d plain_disk
    plain_does = (plain_disk, inr ((can, none_held (host_entry F X) header d raw_free), refl), refl)

    kept : (g u l : List ℕ) → get plain_disk (host_inner g u l) ≡ get d (host_inner g u l)
    kept g u l = get_put_other d (host_entry F X) (Bytes header) (host_inner g u l) (inner_entry g u l F X)

    it : get plain_disk (host_entry F X) ≡ Some (Bytes header)
    it = get_put d (host_entry F X) (Bytes header)

    at_x : entry_of s plain_disk F X ≡ X
    at_x = ap (λ (w : Option Thing). entry_where w X (s.long_of X)) (entry_part s plain_disk F X part ∙ it)

    alone : IsShadowed s plain_disk i n → ⊥
    alone (inl f) = f.there (ap (λ (z : List ℕ). get plain_disk (host_inner F z f.entry)) at_x ∙ kept F X f.entry ∙ none_below d st.tree F X f.entry raw_free)
    alone (inr w) = some_there _ _ w.long (kept F (s.long_of X) text_name ∙ none_below d st.tree F (s.long_of X) text_name long_free)

    pub plain_run : StandsFor s plain_disk marks (but_at long (n ∷ p) false) o
        × ((q : Path) → node_at s (folders_of s plain_disk) o q ≡ cond (same_path (n ∷ p) q) (Some (File header)) (node_at s (folders_of s d) o q))
    plain_run = (
      leaf_created creation (File header) folders' refl refl (λ f. f),
      leaf_nodes creation (File header) folders' refl refl (λ f. f),
    )
      where
        tree' : IsTree plain_disk
        tree' = tree_run (create_file_at false F X X header) d plain_disk st.tree plain_does

        entry' : (g u : List ℕ) → u ≢ text_dirid → (g ≡ F → u ≡ X → ⊥) → get plain_disk (host_entry g u) ≡ get d (host_entry g u)
        entry' g u nd h = get_put_other d _ (Bytes header) _ (λ z. let w = entry_is g u F X z in h w.0 w.1)

        inner' : (g u l : List ℕ) → (g ≡ F → u ≡ X → ⊥) → get plain_disk (host_inner g u l) ≡ get d (host_inner g u l)
        inner' g u l h = kept g u l

        copies' : (g : List ℕ) → get plain_disk (host_entry g text_dirid) ≡ get d (host_entry g text_dirid)
        copies' g = get_put_other d _ (Bytes header) _ (λ z. no_copy s texts false X text (sym (entry_is g text_dirid F X z).1))

        seen' : seen_at s d F X ≡ None
        seen' = free_seen s d F X st.tree text short_free long_free

        shown' : seen_at s plain_disk F X ≡ Some (Plain header)
        shown' = plain_shown s plain_disk F X header text (entry_part s plain_disk F X part ∙ it)

        at' : IsTrue false ↔ (entry_at s plain_disk F X ≡ None)
        at' = file_at s plain_disk F X header (entry_part s plain_disk F X part ∙ it)

        folders' : (g : List ℕ) → get plain_disk (host_folder g) ≡ get d (host_folder g)
        folders' g = get_put_other d _ (Bytes header) _ (folder_entry g F X)

        creation : Creation s d plain_disk marks long o p i n X (Plain header) false
        creation = record {
          texts = texts;
          st = st;
          at = new.parent;
          no_node = new.free;
          named = new.named;
          tree' = tree';
          place = inl refl;
          entry = entry';
          inner = inner';
          copies = copies';
          free = seen';
          free_entry = raw_free;
          shown = shown';
          good = λ z. cc;
          at_e = at_x;
          alone = alone;
          is_at = at';
        }

  -- ---- a node folder, at either place
  -- its entry is made on the disk d0
  pub record NewNode (b : Bool) (d0 : Disk) (kn t : List ℕ) (kk : Kind) : Type 0 where
    pub there : get d0 (host_folder F) ≡ Some Folder
    pub free0 : get d0 (host_entry F (entry_text s b X)) ≡ None
    pub none0 : (l : List ℕ) → get d0 (host_inner F (entry_text s b X) l) ≡ None
    pub short0 : entry_at s d0 F X ≡ None
    pub part : b ≡ false → s.is_part X ≡ true
    pub kind : MakesKind b kn t kk

  module _ {b : Bool} {d0 : Disk} {kn t : List ℕ} {kk : Kind} (node : NewNode b d0 kn t kk) where
    open node use {there, free0, none0, short0, part, kind}

    abbrev E : List ℕ
    E = entry_text s b X

    abbrev pub made : (d1 : Disk) × Made d0 d1 b F E X
    made = make d0 b F E X there free0 none0

    abbrev pub node_disk : Disk
    node_disk = insert made.0 (host_inner F E kn) (Bytes t)

    pub node_does : DoesAll (make_node b F E X ++ Puts (host_inner F E kn) t ∷ []) d0 node_disk
    node_does = does_then (make_node b F E X) (Puts (host_inner F E kn) t ∷ []) d0 made.0 node_disk made.1.does
        (node_disk, inr ((record { inside = made.1.entry; free = inl (subst IsNone (sym none) refl) }, none_held (host_inner F E kn) t made.0 none), refl), refl)
      where
        none : get made.0 (host_inner F E kn) ≡ None
        none = made.1.none kn (λ z h. kind_name b kn t kk kind h)

    -- if the long place is its own, the short one stays free
    short1 : b ≡ true → entry_at s made.0 F X ≡ None
    short1 h = entry_same s d0 made.0 F X (made.1.off (host_entry F X) (λ z. not_long s texts X X text ((entry_is F X F E z).1 ∙ ap (λ (c : Bool). entry_text s c X) h)) (entry_inner F X F E text_name)) ∙ short0

    pub is_node : IsNodeFolder s node_disk F X b kn t kk
    is_node = filled s made.0 F X b kn t kk kind made.1.entry made.1.name made.1.none short1 part

    pub off_entry : (g u : List ℕ) → (g ≡ F → u ≡ E → ⊥) → get node_disk (host_entry g u) ≡ get d0 (host_entry g u)
    off_entry g u h = get_put_other made.0 _ (Bytes t) _ (entry_inner g u F E kn) ∙ made.1.off (host_entry g u) (λ z. let w = entry_is g u F E z in h w.0 w.1) (entry_inner g u F E text_name)

    pub off_inner : (g u l : List ℕ) → (g ≡ F → u ≡ E → ⊥) → get node_disk (host_inner g u l) ≡ get d0 (host_inner g u l)
    off_inner g u l h = get_put_other made.0 _ (Bytes t) _ (λ z. let w = inner_is g u F E l kn z in h w.0 w.1)
        ∙ made.1.off (host_inner g u l) (inner_entry g u l F E) (λ z. let w = inner_is g u F E l text_name z in h w.0 w.1)

    pub off_folder : (g : List ℕ) → get node_disk (host_folder g) ≡ get d0 (host_folder g)
    off_folder g = get_put_other made.0 _ (Bytes t) _ (folder_inner g F E kn) ∙ made.1.off (host_folder g) (folder_entry g F E) (folder_inner g F E text_name)

-- ---- a directory

-- its deeds, by whether it is at its long place
abbrev makes_dir : Bool → List ℕ → List ℕ → List ℕ → List ℕ → List ℕ → List PlainDeed
makes_dir b F E X G t = create_dir_deeds (record { folder = F; entry = E; long = b }) X G t

module _ (F E X G t : List ℕ) where
  pub dir_ordered : (b : Bool) → in_order (makes_dir b F E X G t) ≡ makes_dir b F E X G t
  dir_ordered false = refl
  dir_ordered true = refl

  pub dir_apart : (b : Bool) → AreApart (makes_dir b F E X G t)
  dir_apart false = (((((λ e. cc), tt), tt), (((λ e. cc), tt), tt), ((((λ e. cc), tt), tt), (((λ e. cc), tt), tt), ((((λ e. cc), tt), tt), (((λ e. cc), tt), tt), tt))), (((((λ e. cc), tt), tt), (((λ e. cc), tt), tt), ((((λ e. cc), tt), tt), (((λ e. cc), tt), tt), tt)), (((((λ e. cc), tt), tt), (((λ e. cc), tt), tt), tt), (tt, tt))))
  dir_apart true = (((((λ e. cc), tt), tt), (((λ e. cc), tt), tt), ((((λ e. cc), tt), tt), (((λ e. cc), tt), tt), ((((λ e. cc), tt), tt), (((λ e. cc), tt), tt), ((((λ e. cc), tt), tt), (((λ e. cc), tt), tt), tt)))), (((((λ e. cc), tt), tt), (((λ e. cc), tt), tt), ((((λ e. cc), tt), tt), (((λ e. cc), tt), tt), ((((λ e. cc), tt), tt), (((λ e. cc), tt), tt), tt))), (((((λ e. cc), tt), tt), (((λ e. cc), tt), tt), ((((λ e. cc), tt), tt), (((λ e. cc), tt), tt), tt)), (((((λ e. cc), tt), tt), (((λ e. cc), tt), tt), tt), (tt, tt)))))

  beside_journal : (b : Bool) → Unnamed journal_file (makes_dir b F E X G t)
  beside_journal false = (((λ e. cc), tt), (((λ e. cc), tt), (((λ e. cc), tt), (((λ e. cc), tt), tt))))
  beside_journal true = (((λ e. cc), tt), (((λ e. cc), tt), (((λ e. cc), tt), (((λ e. cc), tt), (((λ e. cc), tt), tt)))))

  beside_new : (b : Bool) → Unnamed new_file (makes_dir b F E X G t)
  beside_new false = (((λ e. cc), tt), (((λ e. cc), tt), (((λ e. cc), tt), (((λ e. cc), tt), tt))))
  beside_new true = (((λ e. cc), tt), (((λ e. cc), tt), (((λ e. cc), tt), (((λ e. cc), tt), (((λ e. cc), tt), tt)))))

  pub dir_repeatable : (b : Bool) → IsRepeatable (makes_dir b F E X G t)
  dir_repeatable b = record { apart = dir_apart b; beside_journal = beside_journal b; beside_new = beside_new b }

-- ---- the laws

module _ (s : Sealing) (d : Disk) (tree : Tree) (p : Path) (i n : List ℕ) (long : Bool) (drawn : Option (List ℕ)) (texts : AreTexts s) (is : IsTreeOf s d tree) (new : IsNew s d tree p i n long drawn) where
  abbrev o : List ℕ → Path
  o = is.owner

  pub st : StandsFor s d tree.marks tree.long o
  st = stands s d tree is

  pub new_name : IsNewName s d o p i n
  new_name = record { parent = sym (is.exact p) ∙ new.parent; free = sym (is.exact (n ∷ p)) ∙ new.free; named = new.place.named }

  pub places : (entry_at s d (s.folder_of i) (s.seal i n) ≡ None) × (get d (host_entry (s.folder_of i) (s.long_of (s.seal i n))) ≡ None) × (taken_by_identifier s d new.place.claims drawn ≡ None)
  places = free_places s d new.place.claims i n drawn new.place.untaken

  pub with_it : (x : Node) (d' : Disk) (o' : List ℕ → Path) → StandsFor s d' tree.marks (but_at tree.long (n ∷ p) long) o'
      → ((q : Path) → node_at s (folders_of s d') o' q ≡ cond (same_path (n ∷ p) q) (Some x) (node_at s (folders_of s d) o q)) → IsTreeOf s d' (with_node tree (n ∷ p) x long)
  with_it x d' o' st' nodes' = tree_stands s d' (with_node tree (n ∷ p) x long) o' st'
      (λ q. get_with tree.nodes (n ∷ p) x q ∙ ap (λ (z : Option Node). cond (same_path (n ∷ p) q) (Some x) z) (is.exact q) ∙ sym (nodes' q))

file_short : (s : Sealing) (d : Disk) (tree : Tree) (p : Path) (i n header : List ℕ) → AreTexts s → IsTreeOf s d tree → IsNew s d tree p i n false None
    → Leads s d (create_file_deeds (place_of s i n false) (s.seal i n) header) (with_node tree (n ∷ p) (File header) false)
file_short s d tree p i n header texts is new = record {
  after = d1;
  ordered = refl;
  does = does;
  repeatable = record { apart = (tt, tt); beside_journal = (((λ e. cc), tt), tt); beside_new = (((λ e. cc), tt), tt) };
  clear = with_it s d tree p i n false None texts is new (File header) d1 is.owner run.0 run.1;
}
  where
    sf : StandsFor s d tree.marks tree.long is.owner
    sf = st s d tree p i n false None texts is new

    name : IsNewName s d is.owner p i n
    name = new_name s d tree p i n false None texts is new

    free : (entry_at s d (s.folder_of i) (s.seal i n) ≡ None) × (get d (host_entry (s.folder_of i) (s.long_of (s.seal i n))) ≡ None) × (taken_by_identifier s d new.place.claims None ≡ None)
    free = places s d tree p i n false None texts is new

    d1 : Disk
    d1 = insert d (host_entry (s.folder_of i) (s.seal i n)) (Bytes header)

    at : NewPlace s d tree.marks tree.long is.owner p i n
    at = record {
      texts = texts;
      st = sf;
      new = name;
      short_free = free.0;
      long_free = free.1;
    }

    does : DoesAll (create_file_deeds (place_of s i n false) (s.seal i n) header) d d1
    does = plain_does at header (new.place.part refl)

    run : StandsFor s d1 tree.marks (but_at tree.long (n ∷ p) false) is.owner
        × ((q : Path) → node_at s (folders_of s d1) is.owner q ≡ cond (same_path (n ∷ p) q) (Some (File header)) (node_at s (folders_of s d) is.owner q))
    run = plain_run at header (new.place.part refl)

file_long : (s : Sealing) (d : Disk) (tree : Tree) (p : Path) (i n header : List ℕ) → AreTexts s → IsTreeOf s d tree → IsNew s d tree p i n true None
    → Leads s d (create_file_deeds (place_of s i n true) (s.seal i n) header) (with_node tree (n ∷ p) (File header) true)
file_long s d tree p i n header texts is new = record {
  after = d2;
  ordered = refl;
  does = does;
  repeatable = record {
    apart = (((((λ e. cc), tt), tt), (((λ e. cc), tt), tt), ((((λ e. cc), tt), tt), (((λ e. cc), tt), tt), tt)), (((((λ e. cc), tt), tt), (((λ e. cc), tt), tt), tt), (tt, tt)));
    beside_journal = (((λ e. cc), tt), (((λ e. cc), tt), (((λ e. cc), tt), tt)));
    beside_new = (((λ e. cc), tt), (((λ e. cc), tt), (((λ e. cc), tt), tt)));
  };
  clear = with_it s d tree p i n true None texts is new (File header) d2 o done nodes';
}
  where
    o : List ℕ → Path
    o = is.owner

    sf : StandsFor s d tree.marks tree.long o
    sf = st s d tree p i n true None texts is new

    name : IsNewName s d o p i n
    name = new_name s d tree p i n true None texts is new

    F : List ℕ
    F = s.folder_of i

    X : List ℕ
    X = s.seal i n

    E : List ℕ
    E = s.long_of X

    free : (entry_at s d F X ≡ None) × (get d (host_entry F E) ≡ None) × (taken_by_identifier s d new.place.claims None ≡ None)
    free = places s d tree p i n true None texts is new

    text : s.is_text X ≡ true
    text = text_of s texts i n new.place.named

    here : get d (host_folder F) ≡ Some Folder
    here = dir_there s d o sf.root p i name.parent

    none : (l : List ℕ) → get d (host_inner F E l) ≡ None
    none l = none_below d sf.tree F E l free.1

    kind : MakesKind true text_contents header (Plain header)
    kind = inr (inr (refl, refl, refl))

    at : NewPlace s d tree.marks tree.long o p i n
    at = record {
      texts = texts;
      st = sf;
      new = name;
      short_free = free.0;
      long_free = free.1;
    }

    node : NewNode at true d text_contents header (Plain header)
    node = record {
      there = here;
      free0 = free.1;
      none0 = none;
      short0 = free.0;
      part = new.place.part;
      kind = kind;
    }

    d2 : Disk
    d2 = node_disk at node

    does : DoesAll (create_file_at true F E X header) d d2
    does = node_does at node

    it : IsNodeFolder s d2 F X true text_contents header (Plain header)
    it = is_node at node

    shown : (seen_at s d2 F X ≡ Some (Plain header)) × (entry_of s d2 F X ≡ E) × (known_at d2 F E ≡ text_contents)
    shown = node_shown s d2 F X true text_contents header (Plain header) text it

    entry : (g u : List ℕ) → (g ≡ F → u ≡ E → ⊥) → get d2 (host_entry g u) ≡ get d (host_entry g u)
    entry = off_entry at node

    inner' : (g u l : List ℕ) → (g ≡ F → u ≡ E → ⊥) → get d2 (host_inner g u l) ≡ get d (host_inner g u l)
    inner' = off_inner at node

    place : IsPlace s d d2 F X E
    place = at_place s d d2 F X true (λ z. holds_none X _ (none text_name)) (λ z. holds_it X _ (it.name refl))

    copies : (g : List ℕ) → get d2 (host_entry g text_dirid) ≡ get d (host_entry g text_dirid)
    copies g = entry g text_dirid (λ a z. no_copy s texts true X text (sym z))

    tree' : IsTree d2
    tree' = tree_run (create_file_at true F E X header) d d2 sf.tree does

    alone : IsShadowed s d2 i n → ⊥
    alone = no_mark_at s d2 i n true text_contents header (Plain header) text it (λ z. absurd (true≢false z))

    at' : IsTrue true ↔ (entry_at s d2 F X ≡ None)
    at' = folder_at s d2 F X true text_contents header (Plain header) it

    folders' : (g : List ℕ) → get d2 (host_folder g) ≡ get d (host_folder g)
    folders' = off_folder at node

    creation : Creation s d d2 tree.marks tree.long o p i n E (Plain header) true
    creation = record {
      texts = texts;
      st = sf;
      at = name.parent;
      no_node = name.free;
      named = name.named;
      tree' = tree';
      place = place;
      entry = λ g u nd h. entry g u h;
      inner = inner';
      copies = copies;
      free = free_seen s d F X sf.tree text free.0 free.1;
      free_entry = free.1;
      shown = shown.0;
      good = λ z. cc;
      at_e = shown.1;
      alone = alone;
      is_at = at';
    }

    done : StandsFor s d2 tree.marks (but_at tree.long (n ∷ p) true) o
    done = leaf_created creation (File header) folders' refl refl (λ f. f)

    nodes' : (q : Path) → node_at s (folders_of s d2) o q ≡ cond (same_path (n ∷ p) q) (Some (File header)) (node_at s (folders_of s d) o q)
    nodes' = leaf_nodes creation (File header) folders' refl refl (λ f. f)

pub creates_file : CreatesFile
creates_file s d tree p i n header false texts is new = file_short s d tree p i n header texts is new
creates_file s d tree p i n header true texts is new = file_long s d tree p i n header texts is new

pub creates_directory : CreatesDirectory
creates_directory s d tree p i n t b texts is new valid = record {
  after = d4;
  ordered = dir_ordered F E X G t b;
  does = does;
  repeatable = dir_repeatable F E X G t b;
  clear = with_it s d tree p i n b (Some t) texts is new (Dir t) d4 (new_owner o G (n ∷ p)) done nodes';
}
  where
    o : List ℕ → Path
    o = is.owner

    sf : StandsFor s d tree.marks tree.long o
    sf = st s d tree p i n b (Some t) texts is new

    name : IsNewName s d o p i n
    name = new_name s d tree p i n b (Some t) texts is new

    F : List ℕ
    F = s.folder_of i

    X : List ℕ
    X = s.seal i n

    G : List ℕ
    G = s.folder_of t

    E : List ℕ
    E = entry_text s b X

    free' : (entry_at s d F X ≡ None) × (get d (host_entry F (s.long_of X)) ≡ None) × (taken_by_identifier s d new.place.claims (Some t) ≡ None)
    free' = places s d tree p i n b (Some t) texts is new

    ident : (get d (host_folder G) ≡ None) × ((y : List ℕ) → get d (host_two G) ≢ Some (Bytes y)) × ((q : Path) → claimed s (node_at s (folders_of s d) o q) ≢ Some G)
    ident = free_identifier s d tree is new.place.claims t new.place.claimed free'.2

    text : s.is_text X ≡ true
    text = text_of s texts i n new.place.named

    here : get d (host_folder F) ≡ Some Folder
    here = dir_there s d o sf.root p i name.parent

    two : get d (host_two F) ≡ Some Folder
    two = sf.tree.parents (host_folder F) (subst IsSome (sym here) refl)

    top : get d (text_d ∷ []) ≡ Some Folder
    top = sf.tree.parents (host_two F) (subst IsSome (sym two) refl)

    not_same : F ≢ G
    not_same e = some_there _ _ here (ap (λ (h : List ℕ). get d (host_folder h)) e ∙ ident.0)

    d1 : Disk
    d1 = insert d (host_two G) Folder

    d2 : Disk
    d2 = insert d1 (host_folder G) Folder

    absent1 : get d1 (host_folder G) ≡ None
    absent1 = get_put_other d _ Folder (host_folder G) (folder_two G G) ∙ ident.0

    can_two : CanMakeDir d (host_two G)
    can_two = record { inside = top; free = go (get d (host_two G)) refl }
      where
        go : (w : Option Thing) → get d (host_two G) ≡ w → IsNone (get d (host_two G)) ⊎ (get d (host_two G) ≡ Some Folder)
        go None e = inl (subst IsNone (sym e) refl)
        go (Some Folder) e = inr e
        go (Some (Bytes y)) e = absurd (ident.1 y e)

    can_folder : CanMakeDir d1 (host_folder G)
    can_folder = record { inside = get_put d (host_two G) Folder; free = inl (subst IsNone (sym absent1) refl) }

    entry2 : (g u : List ℕ) → get d2 (host_entry g u) ≡ get d (host_entry g u)
    entry2 g u = get_put_other d1 _ Folder _ (entry_folder g u G) ∙ get_put_other d _ Folder _ (entry_two g u G)

    inner2 : (g u l : List ℕ) → get d2 (host_inner g u l) ≡ get d (host_inner g u l)
    inner2 g u l = get_put_other d1 _ Folder _ (inner_folder g u l G) ∙ get_put_other d _ Folder _ (inner_two g u l G)

    folder2 : (g : List ℕ) → g ≢ G → get d2 (host_folder g) ≡ get d (host_folder g)
    folder2 g ne = get_put_other d1 _ Folder _ (λ z. ne (folder_is g G z)) ∙ get_put_other d _ Folder _ (folder_two g G)

    there2 : get d2 (host_folder F) ≡ Some Folder
    there2 = folder2 F not_same ∙ here

    free : get d (host_entry F E) ≡ None
    free = entry_free s d F X b (λ z. sym (entry_part s d F X (new.place.part z)) ∙ free'.0) free'.1

    free2 : get d2 (host_entry F E) ≡ None
    free2 = entry2 F E ∙ free

    none : (l : List ℕ) → get d (host_inner F E l) ≡ None
    none l = none_below d sf.tree F E l free

    none2 : (l : List ℕ) → get d2 (host_inner F E l) ≡ None
    none2 l = inner2 F E l ∙ none l

    short2 : entry_at s d2 F X ≡ None
    short2 = entry_same s d d2 F X (entry2 F X) ∙ free'.0

    kind : MakesKind b text_dir t (Named t)
    kind = inl (refl, refl)

    at : NewPlace s d tree.marks tree.long o p i n
    at = record {
      texts = texts;
      st = sf;
      new = name;
      short_free = free'.0;
      long_free = free'.1;
    }

    node : NewNode at b d2 text_dir t (Named t)
    node = record {
      there = there2;
      free0 = free2;
      none0 = none2;
      short0 = short2;
      part = new.place.part;
      kind = kind;
    }

    d4 : Disk
    d4 = node_disk at node

    does : DoesAll (makes_dir b F E X G t) d d4
    does = (d1, inr (can_two, refl), (d2, inr (can_folder, refl), node_does at node))

    it : IsNodeFolder s d4 F X b text_dir t (Named t)
    it = is_node at node

    shown : (seen_at s d4 F X ≡ Some (Named t)) × (entry_of s d4 F X ≡ E) × (known_at d4 F E ≡ text_dir)
    shown = node_shown s d4 F X b text_dir t (Named t) text it

    entry : (g u : List ℕ) → (g ≡ F → u ≡ E → ⊥) → get d4 (host_entry g u) ≡ get d (host_entry g u)
    entry g u h = off_entry at node g u h ∙ entry2 g u

    inner : (g u l : List ℕ) → (g ≡ F → u ≡ E → ⊥) → get d4 (host_inner g u l) ≡ get d (host_inner g u l)
    inner g u l h = off_inner at node g u l h ∙ inner2 g u l

    folder : (g : List ℕ) → get d4 (host_folder g) ≡ get d2 (host_folder g)
    folder = off_folder at node

    none_in : (u : List ℕ) → get d (host_entry G u) ≡ None
    none_in u = nothing _ (λ y e. some_there _ _ (sf.tree.parents (host_entry G u) (subst IsSome (sym e) refl)) ident.0)

    tree' : IsTree d4
    tree' = tree_run (makes_dir b F E X G t) d d4 sf.tree does

    place : IsPlace s d d4 F X E
    place = at_place s d d4 F X b (λ z. holds_none X _ (none text_name)) (λ z. holds_it X _ (it.name z))

    copies : (g : List ℕ) → get d4 (host_entry g text_dirid) ≡ get d (host_entry g text_dirid)
    copies g = entry g text_dirid (λ a z. no_copy s texts b X text (sym z))

    alone : IsShadowed s d4 i n → ⊥
    alone = no_mark_at s d4 i n b text_dir t (Named t) text it
        (λ z. inner F (s.long_of X) text_name (λ a w. not_long s texts X X text (sym (w ∙ ap (λ (c : Bool). entry_text s c X) z))) ∙ none_below d sf.tree F (s.long_of X) text_name free'.1)

    at' : IsTrue b ↔ (entry_at s d4 F X ≡ None)
    at' = folder_at s d4 F X b text_dir t (Named t) it

    folders' : (g : List ℕ) → g ≢ G → get d4 (host_folder g) ≡ get d (host_folder g)
    folders' g ne = folder g ∙ folder2 g ne

    made' : get d4 (host_folder G) ≡ Some Folder
    made' = folder G ∙ get_put d1 (host_folder G) Folder

    empty' : (u : List ℕ) → get d4 (host_entry G u) ≡ None
    empty' u = entry G u (λ a z. not_same (sym a)) ∙ none_in u

    hollow' : (u l : List ℕ) → get d4 (host_inner G u l) ≡ None
    hollow' u l = inner G u l (λ a z. not_same (sym a)) ∙ none_below d sf.tree G u l (none_in u)

    creation : Creation s d d4 tree.marks tree.long o p i n E (Named t) b
    creation = record {
      texts = texts;
      st = sf;
      at = name.parent;
      no_node = name.free;
      named = name.named;
      tree' = tree';
      place = place;
      entry = λ g u nd h. entry g u h;
      inner = inner;
      copies = copies;
      free = free_seen s d F X sf.tree text free'.0 free'.1;
      free_entry = free;
      shown = shown.0;
      good = λ z. cc;
      at_e = shown.1;
      alone = alone;
      is_at = at';
    }

    done : StandsFor s d4 tree.marks (but_at tree.long (n ∷ p) b) (new_owner o G (n ∷ p))
    done = dir_created creation t refl valid folders' made' ident.0 empty' hollow' ident.2

    nodes' : (q : Path) → node_at s (folders_of s d4) (new_owner o G (n ∷ p)) q ≡ cond (same_path (n ∷ p) q) (Some (Dir t)) (node_at s (folders_of s d) o q)
    nodes' = dir_nodes creation t refl valid folders' made' ident.0 empty' hollow' ident.2
