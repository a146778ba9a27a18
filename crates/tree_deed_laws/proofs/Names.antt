-- A file, a link, a directory under a new name, between short and long places.
use Rattle.std.proofs.Common.{◌≡◌, ◌≢◌, ℕ, Bool, true, false, List, [], ◌∷◌, Option, Some, None, refl, sym, ap, ◌∙◌, subst, inl, inr, ◌⊎◌, true≢false}
use Rattle.std.specs.FinMap.{get, insert, remove}
use Rattle.outside.specs.Disk.{Disk, Node as Thing, folder as Folder, file as Bytes}
use Rattle.outside.specs.Changes.{set_at}
use Rattle.deeds.specs.Deeds.{DoesAll, AreApart, Unnamed, Renames as Renaming, in_order}
use Rattle.deeds.specs.Repeatable.{IsRepeatable, journal_file, new_file}
use Rattle.deeds.proofs.Amid.{tree_run}
use Rattle.deeds.proofs.Doing.{does_then}
use Rattle.deeds.proofs.Moving.{none_there}
use Rattle.clear_tree.specs.Walk.{Path, Sealing, Kind, Plain, Bare, Node, look, node, node_at, claimed, NamedOnce}
use Rattle.clear_tree.specs.Places.{entry_at, folders_of, host_folder, host_entry, host_inner, entry_of, entry_where, seen_at, text_dirid, text_contents, text_name}
use Rattle.clear_tree.specs.Marks.{Marks, IsShadowed, HasTwin, known_at}
use Rattle.clear_tree.proofs.Owner.{is_name-true}
use Rattle.tree_deed_laws.specs.Trees.{AreTexts}
use Rattle.tree_deed_laws.specs.Deeds.{entry_text, make_node, clear_node, rename_node_at, rename_file_at}
use Rattle.tree_deed_laws.proofs.Disk.{get_put, get_put_other, get_gone, get_gone_other, entry_is, inner_is, inner_entry, entry_inner, folder_entry, folder_inner}
use Rattle.tree_deed_laws.proofs.Seeing.{text_of, entry_same, entry_part, entry_none, entry_some, text_cases, some_there, none_below, dir_there, holds_none, holds_it}
use Rattle.tree_deed_laws.proofs.Nodes.{MakesKind, IsNodeFolder, node_shown, plain_shown, none_shown}
use Rattle.tree_deed_laws.proofs.Filling.{IsAt, not_long, no_copy, at_place, entry_free, free_seen, kind_name, kind_good, filled, folder_kept, no_mark_at, folder_at, file_at}
use Rattle.tree_deed_laws.proofs.Phases.{Made, make}
use Rattle.tree_deed_laws.proofs.Standing.{IsPlain, IsNewName, node_has, as_plain, as_folder}
use Rattle.tree_deed_laws.proofs.Exact.{name_there}
use Rattle.tree_deed_laws.proofs.Stands.{StandsFor}
use Rattle.tree_deed_laws.proofs.Removes.{cleared, cleared_entry, cleared_inner, cleared_folder, cleared_seen}
use Rattle.tree_deed_laws.proofs.Moving.{Moves, Move, leaf_moved, dir_moved}

-- a node gets another name, for which there is room
pub record NameChange (s : Sealing) (d : Disk) (marks : Marks) (long : Path → Bool) (o : List ℕ → Path) (p : Path) (i n k : List ℕ) (x : Node) (b : Bool) : Type 0 where
  pub texts : AreTexts s
  pub st : StandsFor s d marks long o
  pub plain : IsPlain s d o p i n x
  pub new : IsNewName s d o p i k
  pub short_free : entry_at s d (s.folder_of i) (s.seal i k) ≡ None
  pub long_free : get d (host_entry (s.folder_of i) (s.long_of (s.seal i k))) ≡ None
  pub is_at : IsAt s d (s.folder_of i) (s.seal i n) b

module _ {s : Sealing} {d : Disk} {marks : Marks} {long : Path → Bool} {o : List ℕ → Path} {p : Path} {i n k : List ℕ} {x : Node} {b : Bool} (change : NameChange s d marks long o p i n k x b) where
  open change use {texts, st, plain, new, short_free, long_free, is_at}

  abbrev F : List ℕ
  F = s.folder_of i

  abbrev X : List ℕ
  X = s.seal i n

  abbrev Y : List ℕ
  Y = s.seal i k

  abbrev pub E : List ℕ
  E = entry_text s b X

  pub here : get d (host_folder F) ≡ Some Folder
  here = dir_there s d o st.root p i plain.parent

  pub text_x : s.is_text X ≡ true
  text_x = text_of s texts i n (name_there s (folders_of s d) o p n i x plain.parent plain.there)

  text_y : s.is_text Y ≡ true
  text_y = text_of s texts i k new.named

  -- the two names have two texts
  differ : X ≢ Y
  differ h =
      let nn = is_name-true n _ (name_there s (folders_of s d) o p n i x plain.parent plain.there) in
      let nk = is_name-true k _ new.named in
      let e : ◌≡◌ {A = Option (List ℕ)} (Some n) (Some k) = sym nn ∙ ap (s.open_name i) h ∙ nk in
      let same : n ≡ k = cc in
      some_there _ _ plain.there (ap (λ (z : List ℕ). node_at s (folders_of s d) o (z ∷ p)) same ∙ new.free)

  abbrev pub has : (kk : Kind) × (look s (folders_of s d) i n ≡ Some kk) × (kk ≢ Bare) × (node s (folders_of s d) o (n ∷ p) (Some kk) ≡ Some x)
  has = node_has s d marks long o p i n x b texts st plain is_at

  no_twin : HasTwin s d F X → ⊥
  no_twin z = plain.unmarked (inr z)

  -- a text is at the entry of no other text
  text_off : (t u : List ℕ) (e : Bool) → s.is_text t ≡ true → t ≢ u → t ≢ entry_text s e u
  text_off t u false text ne h = ne h
  text_off t u true text ne h = not_long s texts t u text h

  -- ---- into a node folder, at the short place (false) or the long one
  module _ (e : Bool) (part : e ≡ false → s.is_part Y ≡ true) where
    abbrev pub E' : List ℕ
    E' = entry_text s e Y

    pub free' : get d (host_entry F E') ≡ None
    free' = entry_free s d F Y e (λ z. sym (entry_part s d F Y (part z)) ∙ short_free) long_free

    pub none' : (l : List ℕ) → get d (host_inner F E' l) ≡ None
    none' l = none_below d st.tree F E' l free'

    abbrev pub made : (d1 : Disk) × Made d d1 e F E' Y
    made = make d e F E' Y here free' none'

    made_entry : (g u : List ℕ) → (g ≡ F → u ≡ E' → ⊥) → get made.0 (host_entry g u) ≡ get d (host_entry g u)
    made_entry g u h = made.1.off (host_entry g u) (λ z. let w = entry_is g u F E' z in h w.0 w.1) (entry_inner g u F E' text_name)

    made_inner : (g u l : List ℕ) → (g ≡ F → u ≡ E' → ⊥) → get made.0 (host_inner g u l) ≡ get d (host_inner g u l)
    made_inner g u l h = made.1.off (host_inner g u l) (inner_entry g u l F E') (λ z. let w = inner_is g u F E' l text_name z in h w.0 w.1)

    made_folder : (g : List ℕ) → get made.0 (host_folder g) ≡ get d (host_folder g)
    made_folder g = made.1.off (host_folder g) (folder_entry g F E') (folder_inner g F E' text_name)

    -- what the new folder's name.c9s makes of the old text's long place
    long_x : (w : Disk) → ((l : List ℕ) → s.long_of X ≢ E' → get w (host_inner F (s.long_of X) l) ≡ get d (host_inner F (s.long_of X) l)) → (e ≡ true → get w (host_inner F E' text_name) ≡ Some (Bytes Y)) →
        entry_at s d F X ≢ None → get w (host_inner F (s.long_of X) text_name) ≢ Some (Bytes X)
    long_x w same name short z = go (text_cases (s.long_of X) E')
      where
        which : (f : Bool) → e ≡ f → s.long_of X ≡ E' → ⊥
        which false h q = not_long s texts Y X text_y (sym (q ∙ ap (λ (f : Bool). entry_text s f Y) h))
        which true h q =
            let u : ◌≡◌ {A = Option Thing} (Some (Bytes Y)) (Some (Bytes X)) = sym (name h) ∙ ap (λ (t : List ℕ). get w (host_inner F t text_name)) (sym q) ∙ z in
            let f : Y ≡ X = cc in differ (sym f)

        go : (s.long_of X ≡ E') ⊎ (s.long_of X ≢ E') → ⊥
        go (inl q) = which e refl q
        go (inr q) = no_twin (record { short = short; long = sym (same text_name q) ∙ z })

    -- ---- from a node folder
    module _ (kn t : List ℕ) (kind : MakesKind b kn t has.0) (kind' : MakesKind e kn t has.0) where
      old : IsNodeFolder s d F X b kn t has.0
      old = as_folder s d marks long o p i n x b texts st plain is_at kn t kind

      entries : E ≢ E'
      entries h = some_there _ _ old.entry (ap (λ (z : List ℕ). get d (host_entry F z)) h ∙ free')

      its1 : get made.0 (host_inner F E kn) ≡ Some (Bytes t)
      its1 = made_inner F E kn (λ u z. entries z) ∙ old.main

      abbrev pub w : Disk
      w = remove made.0 (host_inner F E kn)

      abbrev pub d2 : Disk
      d2 = insert w (host_inner F E' kn) (Bytes t)

      off2 : (l : List ℕ) → get w (host_inner F E' l) ≡ get made.0 (host_inner F E' l)
      off2 l = get_gone_other made.0 _ (host_inner F E' l) (λ z. entries (sym (inner_is F E' F E l kn z).1))

      short_y : e ≡ true → Y ≢ E'
      short_y h z = not_long s texts Y Y text_y (z ∙ ap (λ (f : Bool). entry_text s f Y) h)

      y_not_e : Y ≢ E
      y_not_e z = text_off Y X b text_y (λ q. differ (sym q)) z

      new2 : IsNodeFolder s d2 F Y e kn t has.0
      new2 = filled s w F Y e kn t has.0 kind'
          (get_gone_other made.0 _ (host_entry F E') (entry_inner F E' F E kn) ∙ made.1.entry)
          (λ h. off2 text_name ∙ made.1.name h) (λ l h. off2 l ∙ made.1.none l h)
          (λ h. entry_same s d w F Y (get_gone_other made.0 _ (host_entry F Y) (entry_inner F Y F E kn) ∙ made_entry F Y (λ u z. short_y h z)) ∙ short_free) part

      entry2 : (g u : List ℕ) → (g ≡ F → u ≡ E' → ⊥) → get d2 (host_entry g u) ≡ get d (host_entry g u)
      entry2 g u h = get_put_other w _ (Bytes t) _ (entry_inner g u F E' kn) ∙ get_gone_other made.0 _ _ (entry_inner g u F E kn) ∙ made_entry g u h

      inner2 : (g u l : List ℕ) → (g ≡ F → u ≡ E' → ⊥) → (g ≡ F → u ≡ E → l ≡ kn → ⊥) → get d2 (host_inner g u l) ≡ get d (host_inner g u l)
      inner2 g u l h h2 = get_put_other w _ (Bytes t) _ (λ z. let y = inner_is g u F E' l kn z in h y.0 y.1)
          ∙ get_gone_other made.0 _ _ (λ z. let y = inner_is g u F E l kn z in h2 y.0 y.1 y.2) ∙ made_inner g u l h

      pub there2 : get d2 (host_entry F E) ≡ Some Folder
      there2 = entry2 F E (λ u z. entries z) ∙ old.entry

      pub bare2 : (l : List ℕ) → (b ≡ true → l ≢ text_name) → get d2 (host_inner F E l) ≡ None
      bare2 l far = go (text_cases l kn)
        where
          go : (l ≡ kn) ⊎ (l ≢ kn) → get d2 (host_inner F E l) ≡ None
          go (inl q) = ap (λ (z : List ℕ). get d2 (host_inner F E z)) q ∙ get_put_other w _ (Bytes t) _ (λ z. entries (inner_is F E F E' kn kn z).1) ∙ get_gone made.0 (host_inner F E kn)
          go (inr q) = inner2 F E l (λ u z. entries z) (λ u z y. q y) ∙ old.only l q far

      pub name2 : b ≡ true → get d2 (host_inner F E text_name) ≡ Some (Bytes X)
      name2 h = inner2 F E text_name (λ u z. entries z) (λ u z y. kind_name b kn t has.0 kind (sym y)) ∙ old.name h

      abbrev pub node_disk : Disk
      node_disk = (cleared s texts d2 F X b text_x there2 bare2 name2).0

      entry3 : (g u : List ℕ) → (g ≡ F → u ≡ E → ⊥) → (g ≡ F → u ≡ E' → ⊥) → get node_disk (host_entry g u) ≡ get d (host_entry g u)
      entry3 g u h1 h2 = cleared_entry s texts d2 F X b text_x there2 bare2 name2 g u h1 ∙ entry2 g u h2

      inner3 : (g u l : List ℕ) → (g ≡ F → u ≡ E → ⊥) → (g ≡ F → u ≡ E' → ⊥) → get node_disk (host_inner g u l) ≡ get d (host_inner g u l)
      inner3 g u l h1 h2 = cleared_inner s texts d2 F X b text_x there2 bare2 name2 g u l h1 ∙ inner2 g u l h2 (λ q z y. h1 q z)

      new3 : IsNodeFolder s node_disk F Y e kn t has.0
      new3 = folder_kept s d2 node_disk F Y e kn t has.0 new2
          (cleared_entry s texts d2 F X b text_x there2 bare2 name2 F E' (λ u z. entries (sym z)))
          (λ l. cleared_inner s texts d2 F X b text_x there2 bare2 name2 F E' l (λ u z. entries (sym z)))
          (λ h. entry_same s d node_disk F Y (entry3 F Y (λ u z. y_not_e z) (λ u z. short_y h z)) ∙ short_free)

      pub node_does : DoesAll (rename_node_at b e F E E' Y kn) d node_disk
      node_does = does_then (make_node e F E' Y) (Renaming (host_inner F E kn) (host_inner F E' kn) ∷ clear_node b F E) d made.0 node_disk made.1.does (
        d2,
        inr (
          (
            record { there = (t, its1); inside = made.1.entry; free = inl (made.1.none kn (λ h. kind_name b kn t has.0 kind)) },
            none_there (host_inner F E kn) (host_inner F E' kn) made.0 (made.1.none kn (λ h. kind_name b kn t has.0 kind)),
          ),
          sym (ap (λ (z : Option Thing). set_at w (host_inner F E' kn) z) its1),
        ),
        (cleared s texts d2 F X b text_x there2 bare2 name2).1.does,
      )

      gone3 : seen_at s node_disk F X ≡ None
      gone3 = cleared_seen s texts d2 F X b text_x there2 bare2 name2
          (λ h. entry_same s d d2 F X (entry2 F X (λ u z. text_off X Y e text_x differ z)) ∙ old.short h)
          (λ h. long_x d2 (λ l q. inner2 F (s.long_of X) l (λ u z. q z) (λ u z y. not_long s texts X X text_x (sym (z ∙ ap (λ (f : Bool). entry_text s f X) h)))) new2.name
          (some_there _ _ (entry_part s d F X (old.part h) ∙ subst (λ (f : Bool). get d (host_entry F (entry_text s f X)) ≡ Some Folder) h old.entry)))

      alone3 : IsShadowed s node_disk i k → ⊥
      alone3 = no_mark_at s node_disk i k e kn t has.0 text_y new3 (λ h. go h (text_cases (s.long_of Y) E))
        where
          go : e ≡ false → (s.long_of Y ≡ E) ⊎ (s.long_of Y ≢ E) → get node_disk (host_inner F (s.long_of Y) text_name) ≡ None
          go h (inl q) = ap (λ (z : List ℕ). get node_disk (host_inner F z text_name)) q ∙ (cleared s texts d2 F X b text_x there2 bare2 name2).1.none text_name
          go h (inr q) = inner3 F (s.long_of Y) text_name (λ u z. q z) (λ u z. not_long s texts Y Y text_y (sym (z ∙ ap (λ (f : Bool). entry_text s f Y) h))) ∙ none_below d st.tree F (s.long_of Y) text_name long_free

      module _ (once : (claimed s (Some x) ≡ None) ⊎ NamedOnce s (folders_of s d) o) where
        pub node_stands : Moves s d node_disk marks long o n k p e
        node_stands = go once
          where
            before : (seen_at s d F X ≡ Some has.0) × (entry_of s d F X ≡ E) × (known_at d F E ≡ kn)
            before = node_shown s d F X b kn t has.0 text_x old

            after : (seen_at s node_disk F Y ≡ Some has.0) × (entry_of s node_disk F Y ≡ E') × (known_at node_disk F E' ≡ kn)
            after = node_shown s node_disk F Y e kn t has.0 text_y new3

            move : Move s d node_disk marks long o p i n k E E' x has.0 e
            move = record {
              texts = texts;
              st = st;
              at = plain.parent;
              is_node = plain.there;
              no_node = new.free;
              named_k = new.named;
              unmarked = plain.unmarked;
              tree' = tree_run (rename_node_at b e F E E' Y kn) d node_disk st.tree node_does;
              place_n = at_place s d node_disk F X b (λ z. holds_it X _ (old.name z)) (λ z. holds_none X _ ((cleared s texts d2 F X b text_x there2 bare2 name2).1.none text_name));
              place_k = at_place s d node_disk F Y e (λ z. holds_none Y _ (none' text_name)) (λ z. holds_it Y _ (new3.name z));
              entry = λ g u nd h1 h2. entry3 g u h1 h2;
              inner = inner3;
              copies = λ g. entry3 g text_dirid (λ u z. no_copy s texts b X text_x (sym z)) (λ u z. no_copy s texts e Y text_y (sym z));
              folders = λ g. cleared_folder s texts d2 F X b text_x there2 bare2 name2 g ∙ get_put_other w _ (Bytes t) _ (folder_inner g F E' kn) ∙ get_gone_other made.0 _ _ (folder_inner g F E kn) ∙ made_folder g;
              shown = before.0;
              good = kind_good b kn t has.0 kind;
              at_e = before.1;
              free = free_seen s d F Y st.tree text_y short_free long_free;
              free_entry = free';
              gone = gone3;
              gone_entry = (cleared s texts d2 F X b text_x there2 bare2 name2).1.entry;
              moved = after.0;
              at_e' = after.1;
              alone = alone3;
              is_at = folder_at s node_disk F Y e kn t has.0 new3;
            }

            go : (claimed s (Some x) ≡ None) ⊎ NamedOnce s (folders_of s d) o → Moves s d node_disk marks long o n k p e
            go (inl leaf) = leaf_moved move leaf
            go (inr ones) = dir_moved move ones

      pub node_entries : E ≢ E'
      node_entries = entries

  -- ---- from a host file
  module _ (y : List ℕ) (ky : has.0 ≡ Plain y) (eb : b ≡ false) where
    it_at : entry_at s d F X ≡ Some (Bytes y)
    it_at = as_plain s d marks long o p i n x b texts st plain is_at y ky eb

    it : get d (host_entry F X) ≡ Some (Bytes y)
    it = (entry_some s d F X (Bytes y) it_at).1

    shown_it : seen_at s d F X ≡ Some has.0
    shown_it = plain_shown s d F X y text_x it_at ∙ ap (λ (z : Kind). Some z) (sym ky)

    at_it : entry_of s d F X ≡ X
    at_it = ap (λ (z : Option Thing). entry_where z X (s.long_of X)) it_at

    good_it : has.0 ≢ Bare
    good_it z = let q : Plain y ≡ Bare = sym ky ∙ z in cc

    module _ (part_y : s.is_part Y ≡ true) where
      raw_y : get d (host_entry F Y) ≡ None
      raw_y = sym (entry_part s d F Y part_y) ∙ short_free

      -- to another one
      abbrev pub away : Disk
      away = remove d (host_entry F X)

      abbrev pub plain_disk : Disk
      plain_disk = insert away (host_entry F Y) (Bytes y)

      pub plain_does : DoesAll (rename_file_at false false F X Y Y) d plain_disk
      plain_does = (plain_disk, inr ((record { there = (y, it); inside = here; free = inl raw_y }, none_there (host_entry F X) (host_entry F Y) d raw_y), sym (ap (λ (z : Option Thing). set_at away (host_entry F Y) z) it)), refl)

      p_inner : (g u l : List ℕ) → get plain_disk (host_inner g u l) ≡ get d (host_inner g u l)
      p_inner g u l = get_put_other away _ (Bytes y) _ (inner_entry g u l F Y) ∙ get_gone_other d _ _ (inner_entry g u l F X)

      p_entry : (g u : List ℕ) → (g ≡ F → u ≡ X → ⊥) → (g ≡ F → u ≡ Y → ⊥) → get plain_disk (host_entry g u) ≡ get d (host_entry g u)
      p_entry g u h1 h2 = get_put_other away _ (Bytes y) _ (λ z. let q = entry_is g u F Y z in h2 q.0 q.1) ∙ get_gone_other d _ _ (λ z. let q = entry_is g u F X z in h1 q.0 q.1)

      p_gone : get plain_disk (host_entry F X) ≡ None
      p_gone = get_put_other away _ (Bytes y) _ (λ z. differ (entry_is F X F Y z).1) ∙ get_gone d (host_entry F X)

      p_it : get plain_disk (host_entry F Y) ≡ Some (Bytes y)
      p_it = get_put away (host_entry F Y) (Bytes y)

      p_at : entry_of s plain_disk F Y ≡ Y
      p_at = ap (λ (z : Option Thing). entry_where z Y (s.long_of Y)) (entry_part s plain_disk F Y part_y ∙ p_it)

      p_alone : IsShadowed s plain_disk i k → ⊥
      p_alone (inl f) = f.there (ap (λ (z : List ℕ). get plain_disk (host_inner F z f.entry)) p_at ∙ p_inner F Y f.entry ∙ none_below d st.tree F Y f.entry raw_y)
      p_alone (inr z) = some_there _ _ z.long (p_inner F (s.long_of Y) text_name ∙ none_below d st.tree F (s.long_of Y) text_name long_free)

      pub plain_stands : claimed s (Some x) ≡ None → Moves s d plain_disk marks long o n k p false
      plain_stands leaf =
          let move : Move s d plain_disk marks long o p i n k X Y x has.0 false = record {
            texts = texts;
            st = st;
            at = plain.parent;
            is_node = plain.there;
            no_node = new.free;
            named_k = new.named;
            unmarked = plain.unmarked;
            tree' = tree_run (rename_file_at false false F X Y Y) d plain_disk st.tree plain_does;
            place_n = inl refl;
            place_k = inl refl;
            entry = λ g u nd h1 h2. p_entry g u h1 h2;
            inner = λ g u l h1 h2. p_inner g u l;
            copies = λ g. p_entry g text_dirid (λ u z. no_copy s texts false X text_x (sym z)) (λ u z. no_copy s texts false Y text_y (sym z));
            folders = λ g. get_put_other away _ (Bytes y) _ (folder_entry g F Y) ∙ get_gone_other d _ _ (folder_entry g F X);
            shown = shown_it;
            good = good_it;
            at_e = at_it;
            free = free_seen s d F Y st.tree text_y short_free long_free;
            free_entry = raw_y;
            gone = none_shown s plain_disk F X text_x (entry_none s plain_disk F X p_gone) (λ z. no_twin (record { short = some_there _ _ it_at; long = sym (p_inner F (s.long_of X) text_name) ∙ z }));
            gone_entry = p_gone;
            moved = plain_shown s plain_disk F Y y text_y (entry_part s plain_disk F Y part_y ∙ p_it) ∙ ap (λ (z : Kind). Some z) (sym ky);
            at_e' = p_at;
            alone = p_alone;
            is_at = file_at s plain_disk F Y y (entry_part s plain_disk F Y part_y ∙ p_it);
          } in
          leaf_moved move leaf

    -- to a long place
    pub not_short : true ≡ false → s.is_part Y ≡ true
    not_short z = absurd (true≢false z)

    abbrev pub L : List ℕ
    L = s.long_of Y

    abbrev pub made_long : (d1 : Disk) × Made d d1 true F L Y
    made_long = made true not_short

    abbrev pub left : Disk
    left = remove made_long.0 (host_entry F X)

    abbrev pub long_disk : Disk
    long_disk = insert left (host_inner F L text_contents) (Bytes y)

    not_l : X ≢ L
    not_l z = not_long s texts X Y text_x z

    it1 : get made_long.0 (host_entry F X) ≡ Some (Bytes y)
    it1 = made_entry true not_short F X (λ u z. not_l z) ∙ it

    pub long_does : DoesAll (rename_file_at false true F X L Y) d long_disk
    long_does = does_then (make_node true F L Y) (Renaming (host_entry F X) (host_inner F L text_contents) ∷ []) d made_long.0 long_disk made_long.1.does (
      long_disk,
      inr (
        (
          record { there = (y, it1); inside = made_long.1.entry; free = inl (made_long.1.none text_contents (λ z h. cc)) },
          none_there (host_entry F X) (host_inner F L text_contents) made_long.0 (made_long.1.none text_contents (λ z h. cc)),
        ),
        sym (ap (λ (z : Option Thing). set_at left (host_inner F L text_contents) z) it1),
      ),
      refl,
    )

    l_new : IsNodeFolder s long_disk F Y true text_contents y has.0
    l_new = filled s left F Y true text_contents y has.0 (inr (inr (refl, ky, refl)))
        (get_gone_other made_long.0 _ (host_entry F L) (λ z. not_l (sym (entry_is F L F X z).1)) ∙ made_long.1.entry)
        (λ h. get_gone_other made_long.0 _ _ (inner_entry F L text_name F X) ∙ made_long.1.name refl)
        (λ l h. get_gone_other made_long.0 _ _ (inner_entry F L l F X) ∙ made_long.1.none l (λ z. h refl))
        (λ h. entry_same s d left F Y (get_gone_other made_long.0 _ (host_entry F Y) (λ z. differ (sym (entry_is F Y F X z).1)) ∙ made_entry true not_short F Y (λ u z. not_long s texts Y Y text_y z)) ∙ short_free) not_short

    l_entry : (g u : List ℕ) → (g ≡ F → u ≡ X → ⊥) → (g ≡ F → u ≡ L → ⊥) → get long_disk (host_entry g u) ≡ get d (host_entry g u)
    l_entry g u h1 h2 = get_put_other left _ (Bytes y) _ (entry_inner g u F L text_contents) ∙ get_gone_other made_long.0 _ _ (λ z. let q = entry_is g u F X z in h1 q.0 q.1) ∙ made_entry true not_short g u h2

    l_inner : (g u l : List ℕ) → (g ≡ F → u ≡ L → ⊥) → get long_disk (host_inner g u l) ≡ get d (host_inner g u l)
    l_inner g u l h = get_put_other left _ (Bytes y) _ (λ z. let q = inner_is g u F L l text_contents z in h q.0 q.1) ∙ get_gone_other made_long.0 _ _ (inner_entry g u l F X) ∙ made_inner true not_short g u l h

    l_gone : get long_disk (host_entry F X) ≡ None
    l_gone = get_put_other left _ (Bytes y) _ (entry_inner F X F L text_contents) ∙ get_gone made_long.0 (host_entry F X)

    pub long_stands : claimed s (Some x) ≡ None → Moves s d long_disk marks long o n k p true
    long_stands leaf =
        let after = node_shown s long_disk F Y true text_contents y has.0 text_y l_new in
        let move : Move s d long_disk marks long o p i n k X L x has.0 true = record {
          texts = texts;
          st = st;
          at = plain.parent;
          is_node = plain.there;
          no_node = new.free;
          named_k = new.named;
          unmarked = plain.unmarked;
          tree' = tree_run (rename_file_at false true F X L Y) d long_disk st.tree long_does;
          place_n = inl refl;
          place_k = at_place s d long_disk F Y true (λ z. holds_none Y _ (none' true not_short text_name)) (λ z. holds_it Y _ (l_new.name z));
          entry = λ g u nd h1 h2. l_entry g u h1 h2;
          inner = λ g u l h1 h2. l_inner g u l h2;
          copies = λ g. l_entry g text_dirid (λ u z. no_copy s texts false X text_x (sym z)) (λ u z. no_copy s texts true Y text_y (sym z));
          folders = λ g. get_put_other left _ (Bytes y) _ (folder_inner g F L text_contents) ∙ get_gone_other made_long.0 _ _ (folder_entry g F X) ∙ made_folder true not_short g;
          shown = shown_it;
          good = good_it;
          at_e = at_it;
          free = free_seen s d F Y st.tree text_y short_free long_free;
          free_entry = long_free;
          gone = none_shown s long_disk F X text_x (entry_none s long_disk F X l_gone) (long_x true not_short long_disk (λ l q. l_inner F (s.long_of X) l (λ u z. q z)) l_new.name (some_there _ _ it_at));
          gone_entry = l_gone;
          moved = after.0;
          at_e' = after.1;
          alone = no_mark_at s long_disk i k true text_contents y has.0 text_y l_new (λ z. absurd (true≢false z));
          is_at = folder_at s long_disk F Y true text_contents y has.0 l_new;
        } in
        leaf_moved move leaf

  -- ---- from a long place to a host file
  module _ (t : List ℕ) (kt : has.0 ≡ Plain t) (eb : b ≡ true) (part_y : s.is_part Y ≡ true) where
    raw_free : get d (host_entry F Y) ≡ None
    raw_free = sym (entry_part s d F Y part_y) ∙ short_free

    kind_t : MakesKind b text_contents t has.0
    kind_t = inr (inr (refl, kt, eb))

    was : IsNodeFolder s d F X b text_contents t has.0
    was = as_folder s d marks long o p i n x b texts st plain is_at text_contents t kind_t

    y_off : Y ≢ E
    y_off z = text_off Y X b text_y (λ q. differ (sym q)) z

    abbrev pub taken_out : Disk
    taken_out = remove d (host_inner F E text_contents)

    abbrev pub put_in : Disk
    put_in = insert taken_out (host_entry F Y) (Bytes t)

    s_entry : (g u : List ℕ) → (g ≡ F → u ≡ Y → ⊥) → get put_in (host_entry g u) ≡ get d (host_entry g u)
    s_entry g u h = get_put_other taken_out _ (Bytes t) _ (λ z. let q = entry_is g u F Y z in h q.0 q.1) ∙ get_gone_other d _ _ (entry_inner g u F E text_contents)

    s_inner : (g u l : List ℕ) → (g ≡ F → u ≡ E → l ≡ text_contents → ⊥) → get put_in (host_inner g u l) ≡ get d (host_inner g u l)
    s_inner g u l h = get_put_other taken_out _ (Bytes t) _ (inner_entry g u l F Y) ∙ get_gone_other d _ _ (λ z. let q = inner_is g u F E l text_contents z in h q.0 q.1 q.2)

    pub s_there : get put_in (host_entry F E) ≡ Some Folder
    s_there = s_entry F E (λ u z. y_off (sym z)) ∙ was.entry

    pub s_bare : (l : List ℕ) → (b ≡ true → l ≢ text_name) → get put_in (host_inner F E l) ≡ None
    s_bare l far = go (text_cases l text_contents)
      where
        go : (l ≡ text_contents) ⊎ (l ≢ text_contents) → get put_in (host_inner F E l) ≡ None
        go (inl q) = ap (λ (z : List ℕ). get put_in (host_inner F E z)) q ∙ get_put_other taken_out _ (Bytes t) _ (inner_entry F E text_contents F Y) ∙ get_gone d (host_inner F E text_contents)
        go (inr q) = s_inner F E l (λ u z y. q y) ∙ was.only l q far

    pub s_name : b ≡ true → get put_in (host_inner F E text_name) ≡ Some (Bytes X)
    s_name h = s_inner F E text_name (λ u z y. cc) ∙ was.name h

    abbrev pub short_disk : Disk
    short_disk = (cleared s texts put_in F X b text_x s_there s_bare s_name).0

    pub short_does : DoesAll (Renaming (host_inner F E text_contents) (host_entry F Y) ∷ clear_node b F E) d short_disk
    short_does = (
      put_in,
      inr ((record { there = (t, was.main); inside = here; free = inl raw_free }, none_there (host_inner F E text_contents) (host_entry F Y) d raw_free), sym (ap (λ (z : Option Thing). set_at taken_out (host_entry F Y) z) was.main)),
      (cleared s texts put_in F X b text_x s_there s_bare s_name).1.does,
    )

    z_entry : (g u : List ℕ) → (g ≡ F → u ≡ E → ⊥) → (g ≡ F → u ≡ Y → ⊥) → get short_disk (host_entry g u) ≡ get d (host_entry g u)
    z_entry g u h1 h2 = cleared_entry s texts put_in F X b text_x s_there s_bare s_name g u h1 ∙ s_entry g u h2

    z_inner : (g u l : List ℕ) → (g ≡ F → u ≡ E → ⊥) → get short_disk (host_inner g u l) ≡ get d (host_inner g u l)
    z_inner g u l h = cleared_inner s texts put_in F X b text_x s_there s_bare s_name g u l h ∙ s_inner g u l (λ q z y. h q z)

    z_none : (l : List ℕ) → get short_disk (host_inner F E l) ≡ None
    z_none = (cleared s texts put_in F X b text_x s_there s_bare s_name).1.none

    z_it : get short_disk (host_entry F Y) ≡ Some (Bytes t)
    z_it = cleared_entry s texts put_in F X b text_x s_there s_bare s_name F Y (λ u z. y_off z) ∙ get_put taken_out (host_entry F Y) (Bytes t)

    z_at : entry_of s short_disk F Y ≡ Y
    z_at = ap (λ (z : Option Thing). entry_where z Y (s.long_of Y)) (entry_part s short_disk F Y part_y ∙ z_it)

    z_twin : get short_disk (host_inner F (s.long_of Y) text_name) ≡ None
    z_twin = go (text_cases (s.long_of Y) E)
      where
        go : (s.long_of Y ≡ E) ⊎ (s.long_of Y ≢ E) → get short_disk (host_inner F (s.long_of Y) text_name) ≡ None
        go (inl q) = ap (λ (z : List ℕ). get short_disk (host_inner F z text_name)) q ∙ z_none text_name
        go (inr q) = z_inner F (s.long_of Y) text_name (λ u z. q z) ∙ none_below d st.tree F (s.long_of Y) text_name long_free

    z_alone : IsShadowed s short_disk i k → ⊥
    z_alone (inl f) = f.there (ap (λ (z : List ℕ). get short_disk (host_inner F z f.entry)) z_at ∙ z_inner F Y f.entry (λ u z. y_off z) ∙ none_below d st.tree F Y f.entry raw_free)
    z_alone (inr z) = some_there _ _ z.long z_twin

    pub short_stands : claimed s (Some x) ≡ None → Moves s d short_disk marks long o n k p false
    short_stands leaf =
        let before = node_shown s d F X b text_contents t has.0 text_x was in
        let move : Move s d short_disk marks long o p i n k E Y x has.0 false = record {
          texts = texts;
          st = st;
          at = plain.parent;
          is_node = plain.there;
          no_node = new.free;
          named_k = new.named;
          unmarked = plain.unmarked;
          tree' = tree_run (Renaming (host_inner F E text_contents) (host_entry F Y) ∷ clear_node b F E) d short_disk st.tree short_does;
          place_n = at_place s d short_disk F X b (λ z. holds_it X _ (was.name z)) (λ z. holds_none X _ (z_none text_name));
          place_k = inl refl;
          entry = λ g u nd h1 h2. z_entry g u h1 h2;
          inner = λ g u l h1 h2. z_inner g u l h1;
          copies = λ g. z_entry g text_dirid (λ u z. no_copy s texts b X text_x (sym z)) (λ u z. no_copy s texts false Y text_y (sym z));
          folders = λ g. cleared_folder s texts put_in F X b text_x s_there s_bare s_name g ∙ get_put_other taken_out _ (Bytes t) _ (folder_entry g F Y) ∙ get_gone_other d _ _ (folder_inner g F E text_contents);
          shown = before.0;
          good = kind_good b text_contents t has.0 kind_t;
          at_e = before.1;
          free = free_seen s d F Y st.tree text_y short_free long_free;
          free_entry = raw_free;
          gone = cleared_seen s texts put_in F X b text_x s_there s_bare s_name (λ h. entry_same s d put_in F X (s_entry F X (λ u z. differ z)) ∙ was.short h) (λ h. absurd (true≢false (sym eb ∙ h)));
          gone_entry = (cleared s texts put_in F X b text_x s_there s_bare s_name).1.entry;
          moved = plain_shown s short_disk F Y t text_y (entry_part s short_disk F Y part_y ∙ z_it) ∙ ap (λ (z : Kind). Some z) (sym kt);
          at_e' = z_at;
          alone = z_alone;
          is_at = file_at s short_disk F Y t (entry_part s short_disk F Y part_y ∙ z_it);
        } in
        leaf_moved move leaf

module _ (F E E' Y kn : List ℕ) (far : kn ≢ text_name) where
  pub node_ordered : (b e : Bool) → in_order (rename_node_at b e F E E' Y kn) ≡ rename_node_at b e F E E' Y kn
  node_ordered false false = refl
  node_ordered true false = refl
  node_ordered false true = refl
  node_ordered true true = refl

  pub node_apart : (b e : Bool) → E ≢ E' → AreApart (rename_node_at b e F E E' Y kn)
  node_apart false false ne = (((((λ e. cc), ((λ e. cc), tt)), tt), (((λ e. cc), tt), (((λ e. cc), tt), tt)), ((((λ e. ne (sym (entry_is F E' F E e).1)), tt), tt), (((λ e. ne (entry_is F E F E' e).1), tt), tt), tt)), (((((λ e. cc), tt), (((λ e. cc), tt), tt)), (((λ e. cc), ((λ e. cc), tt)), tt), tt), (tt, tt)))
  node_apart true false ne = (((((λ e. cc), ((λ e. cc), tt)), tt), (((λ e. cc), tt), (((λ e. cc), tt), tt)), ((((λ e. cc), tt), tt), (((λ e. cc), tt), tt), ((((λ e. ne (sym (entry_is F E' F E e).1)), tt), tt), (((λ e. ne (entry_is F E F E' e).1), tt), tt), tt))), (((((λ e. far (inner_is F E F E kn text_name e).2), tt), (((λ e. ne (sym (inner_is F E' F E kn text_name e).1)), tt), tt)), (((λ e. far (sym (inner_is F E F E text_name kn e).2)), ((λ e. ne (inner_is F E F E' text_name kn e).1), tt)), tt), ((((λ e. cc), tt), (((λ e. cc), tt), tt)), (((λ e. cc), ((λ e. cc), tt)), tt), tt)), (((((λ e. cc), tt), tt), (((λ e. cc), tt), tt), tt), (tt, tt))))
  node_apart false true ne = (((((λ e. cc), tt), tt), (((λ e. cc), tt), tt), ((((λ e. cc), ((λ e. cc), tt)), tt), (((λ e. cc), tt), (((λ e. cc), tt), tt)), ((((λ e. ne (sym (entry_is F E' F E e).1)), tt), tt), (((λ e. ne (entry_is F E F E' e).1), tt), tt), tt))), (((((λ e. ne (sym (inner_is F E' F E text_name kn e).1)), ((λ e. far (sym (inner_is F E' F E' text_name kn e).2)), tt)), tt), (((λ e. ne (inner_is F E F E' kn text_name e).1), tt), (((λ e. far (inner_is F E' F E' kn text_name e).2), tt), tt)), ((((λ e. cc), tt), tt), (((λ e. cc), tt), tt), tt)), (((((λ e. cc), tt), (((λ e. cc), tt), tt)), (((λ e. cc), ((λ e. cc), tt)), tt), tt), (tt, tt))))
  node_apart true true ne = (((((λ e. cc), tt), tt), (((λ e. cc), tt), tt), ((((λ e. cc), ((λ e. cc), tt)), tt), (((λ e. cc), tt), (((λ e. cc), tt), tt)), ((((λ e. cc), tt), tt), (((λ e. cc), tt), tt), ((((λ e. ne (sym (entry_is F E' F E e).1)), tt), tt), (((λ e. ne (entry_is F E F E' e).1), tt), tt), tt)))), (((((λ e. ne (sym (inner_is F E' F E text_name kn e).1)), ((λ e. far (sym (inner_is F E' F E' text_name kn e).2)), tt)), tt), (((λ e. ne (inner_is F E F E' kn text_name e).1), tt), (((λ e. far (inner_is F E' F E' kn text_name e).2), tt), tt)), ((((λ e. ne (sym (inner_is F E' F E text_name text_name e).1)), tt), tt), (((λ e. ne (inner_is F E F E' text_name text_name e).1), tt), tt), ((((λ e. cc), tt), tt), (((λ e. cc), tt), tt), tt))), (((((λ e. far (inner_is F E F E kn text_name e).2), tt), (((λ e. ne (sym (inner_is F E' F E kn text_name e).1)), tt), tt)), (((λ e. far (sym (inner_is F E F E text_name kn e).2)), ((λ e. ne (inner_is F E F E' text_name kn e).1), tt)), tt), ((((λ e. cc), tt), (((λ e. cc), tt), tt)), (((λ e. cc), ((λ e. cc), tt)), tt), tt)), (((((λ e. cc), tt), tt), (((λ e. cc), tt), tt), tt), (tt, tt)))))

  beside_journal : (b e : Bool) → Unnamed journal_file (rename_node_at b e F E E' Y kn)
  beside_journal false false = (((λ e. cc), tt), (((λ e. cc), ((λ e. cc), tt)), (((λ e. cc), tt), tt)))
  beside_journal true false = (((λ e. cc), tt), (((λ e. cc), ((λ e. cc), tt)), (((λ e. cc), tt), (((λ e. cc), tt), tt))))
  beside_journal false true = (((λ e. cc), tt), (((λ e. cc), tt), (((λ e. cc), ((λ e. cc), tt)), (((λ e. cc), tt), tt))))
  beside_journal true true = (((λ e. cc), tt), (((λ e. cc), tt), (((λ e. cc), ((λ e. cc), tt)), (((λ e. cc), tt), (((λ e. cc), tt), tt)))))

  beside_new : (b e : Bool) → Unnamed new_file (rename_node_at b e F E E' Y kn)
  beside_new false false = (((λ e. cc), tt), (((λ e. cc), ((λ e. cc), tt)), (((λ e. cc), tt), tt)))
  beside_new true false = (((λ e. cc), tt), (((λ e. cc), ((λ e. cc), tt)), (((λ e. cc), tt), (((λ e. cc), tt), tt))))
  beside_new false true = (((λ e. cc), tt), (((λ e. cc), tt), (((λ e. cc), ((λ e. cc), tt)), (((λ e. cc), tt), tt))))
  beside_new true true = (((λ e. cc), tt), (((λ e. cc), tt), (((λ e. cc), ((λ e. cc), tt)), (((λ e. cc), tt), (((λ e. cc), tt), tt)))))

  pub node_repeatable : (b e : Bool) → E ≢ E' → IsRepeatable (rename_node_at b e F E E' Y kn)
  node_repeatable b e ne = record { apart = node_apart b e ne; beside_journal = beside_journal b e; beside_new = beside_new b e }
