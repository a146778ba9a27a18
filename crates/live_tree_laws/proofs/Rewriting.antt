-- If the host file of a file gets other bytes, the tree of the disk has them.
use Rattle.std.proofs.Common.{◌≡◌, ◌≢◌, ◌↔◌, ℕ, Bool, true, false, cond, List, [], ◌∷◌, Option, Some, None, IsTrue, bytes_eq, refl, sym, ap, ap₂, ◌∙◌, subst, inl, inr, ◌⊎◌, true≢false}
use Rattle.std.specs.FinMap.{get}
use Rattle.std.proofs.lemmas.Bool.{cond-true, cond-false}
use Rattle.outside.specs.Disk.{Disk, Node as Thing, folder as Folder, file as Bytes, Path as HostPath, IsFile}
use Rattle.clear_tree.specs.Walk.{Path, same_path, Sealing, Folders, Kind, Plain, Bare, Node, File, Link, Dir, Bad, is_name, look, node, node_at, claimed, ChangedAt}
use Rattle.clear_tree.specs.Places.{folders_of, host_folder, host_entry, host_inner, entry_at, entry_of, entry_where, seen_at, short_at, long_at, folder_at, either_kind, kind_where, long_kind, folder_kind, bytes_of, is_folder, known, text_dir, text_dirid, text_symlink, text_contents, text_name}
use Rattle.clear_tree.specs.Marks.{IsShadowed, IsShadowedIn, HasForeign, Foreign, known_at}
use Rattle.clear_tree.specs.Kept.{is_absent, file_path}
use Rattle.clear_tree.proofs.Paths.{path_cases, bytes_same}
use Rattle.clear_tree.proofs.Leaf.{change_leaf, leaf_owner}
use Rattle.clear_tree.proofs.Found.{file_there}
use Rattle.tree_deed_laws.specs.Trees.{Tree, IsTreeOf}
use Rattle.tree_deed_laws.specs.Deeds.{entry_text, place_of}
use Rattle.tree_deed_laws.proofs.Disk.{entry_is, inner_is, folder_entry, folder_inner, entry_inner, inner_entry}
use Rattle.tree_deed_laws.proofs.Seeing.{some_there, text_cases, holds_it, not_shown, entry_some, long_shown, file_bytes, looked, look_seen, node_kind}
use Rattle.tree_deed_laws.proofs.Exact.{through, has_foreign, same_twice}
use Rattle.tree_deed_laws.proofs.Maps.{get_with}
use Rattle.tree_deed_laws.proofs.Standing.{kind_of_file}
use Rattle.tree_deed_laws.proofs.Held.{entries_are_of_places}
use Rattle.live_tree_laws.specs.Writing.{with_file, IsRewritten, file_at, ContentsChange}

-- ---- the disk alone

same_absent : (a c : List ℕ) (o o' : Option Thing) → (o ≡ None → o' ≡ None) → (o' ≡ None → o ≡ None) → entry_where o' a c ≡ entry_where o a c
same_absent a c None None to from = refl
same_absent a c None (Some y) to from = absurd (some_there _ _ refl (to refl))
same_absent a c (Some x) None to from = absurd (some_there _ _ refl (from refl))
same_absent a c (Some x) (Some y) to from = refl

shown_text : (b : Bool) (o : Option Kind) (k : Kind) → cond b o None ≡ Some k → (b ≡ true) × (o ≡ Some k)
shown_text true o k h = (refl, h)
shown_text false o k h = absurd (cc)

is_long : (b : Bool) (o : Option Thing) → IsTrue b ↔ (o ≡ None) → b ≡ is_absent o
is_long true None h = refl
is_long true (Some x) h = absurd (some_there _ _ refl (h.0 refl))
is_long false None h = absurd (true≢false (sym (h.1 refl)))
is_long false (Some x) h = refl

module _ (s : Sealing) (d d' : Disk) (F X old bytes : List ℕ) (H : HostPath) (form : (H ≡ host_entry F X) ⊎ (H ≡ host_inner F (s.long_of X) text_contents))
    (it : get d H ≡ Some (Bytes old)) (now : get d' H ≡ Some (Bytes bytes)) (others : (q : HostPath) → q ≢ H → get d' q ≡ get d q) where
  none_to : (q : HostPath) → get d q ≡ None → get d' q ≡ None
  none_to q h = go (path_cases H q)
    where
      go : ((same_path H q ≡ true) × (H ≡ q)) ⊎ ((same_path H q ≡ false) × (H ≢ q)) → get d' q ≡ None
      go (inl e) = absurd (some_there _ _ it (ap (get d) e.1 ∙ h))
      go (inr e) = others q (λ z. e.1 (sym z)) ∙ h

  none_from : (q : HostPath) → get d' q ≡ None → get d q ≡ None
  none_from q h = go (path_cases H q)
    where
      go : ((same_path H q ≡ true) × (H ≡ q)) ⊎ ((same_path H q ≡ false) × (H ≢ q)) → get d q ≡ None
      go (inl e) = absurd (some_there _ _ now (ap (get d') e.1 ∙ h))
      go (inr e) = sym (others q (λ z. e.1 (sym z))) ∙ h

  file_to : (q : HostPath) → IsFile d q → IsFile d' q
  file_to q f = go (path_cases H q)
    where
      go : ((same_path H q ≡ true) × (H ≡ q)) ⊎ ((same_path H q ≡ false) × (H ≢ q)) → IsFile d' q
      go (inl e) = (bytes, ap (get d') (sym e.1) ∙ now)
      go (inr e) = (f.0, others q (λ z. e.1 (sym z)) ∙ f.1)

  file_from : (q : HostPath) → IsFile d' q → IsFile d q
  file_from q f = go (path_cases H q)
    where
      go : ((same_path H q ≡ true) × (H ≡ q)) ⊎ ((same_path H q ≡ false) × (H ≢ q)) → IsFile d q
      go (inl e) = (old, ap (get d) (sym e.1) ∙ it)
      go (inr e) = (f.0, sym (others q (λ z. e.1 (sym z))) ∙ f.1)

  pub folder : (g : List ℕ) → get d' (host_folder g) ≡ get d (host_folder g)
  folder g = others (host_folder g) (λ e. go e form)
    where
      go : host_folder g ≡ H → (H ≡ host_entry F X) ⊎ (H ≡ host_inner F (s.long_of X) text_contents) → ⊥
      go e (inl f) = folder_entry g F X (e ∙ f)
      go e (inr f) = folder_inner g F (s.long_of X) text_contents (e ∙ f)

  inner : (g u l : List ℕ) → l ≢ text_contents → get d' (host_inner g u l) ≡ get d (host_inner g u l)
  inner g u l far = others (host_inner g u l) (λ e. go e form)
    where
      go : host_inner g u l ≡ H → (H ≡ host_entry F X) ⊎ (H ≡ host_inner F (s.long_of X) text_contents) → ⊥
      go e (inl f) = inner_entry g u l F X (e ∙ f)
      go e (inr f) = far (inner_is g u F (s.long_of X) l text_contents (e ∙ f)).2

  dir_file : (g u : List ℕ) → get d' (host_inner g u text_dir) ≡ get d (host_inner g u text_dir)
  dir_file g u = inner g u text_dir (λ e. cc)

  link_file : (g u : List ℕ) → get d' (host_inner g u text_symlink) ≡ get d (host_inner g u text_symlink)
  link_file g u = inner g u text_symlink (λ e. cc)

  name_file : (g u : List ℕ) → get d' (host_inner g u text_name) ≡ get d (host_inner g u text_name)
  name_file g u = inner g u text_name (λ e. cc)

  -- ---- places
  pub absent_to : (h t : List ℕ) → entry_at s d h t ≡ None → entry_at s d' h t ≡ None
  absent_to h t e = go (s.is_part t) e
    where
      go : (b : Bool) → cond b (get d (host_entry h t)) None ≡ None → cond b (get d' (host_entry h t)) None ≡ None
      go true z = none_to (host_entry h t) z
      go false z = refl

  pub absent_from : (h t : List ℕ) → entry_at s d' h t ≡ None → entry_at s d h t ≡ None
  absent_from h t e = go (s.is_part t) e
    where
      go : (b : Bool) → cond b (get d' (host_entry h t)) None ≡ None → cond b (get d (host_entry h t)) None ≡ None
      go true z = none_from (host_entry h t) z
      go false z = refl

  place : (h t : List ℕ) → entry_of s d' h t ≡ entry_of s d h t
  place h t = same_absent t (s.long_of t) (entry_at s d h t) (entry_at s d' h t) (absent_to h t) (absent_from h t)

  known_same : (h t : List ℕ) → known_at d' h (entry_of s d' h t) ≡ known_at d h (entry_of s d h t)
  known_same h t = ap (known_at d' h) (place h t)
      ∙ ap₂ (λ (a b : Option Thing). known (bytes_of a) (bytes_of b)) (dir_file h (entry_of s d h t)) (link_file h (entry_of s d h t))

  -- ---- what is seen
  short_same : (g u : List ℕ) → short_at d' g u ≡ short_at d g u
  short_same g u = ap₂ (λ (a b : Option Thing). folder_kind (bytes_of a) (bytes_of b) None) (dir_file g u) (link_file g u)

  folder_by : (g e : List ℕ) → folder_at d' g e ≡ folder_kind (bytes_of (get d (host_inner g e text_dir))) (bytes_of (get d (host_inner g e text_symlink))) (bytes_of (get d' (host_inner g e text_contents)))
  folder_by g e = ap₂ (λ (a b : Option Thing). folder_kind (bytes_of a) (bytes_of b) (bytes_of (get d' (host_inner g e text_contents)))) (dir_file g e) (link_file g e)

  module _ (name : H ≡ host_inner F (s.long_of X) text_contents → get d (host_inner F (s.long_of X) text_name) ≡ Some (Bytes X)) (seen : seen_at s d F X ≡ Some (Plain old))
      (seen' : seen_at s d' F X ≡ Some (Plain bytes)) where
    long_same : (g u : List ℕ) → (g ≡ F → u ≡ X → ⊥) → long_at d' g (s.long_of u) u ≡ long_at d g (s.long_of u) u
    long_same g u far = go (path_cases H (host_inner g (s.long_of u) text_contents)) form
      where
        plainly : host_inner g (s.long_of u) text_contents ≢ H → long_at d' g (s.long_of u) u ≡ long_at d g (s.long_of u) u
        plainly ne = ap₂ (λ (a : Option Thing) (k : Kind). long_kind u (bytes_of a) k) (name_file g (s.long_of u))
            (folder_by g (s.long_of u) ∙ ap (λ (c : Option Thing). folder_kind (bytes_of (get d (host_inner g (s.long_of u) text_dir))) (bytes_of (get d (host_inner g (s.long_of u) text_symlink))) (bytes_of c))
            (others (host_inner g (s.long_of u) text_contents) ne))

        shared : g ≡ F → s.long_of u ≡ s.long_of X → H ≡ host_inner F (s.long_of X) text_contents → long_at d' g (s.long_of u) u ≡ long_at d g (s.long_of u) u
        shared eg eu f =
            let at : get d (host_inner g (s.long_of u) text_name) ≡ Some (Bytes X) = ap₂ (λ (a c : List ℕ). get d (host_inner a c text_name)) eg eu ∙ name f in
            let apart : u ≢ X = (λ z. far eg z) in
            not_shown u X _ _ (holds_it X _ (name_file g (s.long_of u) ∙ at)) apart ∙ sym (not_shown u X _ _ (holds_it X _ at) apart)

        go : ((same_path H (host_inner g (s.long_of u) text_contents) ≡ true) × (H ≡ host_inner g (s.long_of u) text_contents))
            ⊎ ((same_path H (host_inner g (s.long_of u) text_contents) ≡ false) × (H ≢ host_inner g (s.long_of u) text_contents))
            → (H ≡ host_entry F X) ⊎ (H ≡ host_inner F (s.long_of X) text_contents) → long_at d' g (s.long_of u) u ≡ long_at d g (s.long_of u) u
        go (inr ne) f = plainly (λ z. ne.1 (sym z))
        go (inl e) (inl f) = absurd (inner_entry g (s.long_of u) text_contents F X (sym e.1 ∙ f))
        go (inl e) (inr f) = let both = inner_is g (s.long_of u) F (s.long_of X) text_contents text_contents (sym e.1 ∙ f) in shared both.0 both.1 f

    entry_same : (g u : List ℕ) → (g ≡ F → u ≡ X → ⊥) → get d' (host_entry g u) ≡ get d (host_entry g u)
    entry_same g u far = others (host_entry g u) (λ e. go e form)
      where
        go : host_entry g u ≡ H → (H ≡ host_entry F X) ⊎ (H ≡ host_inner F (s.long_of X) text_contents) → ⊥
        go e (inl f) = let both = entry_is g u F X (e ∙ f) in far both.0 both.1
        go e (inr f) = entry_inner g u F (s.long_of X) text_contents (e ∙ f)

    pub seen_other : (g u : List ℕ) → (g ≡ F → u ≡ X → ⊥) → seen_at s d' g u ≡ seen_at s d g u
    seen_other g u far =
        ap (λ (w : Option Kind). cond (s.is_text u) w None)
        (ap₂ (λ (a : Option Thing) (k : Kind). either_kind (cond (s.is_part u) a None) k (long_at d' g (s.long_of u) u)) (entry_same g u far) (short_same g u)
        ∙ ap (either_kind (entry_at s d g u) (short_at d g u)) (long_same g u far))

    abbrev v : Folders
    v = folders_of s d

    abbrev v' : Folders
    v' = folders_of s d'

    -- what a name shows there was shown before, of whatever bytes
    look_from : (j m : List ℕ) (k : Kind) → look s v' j m ≡ Some k → k ≢ Bare → (k' : Kind) × (look s v j m ≡ Some k') × (k' ≢ Bare)
    look_from j m k h ne = go (text_cases (s.folder_of j) F) (text_cases (s.seal j m) X)
      where
        at : (is_name m (s.open_name j (s.seal j m)) ≡ true) × (v'.seen (s.folder_of j) (s.seal j m) ≡ Some k)
        at = looked s v' j m k h

        apart : (s.folder_of j ≡ F → s.seal j m ≡ X → ⊥) → (k' : Kind) × (look s v j m ≡ Some k') × (k' ≢ Bare)
        apart far = (k, look_seen s v j m at.0 ∙ sym (seen_other (s.folder_of j) (s.seal j m) far) ∙ at.1, ne)

        go : (s.folder_of j ≡ F) ⊎ (s.folder_of j ≢ F) → (s.seal j m ≡ X) ⊎ (s.seal j m ≢ X) → (k' : Kind) × (look s v j m ≡ Some k') × (k' ≢ Bare)
        go (inl a) (inl b) = (Plain old, look_seen s v j m at.0 ∙ ap₂ (λ (x y : List ℕ). seen_at s d x y) a b ∙ seen, (λ z. cc))
        go (inl a) (inr b) = apart (λ x y. b y)
        go (inr a) b = apart (λ x y. a x)

    look_to : (j m : List ℕ) (k : Kind) → look s v j m ≡ Some k → k ≢ Bare → (k' : Kind) × (look s v' j m ≡ Some k') × (k' ≢ Bare)
    look_to j m k h ne = go (text_cases (s.folder_of j) F) (text_cases (s.seal j m) X)
      where
        at : (is_name m (s.open_name j (s.seal j m)) ≡ true) × (v.seen (s.folder_of j) (s.seal j m) ≡ Some k)
        at = looked s v j m k h

        apart : (s.folder_of j ≡ F → s.seal j m ≡ X → ⊥) → (k' : Kind) × (look s v' j m ≡ Some k') × (k' ≢ Bare)
        apart far = (k, look_seen s v' j m at.0 ∙ seen_other (s.folder_of j) (s.seal j m) far ∙ at.1, ne)

        go : (s.folder_of j ≡ F) ⊎ (s.folder_of j ≢ F) → (s.seal j m ≡ X) ⊎ (s.seal j m ≢ X) → (k' : Kind) × (look s v' j m ≡ Some k') × (k' ≢ Bare)
        go (inl a) (inl b) = (Plain bytes, look_seen s v' j m at.0 ∙ ap₂ (λ (x y : List ℕ). seen_at s d' x y) a b ∙ seen', (λ z. cc))
        go (inl a) (inr b) = apart (λ x y. b y)
        go (inr a) b = apart (λ x y. a x)

    -- ---- marks of one directory and one name
    pub foreign_to : (j : List ℕ) → Foreign s d j → Foreign s d' j
    foreign_to j (u, f) = (
      u,
      record {
        there = λ z. f.there (none_from (host_entry (s.folder_of j) u) z);
        no_copy = λ z w. f.no_copy z (file_from (host_entry (s.folder_of j) text_dirid) w);
        no_node = λ x. let was = look_from j x.name x.kind x.shown x.known in
            f.no_node (record { name = x.name; kind = was.0; shown = was.1; known = was.2; place = x.place ∙ place (s.folder_of j) (s.seal j x.name) });
      },
    )

    pub foreign_from : (j : List ℕ) → Foreign s d' j → Foreign s d j
    foreign_from j (u, f) = (
      u,
      record {
        there = λ z. f.there (none_to (host_entry (s.folder_of j) u) z);
        no_copy = λ z w. f.no_copy z (file_to (host_entry (s.folder_of j) text_dirid) w);
        no_node = λ x. let is = look_to j x.name x.kind x.shown x.known in
            f.no_node (record { name = x.name; kind = is.0; shown = is.1; known = is.2; place = x.place ∙ sym (place (s.folder_of j) (s.seal j x.name)) });
      },
    )

  inner_at : (h t l : List ℕ) → host_inner h (entry_of s d' h t) l ≡ host_inner h (entry_of s d h t) l
  inner_at h t l = ap (λ (e : List ℕ). host_inner h e l) (place h t)

  pub shadow_to : (j l : List ℕ) → IsShadowed s d j l → IsShadowed s d' j l
  shadow_to j l (inl f) = inl (record {
    entry = f.entry;
    unknown = λ z. f.unknown (z ∙ known_same (s.folder_of j) (s.seal j l));
    no_name = λ z. f.no_name (absent_from (s.folder_of j) (s.seal j l) z);
    there = λ z. f.there (none_from _ (ap (get d') (sym (inner_at (s.folder_of j) (s.seal j l) f.entry)) ∙ z));
  })
  shadow_to j l (inr t) = inr (record {
    short = λ z. t.short (absent_from (s.folder_of j) (s.seal j l) z);
    long = name_file (s.folder_of j) (s.long_of (s.seal j l)) ∙ t.long;
  })

  pub shadow_from : (j l : List ℕ) → IsShadowed s d' j l → IsShadowed s d j l
  shadow_from j l (inl f) = inl (record {
    entry = f.entry;
    unknown = λ z. f.unknown (z ∙ sym (known_same (s.folder_of j) (s.seal j l)));
    no_name = λ z. f.no_name (absent_to (s.folder_of j) (s.seal j l) z);
    there = λ z. f.there (ap (get d') (inner_at (s.folder_of j) (s.seal j l) f.entry) ∙ none_to _ z);
  })
  shadow_from j l (inr t) = inr (record {
    short = λ z. t.short (absent_to (s.folder_of j) (s.seal j l) z);
    long = sym (name_file (s.folder_of j) (s.long_of (s.seal j l))) ∙ t.long;
  })

  -- a name's mark, if its node has changed at most to another
  pub shadowed_in : (a c c' : Option Node) (l : List ℕ) → ((y : Node) → c ≡ Some y → (y' : Node) × (c' ≡ Some y')) → ((y : Node) → c' ≡ Some y → (y' : Node) × (c ≡ Some y'))
      → IsShadowedIn s d a l c ↔ IsShadowedIn s d' a l c'
  shadowed_in a None None l to from = ((λ h. h), (λ h. h))
  shadowed_in a None (Some y) l to from = let z = from y refl in absurd (some_there _ _ z.1 refl)
  shadowed_in a (Some x) None l to from = let z = to x refl in absurd (some_there _ _ z.1 refl)
  shadowed_in None (Some x) (Some y) l to from = ((λ h. h), (λ h. h))
  shadowed_in (Some (Dir j)) (Some x) (Some y) l to from = (shadow_to j l, shadow_from j l)
  shadowed_in (Some (File b)) (Some x) (Some y) l to from = ((λ h. h), (λ h. h))
  shadowed_in (Some (Link b)) (Some x) (Some y) l to from = ((λ h. h), (λ h. h))
  shadowed_in (Some (Bad t)) (Some x) (Some y) l to from = ((λ h. h), (λ h. h))

-- a file has neither foreign entries nor names below it
no_foreign : (s : Sealing) (d : Disk) (b : List ℕ) (o : Option Node) → o ≡ Some (File b) → HasForeign s d o → ⊥
no_foreign s d b o e h = subst (λ (z : Option Node). HasForeign s d z) e h

no_shadow : (s : Sealing) (d : Disk) (b l : List ℕ) (c : Option Node) → IsShadowedIn s d (Some (File b)) l c → ⊥
no_shadow s d b l None h = h
no_shadow s d b l (Some x) h = h

-- ---- the tree

module _ (s : Sealing) (d d' : Disk) (tree : Tree) (p : Path) (i n old bytes : List ℕ) (is : IsTreeOf s d tree) (dir_at : get tree.nodes p ≡ Some (Dir i)) (stands : get tree.nodes (n ∷ p) ≡ Some (File old))
    (re : IsRewritten d d' (file_at (place_of s i n (tree.long (n ∷ p)))) bytes) where
  abbrev F : List ℕ
  F = s.folder_of i

  abbrev X : List ℕ
  X = s.seal i n

  abbrev o : List ℕ → Path
  o = is.owner

  abbrev w : Folders
  w = folders_of s d

  abbrev w' : Folders
  w' = folders_of s d'

  abbrev H : HostPath
  H = file_at (place_of s i n (tree.long (n ∷ p)))

  at_dir : node_at s w o p ≡ Some (Dir i)
  at_dir = sym (is.exact p) ∙ dir_at

  at_file : node_at s w o (n ∷ p) ≡ Some (File old)
  at_file = sym (is.exact (n ∷ p)) ∙ stands

  has : (k : Kind) × (look s w i n ≡ Some k) × (k ≢ Bare) × (node s w o (n ∷ p) (Some k) ≡ Some (File old))
  has = node_kind s w o p i n (File old) at_dir at_file

  looks : (is_name n (s.open_name i X) ≡ true) × (w.seen F X ≡ Some has.0)
  looks = looked s w i n has.0 has.1

  shown : seen_at s d F X ≡ Some (Plain old)
  shown = looks.1 ∙ ap Some (kind_of_file s w o (n ∷ p) has.0 old has.3)

  text : s.is_text X ≡ true
  text = (shown_text (s.is_text X) _ (Plain old) shown).0

  long_is : tree.long (n ∷ p) ≡ is_absent (entry_at s d F X)
  long_is = is_long (tree.long (n ∷ p)) (entry_at s d F X) (is.placed n p i (File old) dir_at stands)

  entry_is_its : entry_text s (tree.long (n ∷ p)) X ≡ entry_of s d F X
  entry_is_its = sym (entries_are_of_places s d tree p i n (File old) is dir_at stands)

  path_is : H ≡ file_path (is_absent (entry_at s d F X)) F (entry_of s d F X)
  path_is = ap₂ (λ (l : Bool) (e : List ℕ). file_path l F e) long_is entry_is_its

  it : get d H ≡ Some (Bytes old)
  it = ap (get d) path_is ∙ file_there s d F X old shown

  -- at its short place or its long one
  record Stands : Type 0 where
    form : (H ≡ host_entry F X) ⊎ (H ≡ host_inner F (s.long_of X) text_contents)
    name : H ≡ host_inner F (s.long_of X) text_contents → get d (host_inner F (s.long_of X) text_name) ≡ Some (Bytes X)
    seen' : seen_at s d' F X ≡ Some (Plain bytes)

  by_entry : (x : Option Thing) → entry_at s d F X ≡ x → Stands
  by_entry None e = record {
    form = inr at_long;
    name = λ z. named;
    seen' = cond-true (s.is_text X) _ _ text ∙ ap₂ (λ (a : Option Thing) (k : Option Kind). either_kind a (short_at d' F X) k) (absent_to s d d' F X old bytes H (inr at_long) it re.file re.others F X e)
        (ap₂ (λ (a : Option Thing) (k : Kind). long_kind X (bytes_of a) k) (inner_same text_name (λ z. cc) ∙ named) kind ∙ ap (λ (b : Bool). kind_where b (Plain bytes)) same_name);
  }
    where
      at_long : H ≡ host_inner F (s.long_of X) text_contents
      at_long = path_is ∙ ap₂ (λ (a : Option Thing) (c : Option Thing). file_path (is_absent a) F (entry_where c X (s.long_of X))) e e

      its : (bytes_of (get d (host_inner F (s.long_of X) text_name)) ≡ Some X) × (folder_at d F (s.long_of X) ≡ Plain old)
      its = long_shown s d F X (Plain old) text shown e

      named : get d (host_inner F (s.long_of X) text_name) ≡ Some (Bytes X)
      named = file_bytes _ X its.0

      same_name : bytes_eq X X ≡ true
      same_name = bytes_same X

      inner_same : (l : List ℕ) → l ≢ text_contents → get d' (host_inner F (s.long_of X) l) ≡ get d (host_inner F (s.long_of X) l)
      inner_same l far = re.others (host_inner F (s.long_of X) l) (λ z. far (inner_is F (s.long_of X) F (s.long_of X) l text_contents (z ∙ at_long)).2)

      plain_by : (a b c : Option (List ℕ)) → folder_kind a b c ≡ Plain old → folder_kind a b (Some bytes) ≡ Plain bytes
      plain_by (Some t) b c h = absurd (cc)
      plain_by None (Some t) c h = absurd (cc)
      plain_by None None c h = refl

      kind : folder_at d' F (s.long_of X) ≡ Plain bytes
      kind =
          ap₂ (λ (a b : Option Thing). folder_kind (bytes_of a) (bytes_of b) (bytes_of (get d' (host_inner F (s.long_of X) text_contents)))) (inner_same text_dir (λ z. cc)) (inner_same text_symlink (λ z. cc))
          ∙ ap (λ (c : Option Thing). folder_kind (bytes_of (get d (host_inner F (s.long_of X) text_dir))) (bytes_of (get d (host_inner F (s.long_of X) text_symlink))) (bytes_of c)) (ap (get d') (sym at_long) ∙ re.file)
          ∙ plain_by _ _ _ its.1
  by_entry (Some Folder) e =
      let z : either_kind (Some Folder) (short_at d F X) (long_at d F (s.long_of X) X) ≡ Some (Plain old) =
      ap (λ (a : Option Thing). either_kind a (short_at d F X) (long_at d F (s.long_of X) X)) (sym e) ∙ (shown_text (s.is_text X) _ (Plain old) shown).1 in
      let short : short_at d F X ≡ Plain old = cc in
      absurd (no_plain _ _ short)
    where
      no_plain : (a b : Option (List ℕ)) → folder_kind a b None ≡ Plain old → ⊥
      no_plain (Some t) b h = cc
      no_plain None (Some t) h = cc
      no_plain None None h = cc
  by_entry (Some (Bytes c)) e = record {
    form = inl at_short;
    name = λ z. absurd (entry_inner F X F (s.long_of X) text_contents (sym at_short ∙ z));
    seen' = cond-true (s.is_text X) _ _ text
        ∙ ap (λ (a : Option Thing). either_kind a (short_at d' F X) (long_at d' F (s.long_of X) X)) (cond-true (s.is_part X) _ _ (entry_some s d F X (Bytes c) e).0 ∙ ap (get d') (sym at_short) ∙ re.file);
  }
    where
      at_short : H ≡ host_entry F X
      at_short = path_is ∙ ap₂ (λ (a : Option Thing) (b : Option Thing). file_path (is_absent a) F (entry_where b X (s.long_of X))) e e

  at_place : Stands
  at_place = by_entry (entry_at s d F X) refl

  changed : ChangedAt w w' F X
  changed = record { others = λ g u far. seen_other s d d' F X old bytes H at_place.form it re.file re.others at_place.name shown at_place.seen' g u far }

  presents : (g : List ℕ) → w'.present g ≡ w.present g
  presents g = ap is_folder (folder s d d' F X old bytes H at_place.form it re.file re.others g)

  looks_now : look s w' i n ≡ Some (Plain bytes)
  looks_now = look_seen s w' i n looks.0 ∙ at_place.seen'

  before : claimed s (node_at s w o (n ∷ p)) ≡ None
  before = ap (claimed s) at_file

  after : claimed s (node s w' o (n ∷ p) (look s w' i n)) ≡ None
  after = ap (λ (k : Option Kind). claimed s (node s w' o (n ∷ p) k)) looks_now

  nodes : (q : Path) → node_at s w' o q ≡ cond (same_path (n ∷ p) q) (Some (File bytes)) (node_at s w o q)
  nodes q = change_leaf s w w' o n i p is.first at_dir looks.0 changed presents before after q
      ∙ ap (λ (k : Option Kind). cond (same_path (n ∷ p) q) (node s w' o (n ∷ p) k) (node_at s w o q)) looks_now

  abbrev Cases : Path → Type 0
  Cases q = ((same_path (n ∷ p) q ≡ true) × (n ∷ p ≡ q)) ⊎ ((same_path (n ∷ p) q ≡ false) × (n ∷ p ≢ q))

  node_here : (q : Path) → same_path (n ∷ p) q ≡ true → node_at s w' o q ≡ Some (File bytes)
  node_here q e = nodes q ∙ cond-true (same_path (n ∷ p) q) _ _ e

  node_other : (q : Path) → same_path (n ∷ p) q ≡ false → node_at s w' o q ≡ node_at s w o q
  node_other q e = nodes q ∙ cond-false (same_path (n ∷ p) q) _ _ e

  still : (q : Path) (y : Node) → node_at s w o q ≡ Some y → (y' : Node) × (node_at s w' o q ≡ Some y')
  still q y h = go (path_cases (n ∷ p) q)
    where
      go : Cases q → (y' : Node) × (node_at s w' o q ≡ Some y')
      go (inl e) = (File bytes, node_here q e.0)
      go (inr e) = (y, node_other q e.0 ∙ h)

  was : (q : Path) (y : Node) → node_at s w' o q ≡ Some y → (y' : Node) × (node_at s w o q ≡ Some y')
  was q y h = go (path_cases (n ∷ p) q)
    where
      go : Cases q → (y' : Node) × (node_at s w o q ≡ Some y')
      go (inl e) = (File old, ap (node_at s w o) (sym e.1) ∙ at_file)
      go (inr e) = (y, sym (node_other q e.0) ∙ h)

  claims : (q : Path) → claimed s (node_at s w' o q) ≡ claimed s (node_at s w o q)
  claims q = go (path_cases (n ∷ p) q)
    where
      go : Cases q → claimed s (node_at s w' o q) ≡ claimed s (node_at s w o q)
      go (inl e) = ap (claimed s) (node_here q e.0) ∙ sym (ap (claimed s) (ap (node_at s w o) (sym e.1) ∙ at_file))
      go (inr e) = ap (claimed s) (node_other q e.0)

  foreign : (q : Path) → HasForeign s d (node_at s w o q) ↔ HasForeign s d' (node_at s w' o q)
  foreign q = go (path_cases (n ∷ p) q)
    where
      go : Cases q → HasForeign s d (node_at s w o q) ↔ HasForeign s d' (node_at s w' o q)
      go (inl e) = ((λ h. absurd (no_foreign s d old (node_at s w o q) (ap (node_at s w o) (sym e.1) ∙ at_file) h)), (λ h. absurd (no_foreign s d' bytes (node_at s w' o q) (node_here q e.0) h)))
      go (inr e) = has_foreign s d d' (node_at s w o q) (node_at s w' o q) (node_other q e.0) (λ j h. (
        foreign_to s d d' F X old bytes H at_place.form it re.file re.others at_place.name shown at_place.seen' j,
        foreign_from s d d' F X old bytes H at_place.form it re.file re.others at_place.name shown at_place.seen' j,
      ))

  shadowed : (l : List ℕ) (q : Path) → IsShadowedIn s d (node_at s w o q) l (node_at s w o (l ∷ q)) ↔ IsShadowedIn s d' (node_at s w' o q) l (node_at s w' o (l ∷ q))
  shadowed l q = go (path_cases (n ∷ p) q)
    where
      go : Cases q → IsShadowedIn s d (node_at s w o q) l (node_at s w o (l ∷ q)) ↔ IsShadowedIn s d' (node_at s w' o q) l (node_at s w' o (l ∷ q))
      go (inl e) = (
        (λ h. absurd (no_shadow s d old l (node_at s w o (l ∷ q)) (subst (λ (z : Option Node). IsShadowedIn s d z l (node_at s w o (l ∷ q))) (ap (node_at s w o) (sym e.1) ∙ at_file) h))),
        (λ h. absurd (no_shadow s d' bytes l (node_at s w' o (l ∷ q)) (subst (λ (z : Option Node). IsShadowedIn s d' z l (node_at s w' o (l ∷ q))) (node_here q e.0) h))),
      )
      go (inr e) = subst (λ (z : Option Node). IsShadowedIn s d (node_at s w o q) l (node_at s w o (l ∷ q)) ↔ IsShadowedIn s d' z l (node_at s w' o (l ∷ q))) (sym (node_other q e.0))
          (shadowed_in s d d' F X old bytes H at_place.form it re.file re.others (node_at s w o q) (node_at s w o (l ∷ q)) (node_at s w' o (l ∷ q)) l (still (l ∷ q)) (was (l ∷ q)))

  abbrev tree' : Tree
  tree' = with_file tree (n ∷ p) bytes

  exact : (q : Path) → get tree'.nodes q ≡ node_at s w' o q
  exact q = get_with tree.nodes (n ∷ p) (File bytes) q ∙ ap (cond (same_path (n ∷ p) q) (Some (File bytes))) (is.exact q) ∙ sym (nodes q)

  was_dir : (q : Path) (j : List ℕ) → node_at s w' o q ≡ Some (Dir j) → node_at s w o q ≡ Some (Dir j)
  was_dir q j h = go (path_cases (n ∷ p) q)
    where
      go : Cases q → node_at s w o q ≡ Some (Dir j)
      go (inl e) = let z : ◌≡◌ {A = Option Node} (Some (File bytes)) (Some (Dir j)) = sym (node_here q e.0) ∙ h in absurd (cc)
      go (inr e) = sym (node_other q e.0) ∙ h

  pub rewritten : IsTreeOf s d' tree'
  rewritten = record {
    owner = o;
    host = re.tree;
    there = folder s d d' F X old bytes H at_place.form it re.file re.others (s.folder_of []) ∙ is.there;
    first = leaf_owner s w w' o n i p is.first at_dir looks.0 changed presents before after;
    exact = exact;
    marked = record {
      foreign = λ q. through _ _ _ (is.marked.foreign q) (foreign q);
      root = is.marked.root;
      shadowed = λ l q. through _ _ _ (is.marked.shadowed l q) (shadowed l q);
      twice = through _ _ _ is.marked.twice (same_twice s w' w o o (λ q. q) (λ q. refl) (λ q. sym (claims q)), same_twice s w w' o o (λ q. q) (λ q. refl) claims);
    };
    placed = λ m q j x at there.
        let y = was (m ∷ q) x (sym (exact (m ∷ q)) ∙ there) in
        through _ _ _ (is.placed m q j y.0 (is.exact q ∙ was_dir q j (sym (exact q) ∙ at)) (is.exact (m ∷ q) ∙ y.1))
        (absent_to s d d' F X old bytes H at_place.form it re.file re.others (s.folder_of j) (s.seal j m), absent_from s d d' F X old bytes H at_place.form it re.file re.others (s.folder_of j) (s.seal j m));
  }

pub contents_change : ContentsChange
contents_change s d d' tree p i n old bytes is dir_at stands re = rewritten s d d' tree p i n old bytes is dir_at stands re
