-- How a node that isn't marked is laid on the disk, by what the rows show; and what a directory's folder without foreign
-- entries holds.
use Rattle.std.proofs.Common.{◌≡◌, ◌≢◌, ℕ, Bool, true, false, cond, List, ◌∷◌, Option, Some, None, refl, sym, ap, ◌∙◌, subst, inl, inr, true≢false}
use Rattle.std.specs.FinMap.{get}
use Rattle.outside.specs.Disk.{Disk, Node as Thing, folder as Folder, file as Bytes}
use Rattle.clear_tree.specs.Walk.{Path, Sealing, Folders, Kind, Plain, Named, Linked, Bare, Node, File, Link, Dir, Bad, is_name, look, node, node_at, is_good}
use Rattle.clear_tree.specs.Places.{entry_at, folders_of, host_entry, text_dirid}
use Rattle.clear_tree.specs.Marks.{Marks, IsShadowed, Foreign, IsNodeEntry}
use Rattle.clear_tree.proofs.Owner.{child_at}
use Rattle.tree_deed_laws.specs.Deeds.{entry_text}
use Rattle.tree_deed_laws.specs.Trees.{AreTexts}
use Rattle.tree_deed_laws.proofs.Seeing.{text_of, entry_part, not_something, some_there, looked, node_kind}
use Rattle.tree_deed_laws.proofs.Nodes.{MakesKind, IsNodeFolder, StandsAs, stands_as}
use Rattle.tree_deed_laws.proofs.Exact.{name_there}
use Rattle.tree_deed_laws.proofs.Filling.{IsAt}
use Rattle.tree_deed_laws.proofs.Stands.{StandsFor}

-- what a node's kind is, by what is shown
pub kind_of_file : (s : Sealing) (v : Folders) (o : List ℕ → Path) (q : Path) (kk : Kind) (x : List ℕ) → node s v o q (Some kk) ≡ Some (File x) → kk ≡ Plain x
kind_of_file s v o q (Plain b) x h = let e : b ≡ x = cc in ap (λ (z : List ℕ). Plain z) e
kind_of_file s v o q (Linked b) x h = absurd (cc)
kind_of_file s v o q Bare x h = absurd (cc)
kind_of_file s v o q (Named t) x h = go (is_good s v o q t) h
  where
    go : (g : Bool) → ◌≡◌ {A = Option Node} (Some (cond g (Dir t) (Bad t))) (Some (File x)) → Named t ≡ Plain x
    go true h2 = absurd (cc)
    go false h2 = absurd (cc)

pub kind_of_link : (s : Sealing) (v : Folders) (o : List ℕ → Path) (q : Path) (kk : Kind) (x : List ℕ) → node s v o q (Some kk) ≡ Some (Link x) → kk ≡ Linked x
kind_of_link s v o q (Plain b) x h = absurd (cc)
kind_of_link s v o q (Linked b) x h = let e : b ≡ x = cc in ap (λ (z : List ℕ). Linked z) e
kind_of_link s v o q Bare x h = absurd (cc)
kind_of_link s v o q (Named t) x h = go (is_good s v o q t) h
  where
    go : (g : Bool) → ◌≡◌ {A = Option Node} (Some (cond g (Dir t) (Bad t))) (Some (Link x)) → Named t ≡ Linked x
    go true h2 = absurd (cc)
    go false h2 = absurd (cc)

pub kind_of_dir : (s : Sealing) (v : Folders) (o : List ℕ → Path) (q : Path) (kk : Kind) (t : List ℕ) → node s v o q (Some kk) ≡ Some (Dir t) → kk ≡ Named t
kind_of_dir s v o q (Plain b) t h = absurd (cc)
kind_of_dir s v o q (Linked b) t h = absurd (cc)
kind_of_dir s v o q Bare t h = absurd (cc)
kind_of_dir s v o q (Named u) t h = go (is_good s v o q u) h
  where
    go : (g : Bool) → ◌≡◌ {A = Option Node} (Some (cond g (Dir u) (Bad u))) (Some (Dir t)) → Named u ≡ Named t
    go true h2 = let e : u ≡ t = cc in ap (λ (z : List ℕ). Named z) e
    go false h2 = absurd (cc)

-- a kind that isn't bare shows a node
pub kind_shows : (s : Sealing) (v : Folders) (o : List ℕ → Path) (q : Path) (kk : Kind) → kk ≢ Bare → node s v o q (Some kk) ≢ None
kind_shows s v o q (Plain b) ne h = cc
kind_shows s v o q (Linked b) ne h = cc
kind_shows s v o q (Named t) ne h = cc
kind_shows s v o q Bare ne h = ne refl

-- a node, without a mark of its own
pub record IsPlain (s : Sealing) (d : Disk) (o : List ℕ → Path) (p : Path) (i n : List ℕ) (x : Node) : Type 0 where
  pub parent : node_at s (folders_of s d) o p ≡ Some (Dir i)
  pub there : node_at s (folders_of s d) o (n ∷ p) ≡ Some x
  pub unmarked : IsShadowed s d i n → ⊥

-- a name that opens to itself, and has no node
pub record IsNewName (s : Sealing) (d : Disk) (o : List ℕ → Path) (p : Path) (i n : List ℕ) : Type 0 where
  pub parent : node_at s (folders_of s d) o p ≡ Some (Dir i)
  pub free : node_at s (folders_of s d) o (n ∷ p) ≡ None
  pub named : is_name n (s.open_name i (s.seal i n)) ≡ true

module _ (s : Sealing) (d : Disk) (marks : Marks) (long : Path → Bool) (o : List ℕ → Path) (p : Path) (i n : List ℕ) (x : Node) (b : Bool)
    (texts : AreTexts s) (st : StandsFor s d marks long o) (plain : IsPlain s d o p i n x) (is_at : IsAt s d (s.folder_of i) (s.seal i n) b) where
  abbrev F : List ℕ
  F = s.folder_of i

  abbrev X : List ℕ
  X = s.seal i n

  pub text : s.is_text X ≡ true
  text = text_of s texts i n (name_there s (folders_of s d) o p n i x plain.parent plain.there)

  pub node_has : (kk : Kind) × (look s (folders_of s d) i n ≡ Some kk) × (kk ≢ Bare) × (node s (folders_of s d) o (n ∷ p) (Some kk) ≡ Some x)
  node_has = node_kind s (folders_of s d) o p i n x plain.parent plain.there

  pub node_seen : (folders_of s d).seen F X ≡ Some node_has.0
  node_seen = (looked s (folders_of s d) i n node_has.0 node_has.1).1

  it_stands : StandsAs s d F X node_has.0
  it_stands = stands_as s d F X node_has.0 st.tree text node_seen node_has.2 (λ f. plain.unmarked (inl f))

  -- a host file is at the short place
  pub as_plain : (y : List ℕ) → node_has.0 ≡ Plain y → b ≡ false → entry_at s d F X ≡ Some (Bytes y)
  as_plain y ky eb = go it_stands
    where
      go : StandsAs s d F X node_has.0 → entry_at s d F X ≡ Some (Bytes y)
      go (inl a) = let e : Plain a.0 ≡ Plain y = sym a.2 ∙ ky in let f : a.0 ≡ y = cc in a.1 ∙ ap (λ (z : List ℕ). Some (Bytes z)) f
      go (inr (false, kn, t, f)) = absurd (never f.kind)
        where
          never : MakesKind false kn t node_has.0 → ⊥
          never (inl w) = let e : Named t ≡ Plain y = sym w.1 ∙ ky in cc
          never (inr (inl w)) = let e : Linked t ≡ Plain y = sym w.1 ∙ ky in cc
          never (inr (inr w)) = true≢false (sym w.2)
      go (inr (true, kn, t, f)) = absurd (is_at.1 eb (f.short refl))

  same_place : (e : Bool) (kn t : List ℕ) → IsNodeFolder s d F X e kn t node_has.0 → e ≡ b
  same_place e kn t f = go e b refl refl
    where
      go : (y z : Bool) → e ≡ y → b ≡ z → e ≡ b
      go false false he hb = he ∙ sym hb
      go true true he hb = he ∙ sym hb
      go true false he hb = absurd (is_at.1 hb (f.short he))
      go false true he hb = absurd (some_there _ _ (entry_part s d F X (f.part he) ∙ subst (λ (w : Bool). get d (host_entry F (entry_text s w X)) ≡ Some Folder) he f.entry) (is_at.0 hb))

  -- everything else is on the disk as a folder
  pub as_folder : (kn t : List ℕ) → MakesKind b kn t node_has.0 → IsNodeFolder s d F X b kn t node_has.0
  as_folder kn t kind = go it_stands
    where
      not_plain : (y : List ℕ) → entry_at s d F X ≡ Some (Bytes y) → node_has.0 ≡ Plain y → MakesKind b kn t node_has.0 → ⊥
      not_plain y h w (inl a) = let e : Named t ≡ Plain y = sym a.1 ∙ w in cc
      not_plain y h w (inr (inl a)) = let e : Linked t ≡ Plain y = sym a.1 ∙ w in cc
      not_plain y h w (inr (inr a)) = some_there _ _ h (is_at.0 a.2)

      one_kind : (e f : Bool) (kn2 t2 : List ℕ) → MakesKind e kn2 t2 node_has.0 → MakesKind f kn t node_has.0 → (kn2 ≡ kn) × (t2 ≡ t)
      one_kind e f kn2 t2 (inl a) (inl z) = let w : Named t2 ≡ Named t = sym a.1 ∙ z.1 in let q : t2 ≡ t = cc in (a.0 ∙ sym z.0, q)
      one_kind e f kn2 t2 (inl a) (inr (inl z)) = let w : Named t2 ≡ Linked t = sym a.1 ∙ z.1 in absurd (cc)
      one_kind e f kn2 t2 (inl a) (inr (inr z)) = let w : Named t2 ≡ Plain t = sym a.1 ∙ z.1 in absurd (cc)
      one_kind e f kn2 t2 (inr (inl a)) (inl z) = let w : Linked t2 ≡ Named t = sym a.1 ∙ z.1 in absurd (cc)
      one_kind e f kn2 t2 (inr (inl a)) (inr (inl z)) = let w : Linked t2 ≡ Linked t = sym a.1 ∙ z.1 in let q : t2 ≡ t = cc in (a.0 ∙ sym z.0, q)
      one_kind e f kn2 t2 (inr (inl a)) (inr (inr z)) = let w : Linked t2 ≡ Plain t = sym a.1 ∙ z.1 in absurd (cc)
      one_kind e f kn2 t2 (inr (inr a)) (inl z) = let w : Plain t2 ≡ Named t = sym a.1 ∙ z.1 in absurd (cc)
      one_kind e f kn2 t2 (inr (inr a)) (inr (inl z)) = let w : Plain t2 ≡ Linked t = sym a.1 ∙ z.1 in absurd (cc)
      one_kind e f kn2 t2 (inr (inr a)) (inr (inr z)) = let w : Plain t2 ≡ Plain t = sym a.1 ∙ z.1 in let q : t2 ≡ t = cc in (a.0 ∙ sym z.0, q)

      go : StandsAs s d F X node_has.0 → IsNodeFolder s d F X b kn t node_has.0
      go (inl a) = absurd (not_plain a.0 a.1 a.2 kind)
      go (inr (e, kn2, t2, f)) =
          let se = same_place e kn2 t2 f in
          let one = one_kind e b kn2 t2 f.kind kind in
          subst (λ (w : List ℕ). IsNodeFolder s d F X b kn w node_has.0) one.1
          (subst (λ (w : List ℕ). IsNodeFolder s d F X b w t2 node_has.0) one.0
          (subst (λ (w : Bool). IsNodeFolder s d F X w kn2 t2 node_has.0) se f))

-- a directory's folder without nodes and without foreign entries has no entries but dirid.c9r, a file
module _ (s : Sealing) (d : Disk) (o : List ℕ → Path) (t : List ℕ) (p : Path) (at_p : node_at s (folders_of s d) o p ≡ Some (Dir t))
    (no_child : (l : List ℕ) → node_at s (folders_of s d) o (l ∷ p) ≡ None) (clean : Foreign s d t → ⊥) where
  no_node : (u : List ℕ) → IsNodeEntry s d t u → ⊥
  no_node u x = kind_shows s (folders_of s d) o (x.name ∷ p) x.kind x.known
      (sym (ap (node s (folders_of s d) o (x.name ∷ p)) x.shown) ∙ sym (child_at s (folders_of s d) o x.name t p at_p) ∙ no_child x.name)

  pub empty_folder : (u : List ℕ) → u ≢ text_dirid → get d (host_entry (s.folder_of t) u) ≡ None
  empty_folder u ne = not_something _ (λ h. clean (u, record { there = h; no_copy = λ z w. ne z; no_node = no_node u }))

  pub copy_is_file : get d (host_entry (s.folder_of t) text_dirid) ≢ Some Folder
  copy_is_file h = clean (
    text_dirid,
    record {
      there = some_there _ _ h;
      no_copy = λ z w. let e : ◌≡◌ {A = Option Thing} (Some Folder) (Some (Bytes w.0)) = sym h ∙ w.1 in cc;
      no_node = no_node text_dirid;
    },
  )
