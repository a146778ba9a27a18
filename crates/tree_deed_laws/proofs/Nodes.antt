-- How a node is laid on the disk, and what shows if it is so.
use Rattle.std.proofs.Common.{◌≡◌, ◌≢◌, ℕ, Bool, true, false, List, Option, Some, None, bytes_eq, refl, sym, ap, ap₂, ◌∙◌, inl, inr, ◌⊎◌, true≢false}
use Rattle.std.specs.FinMap.{get}
use Rattle.std.proofs.lemmas.Slice.Eq.{bytes_eq-Decides}
use Rattle.outside.specs.Disk.{Disk, Node as Thing, folder as Folder, file as Bytes, IsTree}
use Rattle.clear_tree.specs.Walk.{Sealing, Kind, Plain, Named, Linked, Bare}
use Rattle.clear_tree.specs.Places.{host_entry, host_inner, folder_kind, bytes_of, kind_where, long_kind, either_kind, short_at, folder_at, long_at, entry_at, seen_at, entry_of, entry_where, known, text_dir, text_symlink, text_contents, text_name}
use Rattle.clear_tree.specs.Marks.{HasFurther, known_at}
use Rattle.tree_deed_laws.specs.Deeds.{entry_text}
use Rattle.tree_deed_laws.proofs.Seeing.{entry_some, entry_part, not_something, some_there, seen_text, long_shown, file_bytes, above_inner}

-- the kind that a known file of these bytes makes, at a short place (false) or a long one
abbrev pub MakesKind : Bool → List ℕ → List ℕ → Kind → Type 0
MakesKind b known t kk = ((known ≡ text_dir) × (kk ≡ Named t)) ⊎ (((known ≡ text_symlink) × (kk ≡ Linked t)) ⊎ ((known ≡ text_contents) × (kk ≡ Plain t) × (b ≡ true)))

-- a node folder of the text X in the folder F with this known file, and nothing else but name.c9s
pub record IsNodeFolder (s : Sealing) (d : Disk) (F X : List ℕ) (b : Bool) (known t : List ℕ) (kk : Kind) : Type 0 where
  pub entry : get d (host_entry F (entry_text s b X)) ≡ Some Folder
  pub main : get d (host_inner F (entry_text s b X) known) ≡ Some (Bytes t)
  pub kind : MakesKind b known t kk
  pub name : b ≡ true → get d (host_inner F (entry_text s b X) text_name) ≡ Some (Bytes X)
  pub short : b ≡ true → entry_at s d F X ≡ None
  pub part : b ≡ false → s.is_part X ≡ true
  pub only : (l : List ℕ) → l ≢ known → (b ≡ true → l ≢ text_name) → get d (host_inner F (entry_text s b X) l) ≡ None

-- which known file makes a folder the kind that it is
folder_known : (d : Disk) (h e : List ℕ) (c : Option (List ℕ)) (kk : Kind) → folder_kind (bytes_of (get d (host_inner h e text_dir))) (bytes_of (get d (host_inner h e text_symlink))) c ≡ kk → kk ≢ Bare →
    (t : List ℕ) × (((known_at d h e ≡ text_dir) × (kk ≡ Named t) × (get d (host_inner h e text_dir) ≡ Some (Bytes t)))
    ⊎ (((known_at d h e ≡ text_symlink) × (kk ≡ Linked t) × (get d (host_inner h e text_symlink) ≡ Some (Bytes t))) ⊎ ((known_at d h e ≡ text_contents) × (kk ≡ Plain t) × (c ≡ Some t))))
folder_known d h e c kk is ne = go (bytes_of (get d (host_inner h e text_dir))) (bytes_of (get d (host_inner h e text_symlink))) c refl refl refl
  where
    A : Option (List ℕ)
    A = bytes_of (get d (host_inner h e text_dir))

    B : Option (List ℕ)
    B = bytes_of (get d (host_inner h e text_symlink))

    go : (a b x : Option (List ℕ)) → A ≡ a → B ≡ b → c ≡ x →
        (t : List ℕ) × (((known_at d h e ≡ text_dir) × (kk ≡ Named t) × (get d (host_inner h e text_dir) ≡ Some (Bytes t)))
        ⊎ (((known_at d h e ≡ text_symlink) × (kk ≡ Linked t) × (get d (host_inner h e text_symlink) ≡ Some (Bytes t))) ⊎ ((known_at d h e ≡ text_contents) × (kk ≡ Plain t) × (c ≡ Some t))))
    go (Some t) b x ea eb ec = (t, inl (ap (λ (z : Option (List ℕ)). known z B) ea, sym is ∙ ap (λ (z : Option (List ℕ)). folder_kind z B c) ea, file_bytes _ t ea))
    go None (Some t) x ea eb ec = (t, inr (inl (ap₂ known ea eb, sym is ∙ ap₂ (λ (y z : Option (List ℕ)). folder_kind y z c) ea eb, file_bytes _ t eb)))
    go None None (Some t) ea eb ec = (t, inr (inr (ap₂ known ea eb, sym is ∙ ap₂ (λ (y z : Option (List ℕ)). folder_kind y z c) ea eb ∙ ap (folder_kind None None) ec, ec)))
    go None None None ea eb ec = absurd (ne (sym is ∙ ap₂ (λ (y z : Option (List ℕ)). folder_kind y z c) ea eb ∙ ap (folder_kind None None) ec))

abbrev pub StandsAs : Sealing → Disk → List ℕ → List ℕ → Kind → Type 0
StandsAs s d F X kk = ((c : List ℕ) × (entry_at s d F X ≡ Some (Bytes c)) × (kk ≡ Plain c)) ⊎ ((b : Bool) × (kn : List ℕ) × (t : List ℕ) × IsNodeFolder s d F X b kn t kk)

module _ (s : Sealing) (d : Disk) (F X : List ℕ) (kk : Kind) (tree : IsTree d) (text : s.is_text X ≡ true) (seen : seen_at s d F X ≡ Some kk) (ne : kk ≢ Bare)
    (no_further : HasFurther s d F X → ⊥) where
  as_short : entry_at s d F X ≡ Some Folder → StandsAs s d F X kk
  as_short h = go (folder_known d F X None kk is ne)
    where
      is : short_at d F X ≡ kk
      is =
          let z : ◌≡◌ {A = Option Kind} (Some (short_at d F X)) (Some kk) = sym (ap (λ (w : Option Thing). either_kind w (short_at d F X) (long_at d F (s.long_of X) X)) h) ∙ sym (seen_text s d F X text) ∙ seen in
          cc

      at : entry_of s d F X ≡ X
      at = ap (λ (w : Option Thing). entry_where w X (s.long_of X)) h

      only : (kn : List ℕ) → known_at d F X ≡ kn → (l : List ℕ) → l ≢ kn → (false ≡ true → l ≢ text_name) → get d (host_inner F X l) ≡ None
      only kn ek l far no_name = not_something _ (λ z. no_further (record {
        entry = l;
        unknown = λ w. far (w ∙ ap (known_at d F) at ∙ ek);
        no_name = λ w. absurd (some_there _ _ h w);
        there = λ w. z (ap (λ (y : List ℕ). get d (host_inner F y l)) (sym at) ∙ w);
      }))

      node : (kn t : List ℕ) → known_at d F X ≡ kn → get d (host_inner F X kn) ≡ Some (Bytes t) → MakesKind false kn t kk → StandsAs s d F X kk
      node kn t ek main kind = inr (false, kn, t, record { entry = (entry_some s d F X Folder h).1; part = λ w. (entry_some s d F X Folder h).0; main = main; kind = kind; name = λ w. absurd (true≢false (sym w)); short = λ w. absurd (true≢false (sym w)); only = only kn ek })

      go : (t : List ℕ) × (((known_at d F X ≡ text_dir) × (kk ≡ Named t) × (get d (host_inner F X text_dir) ≡ Some (Bytes t)))
          ⊎ (((known_at d F X ≡ text_symlink) × (kk ≡ Linked t) × (get d (host_inner F X text_symlink) ≡ Some (Bytes t))) ⊎ ((known_at d F X ≡ text_contents) × (kk ≡ Plain t) × (◌≡◌ {A = Option (List ℕ)} None (Some t))))) → StandsAs s d F X kk
      go (t, inl x) = node text_dir t x.0 x.2 (inl (refl, x.1))
      go (t, inr (inl x)) = node text_symlink t x.0 x.2 (inr (inl (refl, x.1)))
      go (t, inr (inr x)) = let z = x.2 in absurd (cc)

  as_long : entry_at s d F X ≡ None → StandsAs s d F X kk
  as_long h = go (folder_known d F E (bytes_of (get d (host_inner F E text_contents))) kk shown.1 ne)
    where
      E : List ℕ
      E = s.long_of X

      shown : (bytes_of (get d (host_inner F E text_name)) ≡ Some X) × (folder_at d F E ≡ kk)
      shown = long_shown s d F X kk text seen h

      name : get d (host_inner F E text_name) ≡ Some (Bytes X)
      name = file_bytes _ X shown.0

      at : entry_of s d F X ≡ E
      at = ap (λ (w : Option Thing). entry_where w X (s.long_of X)) h

      only : (kn : List ℕ) → known_at d F E ≡ kn → (l : List ℕ) → l ≢ kn → (true ≡ true → l ≢ text_name) → get d (host_inner F E l) ≡ None
      only kn ek l far no_name = not_something _ (λ z. no_further (record {
        entry = l;
        unknown = λ w. far (w ∙ ap (known_at d F) at ∙ ek);
        no_name = λ w. no_name refl;
        there = λ w. z (ap (λ (y : List ℕ). get d (host_inner F y l)) (sym at) ∙ w);
      }))

      node : (kn t : List ℕ) → known_at d F E ≡ kn → get d (host_inner F E kn) ≡ Some (Bytes t) → MakesKind true kn t kk → StandsAs s d F X kk
      node kn t ek main kind = inr (true, kn, t, record { entry = above_inner d tree F E text_name (Bytes X) name; main = main; kind = kind; name = λ w. name; short = λ w. h; part = λ w. absurd (true≢false w); only = only kn ek })

      go : (t : List ℕ) × (((known_at d F E ≡ text_dir) × (kk ≡ Named t) × (get d (host_inner F E text_dir) ≡ Some (Bytes t)))
          ⊎ (((known_at d F E ≡ text_symlink) × (kk ≡ Linked t) × (get d (host_inner F E text_symlink) ≡ Some (Bytes t))) ⊎ ((known_at d F E ≡ text_contents) × (kk ≡ Plain t) × (bytes_of (get d (host_inner F E text_contents)) ≡ Some t)))) → StandsAs s d F X kk
      go (t, inl x) = node text_dir t x.0 x.2 (inl (refl, x.1))
      go (t, inr (inl x)) = node text_symlink t x.0 x.2 (inr (inl (refl, x.1)))
      go (t, inr (inr x)) = node text_contents t x.0 (file_bytes _ t x.2) (inr (inr (refl, x.1, refl)))

  -- a node that shows and isn't marked is on the disk as one of the two
  pub stands_as : StandsAs s d F X kk
  stands_as = go (entry_at s d F X) refl
    where
      go : (w : Option Thing) → entry_at s d F X ≡ w → StandsAs s d F X kk
      go None h = as_long h
      go (Some Folder) h = as_short h
      go (Some (Bytes c)) h =
          let z : ◌≡◌ {A = Option Kind} (Some (Plain c)) (Some kk) = sym (ap (λ (w : Option Thing). either_kind w (short_at d F X) (long_at d F (s.long_of X) X)) h) ∙ sym (seen_text s d F X text) ∙ seen in
          let e : Plain c ≡ kk = cc in inl (c, h, sym e)

-- ---- what shows where a node is so

pub plain_shown : (s : Sealing) (d : Disk) (F X c : List ℕ) → s.is_text X ≡ true → entry_at s d F X ≡ Some (Bytes c) → seen_at s d F X ≡ Some (Plain c)
plain_shown s d F X c text h = seen_text s d F X text ∙ ap (λ (w : Option Thing). either_kind w (short_at d F X) (long_at d F (s.long_of X) X)) h

-- if neither place holds the text nothing shows
pub none_shown : (s : Sealing) (d : Disk) (F X : List ℕ) → s.is_text X ≡ true → entry_at s d F X ≡ None → get d (host_inner F (s.long_of X) text_name) ≢ Some (Bytes X) → seen_at s d F X ≡ None
none_shown s d F X text h far = seen_text s d F X text ∙ ap (λ (w : Option Thing). either_kind w (short_at d F X) (long_at d F (s.long_of X) X)) h ∙ go (bytes_of (get d (host_inner F (s.long_of X) text_name))) refl
  where
    go : (z : Option (List ℕ)) → bytes_of (get d (host_inner F (s.long_of X) text_name)) ≡ z → long_kind X z (folder_at d F (s.long_of X)) ≡ None
    go None e = refl
    go (Some y) e = which (bytes_eq y X) refl
      where
        which : (b : Bool) → bytes_eq y X ≡ b → kind_where b (folder_at d F (s.long_of X)) ≡ None
        which false q = refl
        which true q = absurd (far (file_bytes _ X (e ∙ ap (λ (z : List ℕ). Some z) ((bytes_eq-Decides y X).0 q))))

module _ (s : Sealing) (d : Disk) (F X : List ℕ) (b : Bool) (kn t : List ℕ) (kk : Kind) (text : s.is_text X ≡ true) (n : IsNodeFolder s d F X b kn t kk) where
  abbrev E : List ℕ
  E = entry_text s b X

  -- the known files: dir.c9r, or else symlink.c9r, or else contents.c9r
  lone : MakesKind b kn t kk → (x : Option (List ℕ)) → (kn ≡ text_contents → x ≡ Some t) →
      (folder_kind (bytes_of (get d (host_inner F E text_dir))) (bytes_of (get d (host_inner F E text_symlink))) x ≡ kk) × (known_at d F E ≡ kn)
  lone (inl k) x hx =
      let a : bytes_of (get d (host_inner F E text_dir)) ≡ Some t = ap (λ (z : List ℕ). bytes_of (get d (host_inner F E z))) (sym k.0) ∙ ap bytes_of n.main in
      (ap (λ (z : Option (List ℕ)). folder_kind z (bytes_of (get d (host_inner F E text_symlink))) x) a ∙ sym k.1, ap (λ (z : Option (List ℕ)). known z (bytes_of (get d (host_inner F E text_symlink)))) a ∙ sym k.0)
  lone (inr (inl k)) x hx =
      let a : bytes_of (get d (host_inner F E text_dir)) ≡ None = ap bytes_of (n.only text_dir (λ z. let w : text_dir ≡ text_symlink = z ∙ k.0 in cc) (λ w z. cc)) in
      let c : bytes_of (get d (host_inner F E text_symlink)) ≡ Some t = ap (λ (z : List ℕ). bytes_of (get d (host_inner F E z))) (sym k.0) ∙ ap bytes_of n.main in
      (ap₂ (λ (y z : Option (List ℕ)). folder_kind y z x) a c ∙ sym k.1, ap₂ known a c ∙ sym k.0)
  lone (inr (inr k)) x hx =
      let a : bytes_of (get d (host_inner F E text_dir)) ≡ None = ap bytes_of (n.only text_dir (λ z. let w : text_dir ≡ text_contents = z ∙ k.0 in cc) (λ w z. cc)) in
      let c : bytes_of (get d (host_inner F E text_symlink)) ≡ None = ap bytes_of (n.only text_symlink (λ z. let w : text_symlink ≡ text_contents = z ∙ k.0 in cc) (λ w z. cc)) in
      (ap₂ (λ (y z : Option (List ℕ)). folder_kind y z x) a c ∙ ap (folder_kind None None) (hx k.0) ∙ sym k.1, ap₂ known a c ∙ sym k.0)

-- a node folder shows, at its place, without a mark
pub node_shown : (s : Sealing) (d : Disk) (F X : List ℕ) (b : Bool) (kn t : List ℕ) (kk : Kind) → s.is_text X ≡ true → IsNodeFolder s d F X b kn t kk →
    (seen_at s d F X ≡ Some kk) × (entry_of s d F X ≡ entry_text s b X) × (known_at d F (entry_text s b X) ≡ kn)
node_shown s d F X false kn t kk text n =
    let not_contents : kn ≡ text_contents → ⊥ = never n.kind in
    let l = lone s d F X false kn t kk text n n.kind None (λ z. absurd (not_contents z)) in (
      seen_text s d F X text ∙ ap (λ (w : Option Thing). either_kind w (short_at d F X) (long_at d F (s.long_of X) X)) (entry_part s d F X (n.part refl) ∙ n.entry) ∙ ap (λ (z : Kind). Some z) l.0,
      ap (λ (w : Option Thing). entry_where w X (s.long_of X)) (entry_part s d F X (n.part refl) ∙ n.entry),
      l.1,
    )
  where
    never : MakesKind false kn t kk → kn ≡ text_contents → ⊥
    never (inl k) z = let w : text_dir ≡ text_contents = sym k.0 ∙ z in cc
    never (inr (inl k)) z = let w : text_symlink ≡ text_contents = sym k.0 ∙ z in cc
    never (inr (inr k)) z = true≢false (sym k.2)
node_shown s d F X true kn t kk text n =
    let l = lone s d F X true kn t kk text n n.kind (bytes_of (get d (host_inner F (s.long_of X) text_contents))) (λ z. ap (λ (y : List ℕ). bytes_of (get d (host_inner F (s.long_of X) y))) (sym z) ∙ ap bytes_of n.main) in (
      seen_text s d F X text ∙ ap (λ (w : Option Thing). either_kind w (short_at d F X) (long_at d F (s.long_of X) X)) (n.short refl)
          ∙ ap₂ (λ (x : Option (List ℕ)) (z : Kind). long_kind X x z) (ap bytes_of (n.name refl)) l.0
          ∙ ap (λ (z : Bool). kind_where z kk) ((bytes_eq-Decides X X).1 refl),
      ap (λ (w : Option Thing). entry_where w X (s.long_of X)) (n.short refl),
      l.1,
    )

pub alone_folder : (s : Sealing) (d : Disk) (F X : List ℕ) (b : Bool) (kn t : List ℕ) (kk : Kind) → s.is_text X ≡ true → IsNodeFolder s d F X b kn t kk → HasFurther s d F X → ⊥
alone_folder s d F X b kn t kk text n f =
    let w = node_shown s d F X b kn t kk text n in
    f.there (ap (λ (z : List ℕ). get d (host_inner F z f.entry)) w.1
    ∙ n.only f.entry (λ z. f.unknown (z ∙ sym w.2 ∙ ap (known_at d F) (sym w.1))) (λ z. f.no_name (n.short z)))
