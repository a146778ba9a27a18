-- What a disk shows at a text, by what is at its two places.
use Rattle.std.proofs.Common.{◌≡◌, ◌≢◌, ℕ, Bool, true, false, cond, List, [], ◌∷◌, Option, Some, None, bytes_eq, refl, sym, ap, ap₂, ◌∙◌, subst, inl, inr, ◌⊎◌, true≢false}
use Rattle.std.specs.FinMap.{get}
use Rattle.std.proofs.lemmas.Bool.{cond-true, cases_Bool, and_parts}
use Rattle.std.proofs.lemmas.Slice.Eq.{bytes_eq-Decides}
use Rattle.outside.specs.Disk.{Disk, Node as Thing, folder as Folder, file as Bytes, IsTree}
use Rattle.clear_tree.specs.Walk.{Path, Sealing, Folders, Kind, Bare, Node, Dir, is_name, look, node, node_at, is_good}
use Rattle.clear_tree.specs.Places.{folders_of, host_folder, host_entry, host_inner, folder_kind, bytes_of, is_folder, kind_where, long_kind, either_kind, short_at, folder_at, long_at, entry_at, seen_at, entry_where, entry_of, text_dir, text_symlink, text_contents, text_name}
use Rattle.clear_tree.proofs.Owner.{child_at, below_dir, is_name-true}
use Rattle.tree_deed_laws.specs.Trees.{AreTexts}

-- the text of a name that opens to itself
pub text_of : (s : Sealing) → AreTexts s → (i n : List ℕ) → is_name n (s.open_name i (s.seal i n)) ≡ true → s.is_text (s.seal i n) ≡ true
text_of s texts i n named = texts.text i n (is_name-true n _ named)

pub nothing : {A : Type 0} (x : Option A) → ((y : A) → x ≡ Some y → ⊥) → x ≡ None
nothing None h = refl
nothing (Some y) h = absurd (h y refl)

pub not_something : {A : Type 0} (x : Option A) → (x ≢ None → ⊥) → x ≡ None
not_something None h = refl
not_something (Some y) h = absurd (h (λ e. cc))

pub some_there : {A : Type 0} (x : Option A) (y : A) → x ≡ Some y → x ≢ None
some_there x y e h = cc

pub text_cases : (a b : List ℕ) → (a ≡ b) ⊎ (a ≢ b)
text_cases a b = go (cases_Bool (bytes_eq a b))
  where
    go : (bytes_eq a b ≡ true) ⊎ (bytes_eq a b ≡ false) → (a ≡ b) ⊎ (a ≢ b)
    go (inl t) = inl ((bytes_eq-Decides a b).0 t)
    go (inr t) = inr (λ e. true≢false (sym ((bytes_eq-Decides a b).1 e) ∙ t))

-- ---- what is the same if the same is read

pub short_same : (d d' : Disk) (h t : List ℕ) → ((l : List ℕ) → get d' (host_inner h t l) ≡ get d (host_inner h t l)) → short_at d' h t ≡ short_at d h t
short_same d d' h t same = ap₂ (λ (a b : Option Thing). folder_kind (bytes_of a) (bytes_of b) None) (same text_dir) (same text_symlink)

pub folder_same : (d d' : Disk) (h e : List ℕ) → ((l : List ℕ) → get d' (host_inner h e l) ≡ get d (host_inner h e l)) → folder_at d' h e ≡ folder_at d h e
folder_same d d' h e same =
    ap₂ (λ (a b : Option Thing). folder_kind (bytes_of a) (bytes_of b) (bytes_of (get d' (host_inner h e text_contents)))) (same text_dir) (same text_symlink)
    ∙ ap (λ (c : Option Thing). folder_kind (bytes_of (get d (host_inner h e text_dir))) (bytes_of (get d (host_inner h e text_symlink))) (bytes_of c)) (same text_contents)

pub long_same : (d d' : Disk) (h e t : List ℕ) → ((l : List ℕ) → get d' (host_inner h e l) ≡ get d (host_inner h e l)) → long_at d' h e t ≡ long_at d h e t
long_same d d' h e t same = ap₂ (λ (a : Option Thing) (k : Kind). long_kind t (bytes_of a) k) (same text_name) (folder_same d d' h e same)

-- a folder whose name.c9s holds only another text shows nothing to this one
abbrev pub HoldsOnly : List ℕ → Option Thing → Type 0
HoldsOnly t w = (u : List ℕ) → bytes_of w ≡ Some u → u ≡ t

pub holds_none : (t : List ℕ) (w : Option Thing) → w ≡ None → HoldsOnly t w
holds_none t w h u e = let z : ◌≡◌ {A = Option (List ℕ)} None (Some u) = sym (ap bytes_of h) ∙ e in absurd (cc)

pub holds_it : (t : List ℕ) (w : Option Thing) → w ≡ Some (Bytes t) → HoldsOnly t w
holds_it t w h u e = let z : ◌≡◌ {A = Option (List ℕ)} (Some t) (Some u) = sym (ap bytes_of h) ∙ e in let a : t ≡ u = cc in sym a

pub not_shown : (t x : List ℕ) (w : Option Thing) (k : Kind) → HoldsOnly x w → t ≢ x → long_kind t (bytes_of w) k ≡ None
not_shown t x w k only ne = go (bytes_of w) refl
  where
    go : (z : Option (List ℕ)) → bytes_of w ≡ z → long_kind t z k ≡ None
    go None e = refl
    go (Some y) e = which (bytes_eq y t) refl
      where
        which : (b : Bool) → bytes_eq y t ≡ b → kind_where b k ≡ None
        which false h = refl
        which true h = absurd (ne (sym ((bytes_eq-Decides y t).0 h) ∙ only y e))

pub entry_same : (s : Sealing) (d d' : Disk) (h t : List ℕ) → get d' (host_entry h t) ≡ get d (host_entry h t) → entry_at s d' h t ≡ entry_at s d h t
entry_same s d d' h t e = ap (λ (w : Option Thing). cond (s.is_part t) w None) e

pub entry_part : (s : Sealing) (d : Disk) (h t : List ℕ) → s.is_part t ≡ true → entry_at s d h t ≡ get d (host_entry h t)
entry_part s d h t e = cond-true (s.is_part t) _ _ e

pub entry_none : (s : Sealing) (d : Disk) (h t : List ℕ) → get d (host_entry h t) ≡ None → entry_at s d h t ≡ None
entry_none s d h t e = go (s.is_part t)
  where
    go : (b : Bool) → cond b (get d (host_entry h t)) None ≡ None
    go true = e
    go false = refl

pub entry_some : (s : Sealing) (d : Disk) (h t : List ℕ) (x : Thing) → entry_at s d h t ≡ Some x → (s.is_part t ≡ true) × (get d (host_entry h t) ≡ Some x)
entry_some s d h t x e = go (s.is_part t) refl e
  where
    go : (b : Bool) → s.is_part t ≡ b → cond b (get d (host_entry h t)) None ≡ Some x → (s.is_part t ≡ true) × (get d (host_entry h t) ≡ Some x)
    go true p q = (p, q)
    go false p q = absurd (cc)

pub seen_same : (s : Sealing) (d d' : Disk) (h t : List ℕ) →
    (s.is_text t ≡ true → (get d' (host_entry h t) ≡ get d (host_entry h t)) × ((l : List ℕ) → get d' (host_inner h t l) ≡ get d (host_inner h t l)) × (long_at d' h (s.long_of t) t ≡ long_at d h (s.long_of t) t)) →
    seen_at s d' h t ≡ seen_at s d h t
seen_same s d d' h t same = go (s.is_text t) refl
  where
    go : (b : Bool) → s.is_text t ≡ b →
        cond b (either_kind (entry_at s d' h t) (short_at d' h t) (long_at d' h (s.long_of t) t)) None ≡ cond b (either_kind (entry_at s d h t) (short_at d h t) (long_at d h (s.long_of t) t)) None
    go true e = let a = same e in
        ap₂ (λ (w : Option Thing) (k : Kind). either_kind w k (long_at d' h (s.long_of t) t)) (entry_same s d d' h t a.0) (short_same d d' h t a.1)
        ∙ ap (either_kind (entry_at s d h t) (short_at d h t)) a.2
    go false e = refl

-- ---- which entry is a node's

pub entry_cases : (s : Sealing) (d : Disk) (h t : List ℕ) →
    ((entry_at s d h t ≡ None) × (entry_of s d h t ≡ s.long_of t)) ⊎ ((x : Thing) × (entry_at s d h t ≡ Some x) × (entry_of s d h t ≡ t))
entry_cases s d h t = go (entry_at s d h t) refl
  where
    go : (w : Option Thing) → entry_at s d h t ≡ w →
        ((entry_at s d h t ≡ None) × (entry_of s d h t ≡ s.long_of t)) ⊎ ((x : Thing) × (entry_at s d h t ≡ Some x) × (entry_of s d h t ≡ t))
    go None e = inl (e, ap (λ (z : Option Thing). entry_where z t (s.long_of t)) e)
    go (Some x) e = inr (x, e, ap (λ (z : Option Thing). entry_where z t (s.long_of t)) e)

pub seen_text : (s : Sealing) (d : Disk) (h t : List ℕ) → s.is_text t ≡ true → seen_at s d h t ≡ either_kind (entry_at s d h t) (short_at d h t) (long_at d h (s.long_of t) t)
seen_text s d h t e = cond-true (s.is_text t) _ _ e

-- what shows at a long place has its name there
long_name : (t : List ℕ) (w : Option (List ℕ)) (k kk : Kind) → long_kind t w k ≡ Some kk → (w ≡ Some t) × (k ≡ kk)
long_name t None k kk h = absurd (cc)
long_name t (Some x) k kk h = go (bytes_eq x t) refl h
  where
    go : (b : Bool) → bytes_eq x t ≡ b → kind_where b k ≡ Some kk → (◌≡◌ {A = Option (List ℕ)} (Some x) (Some t)) × (k ≡ kk)
    go true e h2 = let a : k ≡ kk = cc in (ap (λ (z : List ℕ). Some z) ((bytes_eq-Decides x t).0 e), a)
    go false e h2 = absurd (cc)

pub long_shown : (s : Sealing) (d : Disk) (h t : List ℕ) (kk : Kind) → s.is_text t ≡ true → seen_at s d h t ≡ Some kk → entry_at s d h t ≡ None →
    (bytes_of (get d (host_inner h (s.long_of t) text_name)) ≡ Some t) × (folder_at d h (s.long_of t) ≡ kk)
long_shown s d h t kk text seen none =
    long_name t (bytes_of (get d (host_inner h (s.long_of t) text_name))) (folder_at d h (s.long_of t)) kk
    (sym (ap (λ (z : Option Thing). either_kind z (short_at d h t) (long_at d h (s.long_of t) t)) none) ∙ sym (seen_text s d h t text) ∙ seen)

pub file_bytes : (w : Option Thing) (x : List ℕ) → bytes_of w ≡ Some x → w ≡ Some (Bytes x)
file_bytes None x h = absurd (cc)
file_bytes (Some Folder) x h = absurd (cc)
file_bytes (Some (Bytes b)) x h = let e : b ≡ x = cc in ap (λ (z : List ℕ). Some (Bytes z)) e

-- what is looked up is seen, under a name that opens
pub looked : (s : Sealing) (v : Folders) (i n : List ℕ) (x : Kind) → look s v i n ≡ Some x →
    (is_name n (s.open_name i (s.seal i n)) ≡ true) × (v.seen (s.folder_of i) (s.seal i n) ≡ Some x)
looked s v i n x h = go (is_name n (s.open_name i (s.seal i n))) refl h
  where
    go : (b : Bool) → is_name n (s.open_name i (s.seal i n)) ≡ b → cond b (v.seen (s.folder_of i) (s.seal i n)) None ≡ Some x →
        (is_name n (s.open_name i (s.seal i n)) ≡ true) × (v.seen (s.folder_of i) (s.seal i n) ≡ Some x)
    go true e h2 = (e, h2)
    go false e h2 = cc

pub look_seen : (s : Sealing) (v : Folders) (i n : List ℕ) → is_name n (s.open_name i (s.seal i n)) ≡ true → look s v i n ≡ v.seen (s.folder_of i) (s.seal i n)
look_seen s v i n named = cond-true (is_name n (s.open_name i (s.seal i n))) _ _ named

-- a node is of some kind, and that isn't bare
pub node_kind : (s : Sealing) (v : Folders) (o : List ℕ → Path) (q : Path) (j m : List ℕ) (y : Node) → node_at s v o q ≡ Some (Dir j) → node_at s v o (m ∷ q) ≡ Some y →
    (k : Kind) × (look s v j m ≡ Some k) × (k ≢ Bare) × (node s v o (m ∷ q) (Some k) ≡ Some y)
node_kind s v o q j m y hq hm = go (look s v j m) refl
  where
    of : node s v o (m ∷ q) (look s v j m) ≡ Some y
    of = sym (child_at s v o m j q hq) ∙ hm

    go : (w : Option Kind) → look s v j m ≡ w → (k : Kind) × (look s v j m ≡ Some k) × (k ≢ Bare) × (node s v o (m ∷ q) (Some k) ≡ Some y)
    go None e = let z : ◌≡◌ {A = Option Node} None (Some y) = sym (ap (node s v o (m ∷ q)) e) ∙ of in absurd (cc)
    go (Some k) e =
        let f : node s v o (m ∷ q) (Some k) ≡ Some y = sym (ap (node s v o (m ∷ q)) e) ∙ of in
        (k, e, (λ b. let z : ◌≡◌ {A = Option Node} None (Some y) = sym (ap (λ (w : Kind). node s v o (m ∷ q) (Some w)) b) ∙ f in cc), f)

-- ---- trees

pub none_below : (d : Disk) → IsTree d → (F X l : List ℕ) → get d (host_entry F X) ≡ None → get d (host_inner F X l) ≡ None
none_below d tree F X l h = nothing _ (λ y e. some_there _ _ (tree.parents (host_inner F X l) (subst Rattle.std.proofs.Common.IsSome (sym e) refl)) h)

pub above_inner : (d : Disk) → IsTree d → (F X l : List ℕ) (y : Thing) → get d (host_inner F X l) ≡ Some y → get d (host_entry F X) ≡ Some Folder
above_inner d tree F X l y e = tree.parents (host_inner F X l) (subst Rattle.std.proofs.Common.IsSome (sym e) refl)

folder_from : (x : Option Thing) → is_folder x ≡ true → x ≡ Some Folder
folder_from None h = absurd (true≢false (sym h))
folder_from (Some Folder) h = refl
folder_from (Some (Bytes b)) h = absurd (true≢false (sym h))

-- a directory's folder is there
pub dir_there : (s : Sealing) (d : Disk) (o : List ℕ → Path) → get d (host_folder (s.folder_of [])) ≡ Some Folder → (p : Path) (i : List ℕ) →
    node_at s (folders_of s d) o p ≡ Some (Dir i) → get d (host_folder (s.folder_of i)) ≡ Some Folder
unfolding node_at
dir_there s d o root [] i h = let e : [] ≡ i = cc in subst (λ (z : List ℕ). get d (host_folder (s.folder_of z)) ≡ Some Folder) e root
dir_there s d o root (m ∷ q) i h =
    let good : is_good s (folders_of s d) o (m ∷ q) i ≡ true = below_dir s (folders_of s d) o (m ∷ q) m (node_at s (folders_of s d) o q) i h in
    folder_from (get d (host_folder (s.folder_of i))) (and_parts _ _ (and_parts _ _ good).1).0
