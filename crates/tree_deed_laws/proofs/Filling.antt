-- Node folders: what a new one is, and at which entry.
use Rattle.std.proofs.Common.{◌≡◌, ◌≢◌, ◌↔◌, ℕ, Bool, true, false, List, IsTrue, Some, None, refl, sym, ap, ◌∙◌, inl, inr, true≢false}
use Rattle.std.specs.FinMap.{get, insert}
use Rattle.outside.specs.Disk.{Disk, folder as Folder, file as Bytes, IsTree}
use Rattle.clear_tree.specs.Walk.{Sealing, Kind, Plain, Named, Linked, Bare}
use Rattle.clear_tree.specs.Places.{host_entry, host_inner, entry_at, seen_at, text_dir, text_dirid, text_symlink, text_contents, text_name}
use Rattle.clear_tree.specs.Marks.{IsShadowed}
use Rattle.tree_deed_laws.specs.Trees.{AreTexts}
use Rattle.tree_deed_laws.specs.Deeds.{entry_text}
use Rattle.tree_deed_laws.proofs.Disk.{get_put, get_put_other, entry_inner, inner_is}
use Rattle.tree_deed_laws.proofs.Seeing.{entry_same, entry_part, HoldsOnly, none_below, some_there}
use Rattle.tree_deed_laws.proofs.Exact.{IsPlace}
use Rattle.tree_deed_laws.proofs.Nodes.{MakesKind, IsNodeFolder, alone_folder, none_shown}

-- a long entry is no text
pub not_long : (s : Sealing) → AreTexts s → (t u : List ℕ) → s.is_text t ≡ true → t ≢ s.long_of u
not_long s texts t u text h = true≢false (sym text ∙ ap s.is_text h ∙ texts.long u)

pub no_copy : (s : Sealing) → AreTexts s → (b : Bool) (t : List ℕ) → s.is_text t ≡ true → entry_text s b t ≢ text_dirid
no_copy s texts false t text h = true≢false (sym text ∙ ap s.is_text h ∙ texts.copy)
no_copy s texts true t text h = texts.no_copy t h

pub at_place : (s : Sealing) (d d' : Disk) (F t : List ℕ) (b : Bool) → (b ≡ true → HoldsOnly t (get d (host_inner F (entry_text s b t) text_name))) → (b ≡ true → HoldsOnly t (get d' (host_inner F (entry_text s b t) text_name))) →
    IsPlace s d d' F t (entry_text s b t)
at_place s d d' F t false h h' = inl refl
at_place s d d' F t true h h' = inr (refl, h refl, h' refl)

pub entry_free : (s : Sealing) (d : Disk) (F t : List ℕ) (b : Bool) → (b ≡ false → get d (host_entry F t) ≡ None) → get d (host_entry F (s.long_of t)) ≡ None → get d (host_entry F (entry_text s b t)) ≡ None
entry_free s d F t false a c = a refl
entry_free s d F t true a c = c

-- nothing shows if both places are free
pub free_seen : (s : Sealing) (d : Disk) (F t : List ℕ) → IsTree d → s.is_text t ≡ true → entry_at s d F t ≡ None → get d (host_entry F (s.long_of t)) ≡ None → seen_at s d F t ≡ None
free_seen s d F t tree text a c = none_shown s d F t text a (λ z. some_there _ _ z (none_below d tree F (s.long_of t) text_name c))

pub kind_good : (b : Bool) (kn t : List ℕ) (kk : Kind) → MakesKind b kn t kk → kk ≢ Bare
kind_good b kn t kk (inl k) z = let w : Named t ≡ Bare = sym k.1 ∙ z in cc
kind_good b kn t kk (inr (inl k)) z = let w : Linked t ≡ Bare = sym k.1 ∙ z in cc
kind_good b kn t kk (inr (inr k)) z = let w : Plain t ≡ Bare = sym k.1 ∙ z in cc

pub kind_name : (b : Bool) (kn t : List ℕ) (kk : Kind) → MakesKind b kn t kk → kn ≢ text_name
kind_name b kn t kk (inl k) z = let w : text_dir ≡ text_name = sym k.0 ∙ z in cc
kind_name b kn t kk (inr (inl k)) z = let w : text_symlink ≡ text_name = sym k.0 ∙ z in cc
kind_name b kn t kk (inr (inr k)) z = let w : text_contents ≡ text_name = sym k.0 ∙ z in cc

-- a made folder that is given its known file
pub filled : (s : Sealing) (w : Disk) (F X : List ℕ) (b : Bool) (kn t : List ℕ) (kk : Kind) → MakesKind b kn t kk →
    get w (host_entry F (entry_text s b X)) ≡ Some Folder → (b ≡ true → get w (host_inner F (entry_text s b X) text_name) ≡ Some (Bytes X)) →
    ((l : List ℕ) → (b ≡ true → l ≢ text_name) → get w (host_inner F (entry_text s b X) l) ≡ None) → (b ≡ true → entry_at s w F X ≡ None) → (b ≡ false → s.is_part X ≡ true) →
    IsNodeFolder s (insert w (host_inner F (entry_text s b X) kn) (Bytes t)) F X b kn t kk
filled s w F X b kn t kk kind entry name none short part = record {
  part = part;
  entry = get_put_other w _ (Bytes t) _ (entry_inner F E F E kn) ∙ entry;
  main = get_put w _ (Bytes t);
  kind = kind;
  name = λ z. get_put_other w _ (Bytes t) _ (λ h. kind_name b kn t kk kind (sym (inner_is F E F E text_name kn h).2)) ∙ name z;
  short = λ z. entry_same s w (insert w (host_inner F E kn) (Bytes t)) F X (get_put_other w _ (Bytes t) _ (entry_inner F X F E kn)) ∙ short z;
  only = λ l far no_name. get_put_other w _ (Bytes t) _ (λ h. far (inner_is F E F E l kn h).2) ∙ none l no_name;
}
  where
    E : List ℕ
    E = entry_text s b X

-- and what stays of one if its own places stay
pub folder_kept : (s : Sealing) (w w' : Disk) (F X : List ℕ) (b : Bool) (kn t : List ℕ) (kk : Kind) → IsNodeFolder s w F X b kn t kk →
    get w' (host_entry F (entry_text s b X)) ≡ get w (host_entry F (entry_text s b X)) → ((l : List ℕ) → get w' (host_inner F (entry_text s b X) l) ≡ get w (host_inner F (entry_text s b X) l)) →
    (b ≡ true → entry_at s w' F X ≡ None) → IsNodeFolder s w' F X b kn t kk
folder_kept s w w' F X b kn t kk n entry inner short = record {
  entry = entry ∙ n.entry;
  main = inner kn ∙ n.main;
  kind = n.kind;
  name = λ z. inner text_name ∙ n.name z;
  short = short;
  part = n.part;
  only = λ l far no_name. inner l ∙ n.only l far no_name;
}

-- a node folder of a text whose other place is free has no mark
pub no_mark_at : (s : Sealing) (d : Disk) (i n : List ℕ) (b : Bool) (kn t : List ℕ) (kk : Kind) → s.is_text (s.seal i n) ≡ true → IsNodeFolder s d (s.folder_of i) (s.seal i n) b kn t kk →
    (b ≡ false → get d (host_inner (s.folder_of i) (s.long_of (s.seal i n)) text_name) ≡ None) → IsShadowed s d i n → ⊥
no_mark_at s d i n b kn t kk text node far (inl f) = alone_folder s d (s.folder_of i) (s.seal i n) b kn t kk text node f
no_mark_at s d i n b kn t kk text node far (inr w) = go b refl
  where
    go : (c : Bool) → b ≡ c → ⊥
    go true h = w.short (node.short h)
    go false h = some_there _ _ w.long (far h)

-- a node folder is at its long place if and only if nothing is at its short one
pub folder_at : (s : Sealing) (d : Disk) (F X : List ℕ) (b : Bool) (kn t : List ℕ) (kk : Kind) → IsNodeFolder s d F X b kn t kk → IsTrue b ↔ (entry_at s d F X ≡ None)
folder_at s d F X true kn t kk n = ((λ h. n.short h), (λ h. refl))
folder_at s d F X false kn t kk n = ((λ h. absurd (true≢false (sym h))), (λ h. absurd (some_there _ _ (entry_part s d F X (n.part refl) ∙ n.entry) h)))

pub file_at : (s : Sealing) (d : Disk) (F X y : List ℕ) → entry_at s d F X ≡ Some (Bytes y) → IsTrue false ↔ (entry_at s d F X ≡ None)
file_at s d F X y it = ((λ h. absurd (true≢false (sym h))), (λ h. absurd (some_there _ _ it h)))

-- where a node is: at its long place if and only if no entry is at its short one
abbrev pub IsAt : Sealing → Disk → List ℕ → List ℕ → Bool → Type 0
IsAt s d F X b = (b ≡ true → entry_at s d F X ≡ None) × (b ≡ false → entry_at s d F X ≢ None)

pub is_at : (s : Sealing) (d : Disk) (F X : List ℕ) (b : Bool) → IsTrue b ↔ (entry_at s d F X ≡ None) → IsAt s d F X b
is_at s d F X b h = ((λ e. h.0 e), (λ e z. true≢false (sym (h.1 z) ∙ e)))
