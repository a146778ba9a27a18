-- A node folder made, and one removed: the deeds can be done, and what is there after.
use Rattle.std.proofs.Common.{◌≡◌, ◌≢◌, ℕ, Bool, true, false, List, Some, None, IsNone, refl, sym, ap, ◌∙◌, subst, inl, inr, ◌⊎◌, true≢false}
use Rattle.std.specs.FinMap.{get, insert, remove}
use Rattle.outside.specs.Disk.{Disk, folder as Folder, file as Bytes, Path as HostPath}
use Rattle.outside.specs.Changes.{IsFree}
use Rattle.deeds.specs.Deeds.{DoesAll}
use Rattle.deeds.proofs.Putting.{none_held}
use Rattle.clear_tree.specs.Places.{host_folder, host_entry, host_inner, text_name}
use Rattle.tree_deed_laws.specs.Deeds.{make_node, clear_node}
use Rattle.tree_deed_laws.proofs.Disk.{get_put, get_put_other, get_gone, get_gone_other, entry_inner, inner_entry}
use Rattle.tree_deed_laws.proofs.Seeing.{text_cases}

pub record Made (d d1 : Disk) (b : Bool) (F e X : List ℕ) : Type 0 where
  pub does : DoesAll (make_node b F e X) d d1
  pub entry : get d1 (host_entry F e) ≡ Some Folder
  pub name : b ≡ true → get d1 (host_inner F e text_name) ≡ Some (Bytes X)
  pub none : (l : List ℕ) → (b ≡ true → l ≢ text_name) → get d1 (host_inner F e l) ≡ None
  pub off : (q : HostPath) → q ≢ host_entry F e → q ≢ host_inner F e text_name → get d1 q ≡ get d q

pub make : (d : Disk) (b : Bool) (F e X : List ℕ) → get d (host_folder F) ≡ Some Folder → get d (host_entry F e) ≡ None → ((l : List ℕ) → get d (host_inner F e l) ≡ None) →
    (d1 : Disk) × Made d d1 b F e X
make d false F e X there free none = (
  insert d (host_entry F e) Folder,
  record {
    does = (insert d (host_entry F e) Folder, inr (record { inside = there; free = inl (subst IsNone (sym free) refl) }, refl), refl);
    entry = get_put d (host_entry F e) Folder;
    name = λ z. absurd (true≢false (sym z));
    none = λ l z. get_put_other d _ Folder (host_inner F e l) (inner_entry F e l F e) ∙ none l;
    off = λ q ne ne2. get_put_other d _ Folder q ne;
  },
)
make d true F e X there free none = (
  d2,
  record {
    does = (
      d1,
      inr (record { inside = there; free = inl (subst IsNone (sym free) refl) }, refl),
      (d2, inr ((record { inside = get_put d (host_entry F e) Folder; free = inl (subst IsNone (sym none1) refl) }, none_held (host_inner F e text_name) X d1 none1), refl), refl),
    );
    entry = get_put_other d1 _ (Bytes X) (host_entry F e) (entry_inner F e F e text_name) ∙ get_put d (host_entry F e) Folder;
    name = λ z. get_put d1 (host_inner F e text_name) (Bytes X);
    none = λ l z. get_put_other d1 _ (Bytes X) (host_inner F e l) (λ w. let a : l ≡ text_name = cc in z refl a) ∙ get_put_other d _ Folder (host_inner F e l) (inner_entry F e l F e) ∙ none l;
    off = λ q ne ne2. get_put_other d1 _ (Bytes X) q ne2 ∙ get_put_other d _ Folder q ne;
  },
)
  where
    d1 : Disk
    d1 = insert d (host_entry F e) Folder

    d2 : Disk
    d2 = insert d1 (host_inner F e text_name) (Bytes X)

    none1 : get d1 (host_inner F e text_name) ≡ None
    none1 = get_put_other d _ Folder (host_inner F e text_name) (inner_entry F e text_name F e) ∙ none text_name

pub record Cleared (d d1 : Disk) (b : Bool) (F e : List ℕ) : Type 0 where
  pub does : DoesAll (clear_node b F e) d d1
  pub entry : get d1 (host_entry F e) ≡ None
  pub none : (l : List ℕ) → get d1 (host_inner F e l) ≡ None
  pub off : (q : HostPath) → q ≢ host_entry F e → q ≢ host_inner F e text_name → get d1 q ≡ get d q

pub clear : (d : Disk) (b : Bool) (F e : List ℕ) → get d (host_entry F e) ≡ Some Folder → ((l : List ℕ) → (b ≡ true → l ≢ text_name) → get d (host_inner F e l) ≡ None) →
    (b ≡ true → IsFree (get d (host_inner F e text_name))) → (d1 : Disk) × Cleared d d1 b F e
clear d false F e there none free = (
  remove d (host_entry F e),
  record {
    does = (remove d (host_entry F e), inr (inr (record { below = λ z. cc; there = there; no_child = λ l. none l (λ z. absurd (true≢false (sym z))) }), refl), refl);
    entry = get_gone d (host_entry F e);
    none = λ l. get_gone_other d _ (host_inner F e l) (inner_entry F e l F e) ∙ none l (λ z. absurd (true≢false (sym z)));
    off = λ q ne ne2. get_gone_other d _ q ne;
  },
)
clear d true F e there none free = (
  d2,
  record {
    does = (d1, inr (free refl, refl), (d2, inr (inr (record { below = λ z. cc; there = get_gone_other d _ (host_entry F e) (entry_inner F e F e text_name) ∙ there; no_child = all1 }), refl), refl));
    entry = get_gone d1 (host_entry F e);
    none = λ l. get_gone_other d1 _ (host_inner F e l) (inner_entry F e l F e) ∙ all1 l;
    off = λ q ne ne2. get_gone_other d1 _ q ne ∙ get_gone_other d _ q ne2;
  },
)
  where
    d1 : Disk
    d1 = remove d (host_inner F e text_name)

    d2 : Disk
    d2 = remove d1 (host_entry F e)

    all1 : (l : List ℕ) → get d1 (host_inner F e l) ≡ None
    all1 l = go (text_cases l text_name)
      where
        go : (l ≡ text_name) ⊎ (l ≢ text_name) → get d1 (host_inner F e l) ≡ None
        go (inl a) = ap (λ (z : List ℕ). get d1 (host_inner F e z)) a ∙ get_gone d (host_inner F e text_name)
        go (inr far) = get_gone_other d _ (host_inner F e l) (λ w. let a : l ≡ text_name = cc in far a) ∙ none l (λ z. far)
