-- A load from the root's turn to the last.
use Rattle.std.proofs.Common.{◌≡◌, ℕ, ◌+◌, Bool, true, false, cond, List, [], length, Option, None, Some, Err, IsErrOf, bytes_eq, refl, sym, ap, ◌∙◌, subst}
use Rattle.std.specs.BTreeSet.{BTreeSet, Updates}
use Rattle.std.specs.BTreeMap.{is_at}
use Rattle.std.specs.List.{list_any}
use Rattle.std.specs.Ordering.{nat_cmp}
use Rattle.std.specs.Cmp.Lexicographic.{slice_cmp}
use Rattle.std.proofs.lemmas.Map.Text.{is_eq-slice_cmp}
use Rattle.outside.specs.Disk.{Disk, Node as Thing, folder as Folder, file as Bytes, node_at}
use Rattle.outside.specs.Calls.{Told}
use Rattle.outside.proofs.Told.{told_both}
use Rattle.vault_keys.specs.Keys.{KeyPair}
use Rattle.vault_names.specs.Folder.{base32, folder_of, hash_of}
use Rattle.clear_tree.specs.Places.{host_folder, is_folder}
use Rattle.clear_tree.specs.Kept.{KeptTree, KeptDir, IsKept}
use Rattle.clear_tree.specs.Built.{root_alone, root_node}
use Rattle.clear_tree.specs.Loading.{IsLoading, HasNodes}
use Rattle.clear_tree.proofs.Turns.{begun}
use Rattle.clear_tree.proofs.Loaded.{loading_ends}
use Rattle.tree_loading.specs.Format.{sealing_of}
use Rattle.tree_loading.specs.declared.load_fault.LoadErr.{LoadErr}
use Rattle.tree_loading.specs.declared.nodes.Loading.{Loading}
use Rattle.tree_loading.specs.Clear.{HasTooMany}
use Rattle.tree_loading.specs.Under.{is_claimed, HasFolder}
use Rattle.tree_loading.specs.Turned.{HasRoot, GoesOn, FindsTooMany}

cond_is : (b : Bool) → cond b true false ≡ b
cond_is true = refl
cond_is false = refl

-- the root alone, whose folder is named
pub root_begun : (keys : KeyPair) (folder : List ℕ) (tree : KeptTree) (old new : BTreeSet (List ℕ)) → HasFolder keys [] folder → tree ≡ root_alone folder → old.keys ≡ [] → Updates (slice_cmp nat_cmp) old new folder true →
    (d : Disk) → IsLoading (sealing_of keys) d 0 tree (is_claimed new)
root_begun keys folder tree old new has is empty put d = subst (λ (t : KeptTree). IsLoading (sealing_of keys) d 0 t (is_claimed new)) (sym is)
    (begun (sealing_of keys) d (root_alone folder) (is_claimed new) (root_node folder) refl (record { own = refl; name = refl; entry = refl; short = refl; alone = refl })
    (ap (KeptDir []) has.own) refl refl (λ f.
    put.0 f
    ∙ ap (λ (ks : List (List ℕ)). cond (is_at (slice_cmp nat_cmp folder) f) true (list_any (is_at (slice_cmp nat_cmp f)) ks)) empty
    ∙ cond_is (is_at (slice_cmp nat_cmp folder) f)
    ∙ is_eq-slice_cmp folder f
    ∙ ap (λ (z : List ℕ). bytes_eq z f) has.own))

-- one turn more
pub told_turn : (contents now : Option Disk) (keys : KeyPair) (turns : ℕ) (old mid new : Loading) → now ≡ contents → Told contents (λ d. GoesOn keys d 0 turns old mid) → Told now (λ d. GoesOn keys d turns (turns + 1) mid new) →
    Told contents (λ d. GoesOn keys d 0 (turns + 1) old new)
told_turn contents now keys turns old mid new same a b =
    told_both contents _ _ _ a (subst (λ (o : Option Disk). Told o (λ d. GoesOn keys d turns (turns + 1) mid new)) same b) (λ d x y root is. y root (x root is))

pub many_before : (contents now : Option Disk) (keys : KeyPair) (turns count : ℕ) (old mid : Loading) → now ≡ contents → Told contents (λ d. GoesOn keys d 0 turns old mid) → FindsTooMany keys now turns mid count → FindsTooMany keys contents 0 old count
many_before contents now keys turns count old mid same a many = (
  many.0,
  told_both contents _ _ _ a
      (subst (λ (o : Option Disk). Told o (λ d. HasRoot keys d → IsLoading (sealing_of keys) d turns mid.tree (is_claimed mid.claims) → HasNodes (sealing_of keys) d count)) same many.1) (λ d x y root is. y root (x root is)),
)

-- ---- the root's folder

folder_there : (o : Option Thing) → is_folder o ≡ true → o ≡ Some Folder
folder_there (Some Folder) h = refl
folder_there (Some (Bytes b)) h = absurd (cc)
folder_there None h = absurd (cc)

-- one path by both definitions
host_folder_of : (keys : KeyPair) (identifier : List ℕ) → folder_of keys identifier ≡ host_folder (base32 (hash_of keys identifier))
unfolding folder_of
host_folder_of keys identifier = refl

has_root : (keys : KeyPair) (d : Disk) (path : List (List ℕ)) (there : Bool) → path ≡ folder_of keys [] → there ≡ true → there ≡ is_folder (node_at d path) → HasRoot keys d
has_root keys d path there at yes' seen = folder_there _ (ap (λ (p : List (List ℕ)). is_folder (node_at d p)) (sym (at ∙ host_folder_of keys [])) ∙ sym seen ∙ yes')

module _ (contents now : Option Disk) (keys : KeyPair) (path : List (List ℕ)) (there : Bool) (old : Loading) (at : path ≡ folder_of keys []) (is_there : there ≡ true) (same : now ≡ contents)
    (seen : Told contents (λ d. there ≡ is_folder (node_at d path))) (first : (d : Disk) → IsLoading (sealing_of keys) d 0 old.tree (is_claimed old.claims)) where
  pub told_kept : (new : Loading) → Told now (λ d. GoesOn keys d 0 (length new.tree.nodes) old new) → Told contents (λ d. IsKept (sealing_of keys) d new.tree)
  told_kept new goes = told_both contents _ _ _ seen (subst (λ (o : Option Disk). Told o (λ d. GoesOn keys d 0 (length new.tree.nodes) old new)) same goes)
      (λ d s g. let root : HasRoot keys d = has_root keys d path there at is_there s in loading_ends (sealing_of keys) d new.tree (is_claimed new.claims) root (g root (first d)))

  pub told_too_many : (count : ℕ) → FindsTooMany keys now 0 old count → HasTooMany keys contents count
  told_too_many count many = record {
    beyond = many.0;
    nodes = told_both contents _ _ _ seen
        (subst (λ (o : Option Disk). Told o (λ d. HasRoot keys d → IsLoading (sealing_of keys) d 0 old.tree (is_claimed old.claims) → HasNodes (sealing_of keys) d count)) same many.1)
        (λ d s g. g (has_root keys d path there at is_there s) (first d));
  }

-- an error is the same whatever would have been the answer
pub other_err : {A B : Type 0} (x y : LoadErr) → IsErrOf {T = A} (Err x) y → IsErrOf {T = B} (Err x) y
other_err x y h = let e : x ≡ y = cc in ap Err e
