-- What a text of `dir.c9r` makes of its node.
use Rattle.std.proofs.Common.{◌≡◌, ℕ, Bool, true, false, cond, not, ◌&&◌, ◌||◌, List, Option, Some, None, bytes_eq, refl, sym, ap, ◌∙◌}
use Rattle.std.specs.BTreeSet.{BTreeSet, Updates}
use Rattle.std.specs.Ordering.{nat_cmp}
use Rattle.std.specs.Option.{option_map}
use Rattle.std.specs.Cmp.Lexicographic.{slice_cmp}
use Rattle.std.specs.FinMap.{get}
use Rattle.std.proofs.lemmas.Map.Text.{is_eq-slice_cmp}
use Rattle.outside.specs.declared.folder.Kind.TheVariants as host
use Rattle.outside.specs.Disk.{Disk, Node as Thing, folder as Folder, file as Bytes, kind_of, kind_at, node_at}
use Rattle.outside.specs.Calls.{Told}
use Rattle.outside.proofs.Told.{told_then}
use Rattle.vault_keys.specs.Keys.{KeyPair}
use Rattle.clear_tree.specs.Places.{host_folder, is_folder}
use Rattle.clear_tree.specs.declared.node.What.TheVariants as what
use Rattle.clear_tree.specs.Kept.{KeptDir, KeptBad}
use Rattle.clear_tree.specs.Scan.{ShownText}
use Rattle.tree_loading.specs.Format.{sealing_of, is_identifier}
use Rattle.tree_loading.specs.Under.{is_claimed, HasFolder}
use Rattle.tree_loading.specs.Settled.{IsSettled, Claims}

or_by : (a b : Bool) → cond b true a ≡ (a || b)
or_by true true = refl
or_by true false = refl
or_by false true = refl
or_by false false = refl

module _ (keys : KeyPair) (text folder : List ℕ) (valid : is_identifier text ≡ true) (has : HasFolder keys text folder) where
  -- the folder that was put among the claims is the text's
  pub claimed_now : (old new : BTreeSet (List ℕ)) → Updates (slice_cmp nat_cmp) old new folder true → Claims keys old new (ShownText text)
  claimed_now old new put f =
      put.0 f
      ∙ ap (λ (b : Bool). cond b true (is_claimed old f)) (is_eq-slice_cmp folder f ∙ ap (λ (z : List ℕ). bytes_eq z f) has.own)
      ∙ or_by (is_claimed old f) (bytes_eq ((sealing_of keys).folder_of text) f)
      ∙ ap (λ (b : Bool). is_claimed old f || (b && bytes_eq ((sealing_of keys).folder_of text) f)) (sym valid)

  module _ (d : Disk) (claims : BTreeSet (List ℕ)) where
    abbrev present : Bool
    present = is_folder (get d (host_folder ((sealing_of keys).folder_of text)))

    claims_own : is_claimed claims ((sealing_of keys).folder_of text) ≡ is_claimed claims folder
    claims_own = ap (is_claimed claims) (sym has.own)

    no_and : (p : Bool) → (p && false) ≡ false
    no_and true = refl
    no_and false = refl

    -- named already
    pub settled_again : is_claimed claims folder ≡ true → IsSettled keys d claims (ShownText text) (record { what = what.Bad text; again = true })
    settled_again named =
        let own : is_claimed claims ((sealing_of keys).folder_of text) ≡ true = claims_own ∙ named in
        record {
          what = sym (
              (λ i. cond (valid i && (present && not (own i))) (KeptDir text ((sealing_of keys).folder_of text)) (KeptBad text))
              ∙ ap (λ (b : Bool). cond b (KeptDir text ((sealing_of keys).folder_of text)) (KeptBad text)) (no_and present));
          again = λ i. sym valid i && sym own i;
        }

    -- its folder isn't there
    pub settled_absent : is_claimed claims folder ≡ false → present ≡ false → IsSettled keys d claims (ShownText text) (record { what = what.Bad text; again = false })
    settled_absent named absent =
        let own : is_claimed claims ((sealing_of keys).folder_of text) ≡ false = claims_own ∙ named in
        record {
          what = sym (λ i. cond (valid i && (absent i && not (own i))) (KeptDir text ((sealing_of keys).folder_of text)) (KeptBad text));
          again = λ i. sym valid i && sym own i;
        }

    -- a directory
    pub settled_there : is_claimed claims folder ≡ false → present ≡ true → IsSettled keys d claims (ShownText text) (record { what = what.Dir text folder; again = false })
    settled_there named there =
        let own : is_claimed claims ((sealing_of keys).folder_of text) ≡ false = claims_own ∙ named in
        record {
          what = ap (KeptDir text) has.own ∙ sym (λ i. cond (valid i && (there i && not (own i))) (KeptDir text ((sealing_of keys).folder_of text)) (KeptBad text));
          again = λ i. sym valid i && sym own i;
        }

kind_folder : (o : Option Thing) → option_map kind_of o ≡ Some host.Dir → true ≡ is_folder o
kind_folder None h = absurd (cc)
kind_folder (Some Folder) h = refl
kind_folder (Some (Bytes b)) h = absurd (cc)

kind_file : (o : Option Thing) (size : ℕ) → option_map kind_of o ≡ Some (host.File size) → false ≡ is_folder o
kind_file None size h = refl
kind_file (Some Folder) size h = absurd (cc)
kind_file (Some (Bytes b)) size h = refl

-- by the kind of what is at a path, whether it is a folder
pub told_folder : (contents : Option Disk) (path : List (List ℕ)) → Told contents (λ d. Some host.Dir ≡ kind_at d path) → Told contents (λ d. true ≡ is_folder (node_at d path))
told_folder contents path t = told_then contents _ _ t (λ d h. kind_folder (node_at d path) (sym h))

pub told_file : (contents : Option Disk) (path : List (List ℕ)) (size : ℕ) → Told contents (λ d. Some (host.File size) ≡ kind_at d path) → Told contents (λ d. false ≡ is_folder (node_at d path))
told_file contents path size t = told_then contents _ _ t (λ d h. kind_file (node_at d path) size (sym h))

pub was_claimed : (claimed added : Bool) → added ≡ not claimed → added ≡ false → claimed ≡ true
was_claimed true added e h = refl
was_claimed false added e h = absurd (cc)

pub was_free : (claimed added : Bool) → added ≡ not claimed → added ≡ true → claimed ≡ false
was_free true added e h = absurd (cc)
was_free false added e h = refl

module _ (contents : Option Disk) (keys : KeyPair) (text folder : List ℕ) (path : List (List ℕ)) (claims : BTreeSet (List ℕ)) (there : Bool) (valid : is_identifier text ≡ true) (has : HasFolder keys text folder)
    (free : is_claimed claims folder ≡ false) (at : path ≡ host_folder folder) (seen : Told contents (λ d. there ≡ is_folder (node_at d path))) where
  place : path ≡ host_folder ((sealing_of keys).folder_of text)
  place = at ∙ ap host_folder has.own

  pub told_absent : there ≡ false → Told contents (λ d. IsSettled keys d claims (ShownText text) (record { what = what.Bad text; again = false }))
  told_absent absent = told_then contents _ _ seen (λ d h. settled_absent keys text folder valid has d claims free (ap (λ (p : List (List ℕ)). is_folder (node_at d p)) (sym place) ∙ sym h ∙ absent))

  pub told_present : there ≡ true → Told contents (λ d. IsSettled keys d claims (ShownText text) (record { what = what.Dir text folder; again = false }))
  told_present is_there = told_then contents _ _ seen (λ d h. settled_there keys text folder valid has d claims free (ap (λ (p : List (List ℕ)). is_folder (node_at d p)) (sym place) ∙ sym h ∙ is_there))
