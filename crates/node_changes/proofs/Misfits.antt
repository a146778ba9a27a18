-- Deeds that the folder doesn't fit.
use Rattle.std.proofs.Common.{◌≡◌, ℕ, Bool, true, false, List, Option, Some, None, refl, subst, inl, inr}
use Rattle.outside.specs.Calls.{Told}
use Rattle.outside.specs.Disk.{Disk, Path as HostPath}
use Rattle.outside.specs.Images.{Log, now, disk_in}
use Rattle.deeds.specs.Deeds.{RemovesDir, DoesAll, IsOneOf, in_order}
use Rattle.deeds.specs.Plain.{plains}
use Rattle.deeds.specs.declared.deed.Deed.{Deed}
use Rattle.batch_looks.specs.declared.misfit.Misfit.{Misfit}
use Rattle.batch_looks.specs.declared.misfit.Misfit.TheVariants.{Device, Foreign, Memory}
use Rattle.tree_model.specs.Asked.{PlainRequest}
use Rattle.tree_model.specs.History.{MayLackMemory}
use Rattle.tree_deed_laws.specs.Deeds.{Place, create_file_at, create_file_deeds, create_dir_deeds}
use Rattle.node_changes.specs.Causes.{RefusalCause, misfit_refusal}

-- the cause of their refusal
pub misfit_cause : (request : PlainRequest) (F E : Type 0) (misfit : Misfit) → MayLackMemory request → (misfit ≡ Device → F) → RefusalCause request F E (misfit_refusal misfit)
misfit_cause request F E Device lack failed = failed refl
misfit_cause request F E Foreign lack failed = tt
misfit_cause request F E Memory lack failed = lack

-- what a look says of a disk, of the deeds that it was given
pub cannot_on : (log mid : Option Log) → mid ≡ log → (deeds looked : List Deed) → looked ≡ deeds → Told mid (λ (l : Log). (after : Disk) → DoesAll (in_order (plains looked)) (now l) after → ⊥)
    → Told (disk_in log) (λ (d : Disk). (after : Disk) → DoesAll (in_order (plains deeds)) d after → ⊥)
cannot_on log mid same deeds looked are told =
    on_disk log (subst (λ (ds : List Deed). Told log (λ (l : Log). (after : Disk) → DoesAll (in_order (plains ds)) (now l) after → ⊥)) are
    (subst (λ (o : Option Log). Told o (λ (l : Log). (after : Disk) → DoesAll (in_order (plains looked)) (now l) after → ⊥)) same told))
  where
    on_disk : (o : Option Log) → Told o (λ (l : Log). (after : Disk) → DoesAll (in_order (plains deeds)) (now l) after → ⊥)
        → Told (disk_in o) (λ (d : Disk). (after : Disk) → DoesAll (in_order (plains deeds)) d after → ⊥)
    on_disk None cannot = tt
    on_disk (Some l) cannot = cannot

-- ---- the deeds of a new node remove no folder

pub file_removes_none : (place : Place) (text header : List ℕ) (path : HostPath) → IsOneOf (RemovesDir path) (create_file_deeds place text header) → ⊥
file_removes_none place text header path one = by_place place.long one
  where
    by_place : (long : Bool) → IsOneOf (RemovesDir path) (create_file_at long place.folder place.entry text header) → ⊥
    by_place false (inl is) = cc
    by_place false (inr never) = never
    by_place true (inl is) = cc
    by_place true (inr (inl is)) = cc
    by_place true (inr (inr (inl is))) = cc
    by_place true (inr (inr (inr never))) = never

pub directory_removes_none : (place : Place) (text own identifier : List ℕ) (path : HostPath) → IsOneOf (RemovesDir path) (create_dir_deeds place text own identifier) → ⊥
directory_removes_none place text own identifier path one = by_place place.long one
  where
    by_place : (long : Bool) → IsOneOf (RemovesDir path) (create_dir_deeds (record { folder = place.folder; entry = place.entry; long = long }) text own identifier) → ⊥
    by_place long (inl is) = cc
    by_place long (inr (inl is)) = cc
    by_place false (inr (inr (inl is))) = cc
    by_place false (inr (inr (inr (inl is)))) = cc
    by_place false (inr (inr (inr (inr never)))) = never
    by_place true (inr (inr (inl is))) = cc
    by_place true (inr (inr (inr (inl is)))) = cc
    by_place true (inr (inr (inr (inr (inl is))))) = cc
    by_place true (inr (inr (inr (inr (inr never))))) = never
