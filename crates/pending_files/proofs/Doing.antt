-- What waits is done on a disk.
use Rattle.std.proofs.Common.{◌≡◌, ℕ, List, [], ◌∷◌, ◌++◌, Option, Some, None, true, refl, sym, ap, subst, ◌∙◌, inl, inr}
use Rattle.std.specs.List.{AllByRecursion}
use Rattle.outside.specs.Disk.{Disk, Path, node_at}
use Rattle.outside.specs.Changes.{in_file}
use Rattle.outside.proofs.Paths.{set_here}
use Rattle.deeds.specs.declared.phase.Phase.TheVariants as phases
use Rattle.deeds.specs.Reshape.{Ranges}
use Rattle.deeds.specs.Deeds.{PlainDeed, MakesDir, Puts, Renames, Removes, RemovesDir, Reshapes, reshaped, Does, DoesAll, of_phase, in_order, AreApart}
use Rattle.deeds.proofs.Again.{elsewhere, stays, not_named}
use Rattle.pending_files.specs.Pending.{is_at, its_len, its_ranges, file_of, ranges_or_none, IsWaiting}
use Rattle.pending_files.specs.Later.{IsReshaped}
use Rattle.pending_files.proofs.Files.{same_path, by_first, file_here, file_there, named_here, not_here, unnamed_none}

-- ---- the order of doing

all_made : (ds : List PlainDeed) → AllByRecursion IsWaiting ds → of_phase phases.Make ds ≡ ds
all_made [] each = refl
all_made (Reshapes p len rs ∷ ds) each = ap (λ (l : List PlainDeed). Reshapes p len rs ∷ l) (all_made ds each.1)
all_made (MakesDir p ∷ ds) each = absurd each.0
all_made (Puts p bytes ∷ ds) each = absurd each.0
all_made (Renames p q ∷ ds) each = absurd each.0
all_made (Removes p ∷ ds) each = absurd each.0
all_made (RemovesDir p ∷ ds) each = absurd each.0

none_moved : (ds : List PlainDeed) → AllByRecursion IsWaiting ds → of_phase phases.Move ds ≡ []
none_moved [] each = refl
none_moved (Reshapes p len rs ∷ ds) each = none_moved ds each.1
none_moved (MakesDir p ∷ ds) each = absurd each.0
none_moved (Puts p bytes ∷ ds) each = absurd each.0
none_moved (Renames p q ∷ ds) each = absurd each.0
none_moved (Removes p ∷ ds) each = absurd each.0
none_moved (RemovesDir p ∷ ds) each = absurd each.0

none_removed : (ds : List PlainDeed) → AllByRecursion IsWaiting ds → of_phase phases.Remove ds ≡ []
none_removed [] each = refl
none_removed (Reshapes p len rs ∷ ds) each = none_removed ds each.1
none_removed (MakesDir p ∷ ds) each = absurd each.0
none_removed (Puts p bytes ∷ ds) each = absurd each.0
none_removed (Renames p q ∷ ds) each = absurd each.0
none_removed (Removes p ∷ ds) each = absurd each.0
none_removed (RemovesDir p ∷ ds) each = absurd each.0

append_none : (ds : List PlainDeed) → ds ++ [] ≡ ds
append_none [] = refl
append_none (x ∷ ds) = ap (λ (l : List PlainDeed). x ∷ l) (append_none ds)

pub order_is : (ds : List PlainDeed) → AllByRecursion IsWaiting ds → in_order ds ≡ ds
order_is ds each =
    ap (λ (l : List PlainDeed). l ++ of_phase phases.Move ds ++ of_phase phases.Remove ds) (all_made ds each)
    ∙ ap (λ (l : List PlainDeed). ds ++ l ++ of_phase phases.Remove ds) (none_moved ds each)
    ∙ ap (λ (l : List PlainDeed). ds ++ [] ++ l) (none_removed ds each) ∙ append_none (ds ++ []) ∙ append_none ds

-- ---- the disk after it

did_reshape : (path : Path) (len : ℕ) (ranges : Ranges) (d later : Disk) → Does (Reshapes path len ranges) d later → IsReshaped path len ranges d later
did_reshape path len ranges d later (inl never) = absurd never.0
did_reshape path len ranges d later (inr does) = record {
  was = does.0.0;
  there = does.0.1;
  can = does.0.3;
  long = does.0.4;
  is = ap (λ (s : Disk). node_at s path) does.1 ∙ set_here d path (in_file (reshaped len ranges) (node_at d path)) path refl ∙ ap (in_file (reshaped len ranges)) does.0.1;
}

then_kept : (path : Path) (len : ℕ) (ranges : Ranges) (d between later : Disk) → IsReshaped path len ranges d between → node_at later path ≡ node_at between path → IsReshaped path len ranges d later
then_kept path len ranges d between later is same = record { was = is.was; there = is.there; can = is.can; long = is.long; is = same ∙ is.is }

kept_then : (path : Path) (len : ℕ) (ranges : Ranges) (d between later : Disk) → node_at between path ≡ node_at d path → IsReshaped path len ranges between later → IsReshaped path len ranges d later
kept_then path len ranges d between later same is = record { was = is.was; there = sym same ∙ is.there; can = is.can; long = is.long; is = is.is }

abbrev len_in : Option (ℕ × Ranges) → ℕ
len_in None = 0
len_in (Some f) = f.0

same_file : (path : Path) (x : PlainDeed) (len : ℕ) (ranges : Ranges) (d later : Disk) → IsWaiting x → is_at path x ≡ true → ◌≡◌ {A = Option (ℕ × Ranges)} (Some (its_len x, its_ranges x)) (Some (len, ranges)) → Does x d later → IsReshaped path len ranges d later
same_file path (Reshapes p n rs) len ranges d later waits is same does =
    let at : p ≡ path = (same_path p path).0 is in
    let n_is : n ≡ len = ap len_in same in
    let rs_is : rs ≡ ranges = ap ranges_or_none same in
    subst (λ (q : Path). IsReshaped q len ranges d later) at (subst (λ (m : ℕ). IsReshaped p m ranges d later) n_is (subst (λ (l : Ranges). IsReshaped p n l d later) rs_is (did_reshape p n rs d later does)))
same_file path (MakesDir p) len ranges d later waits is same does = absurd waits
same_file path (Puts p bytes) len ranges d later waits is same does = absurd waits
same_file path (Renames p q) len ranges d later waits is same does = absurd waits
same_file path (Removes p) len ranges d later waits is same does = absurd waits
same_file path (RemovesDir p) len ranges d later waits is same does = absurd waits

file_in_order : (path : Path) (ds : List PlainDeed) (len : ℕ) (ranges : Ranges) (d later : Disk) → AllByRecursion IsWaiting ds → AreApart ds → file_of path ds ≡ Some (len, ranges) → DoesAll ds d later → IsReshaped path len ranges d later
file_in_order path [] len ranges d later each apart is does = absurd cc
file_in_order path (x ∷ ds) len ranges d later each apart is does = by_first path x
    (λ here. then_kept path len ranges d does.0 later
    (same_file path x len ranges d does.0 each.0 here (sym (file_here path x ds here) ∙ is) does.1)
    (stays ds does.0 later path does.2 (not_named x ds path (named_here path x here) apart.0)))
    (λ there. kept_then path len ranges d does.0 later
    (elsewhere x d does.0 path does.1 (not_here path x each.0 there))
    (file_in_order path ds len ranges does.0 later each.1 apart.1 (sym (file_there path x ds there) ∙ is) does.2))

pub later_file : (path : Path) (ds : List PlainDeed) (len : ℕ) (ranges : Ranges) (d later : Disk) → AllByRecursion IsWaiting ds → AreApart ds → file_of path ds ≡ Some (len, ranges) → DoesAll (in_order ds) d later → IsReshaped path len ranges d later
later_file path ds len ranges d later each apart is does = file_in_order path ds len ranges d later each apart is (subst (λ (l : List PlainDeed). DoesAll l d later) (order_is ds each) does)

pub later_other : (path : Path) (ds : List PlainDeed) (d later : Disk) → AllByRecursion IsWaiting ds → file_of path ds ≡ None → DoesAll (in_order ds) d later → node_at later path ≡ node_at d path
later_other path ds d later each none does = stays ds d later path (subst (λ (l : List PlainDeed). DoesAll l d later) (order_is ds each) does) (unnamed_none path ds each none)
