-- A folder with an entry that no deed names is never removed.
use Rattle.std.proofs.Common.{◌≡◌, ℕ, List, [], ◌∷◌, ◌++◌, get_or, length, ◌<◌, Bool, true, false, cond, Option, Some, None, IsSome, is_some, refl, sym, ap, subst, ◌∙◌, inl, inr, true≢false, zero, suc, arith, Contains}
use Rattle.outside.specs.Disk.{Disk, Path, folder, node_at, IsFolder, IsListing}
use Rattle.outside.specs.Calls.{Told}
use Rattle.outside.specs.Images.{Log, now, disk_in}
use Rattle.deeds.specs.declared.deed.Deed.{Deed}
use Rattle.deeds.specs.declared.phase.Phase.TheVariants as phases
use Rattle.deeds.specs.Plain.{plain, plains}
use Rattle.deeds.specs.Deeds.{PlainDeed, RemovesDir, names, Unnamed, ApartFrom, NoneIn, AreApart, IsOneOf, Does, DoesAll, is_of, of_phase, in_order}
use Rattle.outside.proofs.Told.{told_then}
use Rattle.deeds.specs.Repeatable.{IsRepeatable}
use Rattle.deeds.proofs.Again.{elsewhere}
use Rattle.deeds.proofs.Doing.{told_disk}
use Rattle.deeds.proofs.Phases.{apart_ordered, unnamed_ordered}
use Rattle.batch_looks.specs.Foreign.{HasForeign}

-- ---- one of the deeds

pub one_at : (deeds : List Deed) (i : ℕ) (deed : Deed) → i < length deeds → deed ≡ get_or deeds i deed → IsOneOf (plain deed) (plains deeds)
one_at [] i deed lt is = absurd (omega arith)
one_at (x ∷ deeds) zero deed lt is = inl (ap plain is)
one_at (x ∷ deeds) (suc i) deed lt is = inr (one_at deeds i deed (omega arith) is)

kept : (b : Bool) (x y : PlainDeed) (xs : List PlainDeed) → IsOneOf x xs → IsOneOf x (cond b (y ∷ xs) xs)
kept true x y xs one = inr one
kept false x y xs one = one

in_phase : (path : Path) (deeds : List PlainDeed) → IsOneOf (RemovesDir path) deeds → IsOneOf (RemovesDir path) (of_phase phases.Remove deeds)
in_phase path [] one = one
in_phase path (x ∷ deeds) (inl is) = subst (λ (y : PlainDeed). IsOneOf (RemovesDir path) (of_phase phases.Remove (y ∷ deeds))) is (inl refl)
in_phase path (x ∷ deeds) (inr one) = kept (is_of phases.Remove x) (RemovesDir path) x (of_phase phases.Remove deeds) (in_phase path deeds one)

behind : (x : PlainDeed) (xs ys : List PlainDeed) → IsOneOf x ys → IsOneOf x (xs ++ ys)
behind x [] ys one = one
behind x (y ∷ xs) ys one = inr (behind x xs ys one)

ordered : (path : Path) (deeds : List PlainDeed) → IsOneOf (RemovesDir path) deeds → IsOneOf (RemovesDir path) (in_order deeds)
ordered path deeds one = behind (RemovesDir path) (of_phase phases.Make deeds ++ of_phase phases.Move deeds) (of_phase phases.Remove deeds) (in_phase path deeds one)

-- ---- what holds the folder back

cannot : (path : Path) (disk after : Disk) (name : List ℕ) → IsFolder disk path → IsSome (node_at disk (path ++ name ∷ [])) → Does (RemovesDir path) disk after → ⊥
cannot path disk after name there entry (inl never) = never.0
cannot path disk after name there entry (inr (inl gone, is)) = let e : Some folder ≡ None = sym there ∙ gone in cc
cannot path disk after name there entry (inr (inr bare, is)) = true≢false (sym entry ∙ ap is_some (bare.no_child name))

apart_of : (x y : PlainDeed) (deeds : List PlainDeed) → ApartFrom x deeds → IsOneOf y deeds → NoneIn (names y) (names x)
apart_of x y [] apart one = absurd one
apart_of x y (z ∷ deeds) apart (inl is) = subst (λ (d : PlainDeed). NoneIn (names d) (names x)) (sym is) apart.1
apart_of x y (z ∷ deeds) apart (inr one) = apart_of x y deeds apart.2 one

held_back : (path : Path) (deeds : List PlainDeed) (disk after : Disk) → IsOneOf (RemovesDir path) deeds → AreApart deeds → HasForeign path deeds disk → DoesAll deeds disk after → ⊥
held_back path [] disk after one apart has run = absurd one
held_back path (x ∷ deeds) disk after (inl is) apart has run =
    cannot path disk run.0 has.name has.there has.entry (subst (λ (d : PlainDeed). Does d disk run.0) (sym is) run.1)
held_back path (x ∷ deeds) disk after (inr one) apart has run =
    let alone = apart_of x (RemovesDir path) deeds apart.0 one in
    held_back path deeds run.0 after one apart.1 (record {
      there = elsewhere x disk run.0 path run.1 alone.0 ∙ has.there;
      name = has.name;
      entry = subst IsSome (sym (elsewhere x disk run.0 (path ++ has.name ∷ []) run.1 has.unnamed.0)) has.entry;
      unnamed = has.unnamed.1;
    }) run.2

never_removed : (path : Path) (deeds : List PlainDeed) (disk after : Disk) → IsOneOf (RemovesDir path) deeds → AreApart deeds → HasForeign path deeds disk → DoesAll (in_order deeds) disk after → ⊥
never_removed path deeds disk after one apart has run =
    held_back path (in_order deeds) disk after (ordered path deeds one) (apart_ordered deeds apart) (record {
      there = has.there;
      name = has.name;
      entry = has.entry;
      unnamed = unnamed_ordered (path ++ has.name ∷ []) deeds has.unnamed;
    }) run

-- ---- what is told of the folder

-- a listing that has an entry which no deed names
pub told_foreign : (log mid : Option Log) → mid ≡ log → (path : Path) (deeds : List PlainDeed) (names entries : List (List ℕ)) → entries ≡ names
    → (name : List ℕ) × Contains entries name × Unnamed (path ++ name ∷ []) deeds → Told (disk_in mid) (λ d. IsFolder d path × IsListing d path names) → Told (disk_in log) (HasForeign path deeds)
told_foreign log mid same path deeds names entries are un told =
    told_then (disk_in log) (λ d. IsFolder d path × IsListing d path names) (HasForeign path deeds) (subst (λ (o : Option Log). Told (disk_in o) (λ d. IsFolder d path × IsListing d path names)) same told)
    (λ d it. record { there = it.0; name = un.0; entry = (it.1.exact un.0).0 (subst (λ (l : List (List ℕ)). Contains l un.0) are un.1); unnamed = un.2 })

-- deeds of which one removes such a folder can't be done
pub told_held_back : (deeds : List Deed) (path : Path) → IsRepeatable (plains deeds) → IsOneOf (RemovesDir path) (plains deeds) → (log mid : Option Log) → mid ≡ log → Told (disk_in mid) (HasForeign path (plains deeds))
    → Told log (λ l. (after : Disk) → DoesAll (in_order (plains deeds)) (now l) after → ⊥)
told_held_back deeds path repeatable one log mid same told =
    told_then log (λ l. HasForeign path (plains deeds) (now l)) (λ l. (after : Disk) → DoesAll (in_order (plains deeds)) (now l) after → ⊥)
    (told_disk log (HasForeign path (plains deeds)) (subst (λ (o : Option Log). Told (disk_in o) (HasForeign path (plains deeds))) same told))
    (λ l has after run. never_removed path (plains deeds) (now l) after one repeatable.apart has run)
