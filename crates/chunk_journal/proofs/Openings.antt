-- What an opening leaves at each moment.
use Rattle.std.proofs.Common.{◌≡◌, ◌≢◌, ◌⊎◌, ℕ, List, [], ◌∷◌, drop, true, false, is_some, Option, Some, None, refl, sym, ap, subst, ◌∙◌, inl, inr}
use Rattle.outside.specs.Disk.{Disk, Path, node_at}
use Rattle.outside.specs.Calls.{Told, Changes}
use Rattle.outside.specs.Changes.{Change, Write}
use Rattle.outside.specs.Images.{Log, Synced, adds, now, IsImage, LeavesOnly}
use Rattle.outside.proofs.Moments.{started}
use Rattle.outside.proofs.Steady.{begun}
use Rattle.deeds.specs.Deeds.{PlainDeed, DoesAll, LogGoesOn, in_order}
use Rattle.outside.specs.Unsynced.{IsSynced, paths_of}
use Rattle.deeds.specs.Applying.{Applies}
use Rattle.deeds.proofs.Again.{at_disk}
use Rattle.deeds.proofs.Growing.{at_nowhere, goes_nowhere, goes_on_on, steady_of, synced_goes_on}
use Rattle.chunk_journal.specs.declared.fault.JournalErr.{JournalErr}
use Rattle.chunk_journal.specs.declared.fault.JournalErr.TheVariants.{Device, JournalDamaged, Memory}
use Rattle.chunk_journal.specs.Journal.{journal_file, new_file, HoldsBatch, IsClosed, RecoversLike, RecoveredLike, IsAlike, IsQuiet, IsFound, IsReopenable, IsRepeatable, StaysRecovered, StaysTidy, IsUnheld}
use Rattle.chunk_journal.specs.Stages.{IsKept, LeavesParts}
use Rattle.chunk_journal.specs.Opening.{HasFolder, HasLen, IsUnfitAt, IsDamagedAt, LeavesFolder, IsBadBehindGate, IfDamaged, IsLeftApplied, IsOpening, HasOpened}
use Rattle.chunk_journal.proofs.Gate.{files_apart, held_reopens, written_here, written_there, one_held}
use Rattle.chunk_journal.proofs.Damage.{recovers_undamaged, held_bytes}
use Rattle.chunk_journal.proofs.Tidy.{steady_tidy}

-- ---- what is told before a change, of what is told after it

pub told_back : {X : Type 0} (a b : Option X) (S : X → Type 0) (P : X → X → Type 0) (T U : X → Type 0) → ((x y : X) → S x → P x y → T y → U x) → Told a S → Changes a b P → Told b T → Told a U
told_back None None S P T U f s p t = tt
told_back None (Some y) S P T U f s p t = absurd p
told_back (Some x) None S P T U f s p t = absurd p
told_back (Some x) (Some y) S P T U f s p t = f x y s p t

pub damaged_by : (error : JournalErr) (P Q : ℕ → Type 0) → ((at : ℕ) → P at → Q at) → IfDamaged error P → IfDamaged error Q
damaged_by Device P Q f p = tt
damaged_by (JournalDamaged at) P Q f p = f at p
damaged_by Memory P Q f p = tt

-- ---- closing

-- no change was begun
pub parts_begun : (change : Change) (log : Log) → IsSynced log → LeavesParts change log log
parts_begun change log steady = record { images = begun log change (steady_of log steady); grown = at_nowhere (paths_of change) log }

-- what closing leaves beside the journal
abbrev pub ClosesBeside : Log → Log → Type 0
ClosesBeside old new = IsQuiet new × ((q : Path) → q ≢ journal_file → node_at (now new) q ≡ node_at (now old) q)

pub shut_closes : (len : ℕ) (old new : Log) → HasLen (Some len) (now old) → IsKept (Write journal_file 0 (0 ∷ [])) old new → ClosesBeside old new
shut_closes len old new has kept =
    let bytes = has.0.0 in
    let there = λ (q : Path) (ne : q ≢ journal_file). at_disk q kept.is ∙ written_there 0 (0 ∷ []) (now old) q ne in (
      record {
        steady = kept.steady;
        closed = inr (0 ∷ drop 1 bytes, at_disk journal_file kept.is ∙ written_here 0 (0 ∷ []) bytes (now old) has.0.1, λ e. (cc));
        no_folder = λ is. has.1 (inr (sym (there new_file files_apart) ∙ is));
      },
      there,
    )

-- ---- the batch of an open gate

abbrev pub HasRedone : List PlainDeed → Log → Log → Type 0
HasRedone bs old new = IsQuiet new × ((after : Disk) × DoesAll (in_order bs) (now old) after × IsAlike after (now new))

pub redone_all : (bs : List PlainDeed) (old mid new : Log) → IsSynced mid × DoesAll (in_order bs) (now old) (now mid) → ClosesBeside mid new → HasRedone bs old new
redone_all bs old mid new did closes = (closes.0, (now mid, did.1, λ q ne nm. closes.1 q ne))

pub leaves_folder : (bs : List PlainDeed) (at : ℕ) (old mid : Log) → IsFound bs old → IsSynced mid × DoesAll (in_order bs) (now old) (now mid) → HasFolder (now mid) × (at ≡ 0) → LeavesFolder (now old) at
leaves_folder bs at old mid found did folder = record { deeds = bs; held = found.open_gate; after = now mid; run = did.1; folder = folder.0; place = folder.1 }

-- ---- the whole

pub record HasSettled (old mid : Log) : Type 0 where
  pub is : mid ≡ adds old Synced
  pub steady : IsSynced mid
  pub begun : LeavesOnly old mid (IsImage old)

found_stays : (bs : List PlainDeed) → IsRepeatable bs → (log : Log) → IsFound bs log → StaysRecovered bs log log
found_stays bs repeatable log found = record {
  whole = λ after run. started log (RecoversLike after) (λ c image.
      subst (RecoversLike after) (sym (found.steady.durable c image)) (after, inr (bs, found.open_gate, run), (λ q ne nm. refl), again));
  applied = λ after applies. started log (RecoveredLike after) (λ c image.
      subst (RecoveredLike after) (sym (found.steady.durable c image)) (after, inr (bs, found.open_gate, applies), (λ q ne nm. refl), again));
  tidy = steady_tidy log found.steady;
}
  where
    again : IsReopenable (now log)
    again = held_reopens (now log) bs repeatable found.open_gate found.no_folder

-- the batch of a disk, if it holds one, can be repeated
abbrev HoldsRepeatable : Disk → Type 0
HoldsRepeatable disk = (deeds : List PlainDeed) → HoldsBatch disk deeds → IsRepeatable deeds

opening : (old mid new : Log) → HasSettled old mid → LogGoesOn mid new → (((deeds : List PlainDeed) → IsFound deeds mid → ⊥) → new ≡ mid) → ((deeds : List PlainDeed) → IsRepeatable deeds → IsFound deeds mid → StaysRecovered deeds mid new)
    → (HoldsRepeatable (now mid) → StaysTidy mid new) → IsOpening old new
opening old mid new settled grown untouched stays tidy =
    let e = settled.is in
    record {
      grown = goes_on_on old mid new (synced_goes_on old mid settled.is) grown;
      begun = subst (λ (l : Log). LeavesOnly old l (IsImage old)) e settled.begun;
      steady = subst IsSynced e settled.steady;
      untouched = subst (λ (l : Log). ((deeds : List PlainDeed) → IsFound deeds l → ⊥) → new ≡ l) e untouched;
      stays = subst (λ (l : Log). (deeds : List PlainDeed) → IsRepeatable deeds → IsFound deeds l → StaysRecovered deeds l new) e stays;
      tidy = subst (λ (l : Log). HoldsRepeatable (now l) → StaysTidy l new) e tidy;
    }

pub unopened : (old mid new : Log) → HasSettled old mid → new ≡ mid → IsOpening old new
unopened old mid new settled same = opening old mid new settled (subst (LogGoesOn mid) (sym same) (goes_nowhere mid)) (λ none. same) (λ deeds repeatable found. subst (StaysRecovered deeds mid) (sym same) (found_stays deeds repeatable mid found))
    (λ repeatable. subst (StaysTidy mid) (sym same) (steady_tidy mid settled.steady))

pub reopened : (bs : List PlainDeed) (old mid new : Log) → HasSettled old mid → IsFound bs mid → LogGoesOn mid new → (IsRepeatable bs → StaysRecovered bs mid new) → IsOpening old new
reopened bs old mid new settled found grown stays = opening old mid new settled grown (λ none. absurd (none bs found)) (λ deeds repeatable other.
    let same : bs ≡ deeds = one_held (now mid) bs deeds found.open_gate other.open_gate in
    subst (λ (ds : List PlainDeed). StaysRecovered ds mid new) same (stays (subst IsRepeatable (sym same) repeatable)))
    (λ repeatable. (stays (repeatable bs found.open_gate)).tidy)

now_settled : (old mid : Log) → HasSettled old mid → now mid ≡ now old
now_settled old mid settled = ap now settled.is

pub damaged_first : (at : ℕ) (old mid : Log) → HasSettled old mid → IsDamagedAt (now mid) at → IsDamagedAt (now old) at
damaged_first at old mid settled bad = subst (λ (d : Disk). IsDamagedAt d at) (now_settled old mid settled) bad

pub found_mid : (bs : List PlainDeed) (mid : Log) → IsSynced mid → HoldsBatch (now mid) bs → (HasFolder (now mid) → ⊥) → IsFound bs mid
found_mid bs mid steady held none = record { steady = steady; open_gate = held; no_folder = λ is. none (inr is) }

pub opened_closed : (old mid new : Log) → HasSettled old mid → IsClosed (now mid) → (HasFolder (now mid) → ⊥) → new ≡ mid → HasOpened old new
opened_closed old mid new settled closed none same =
    let d = now_settled old mid settled in
    let shut = subst IsClosed d closed in record {
      at_rest = subst IsQuiet (sym same) (record { steady = settled.steady; closed = closed; no_folder = λ is. none (inr is) });
      disk = now old;
      recovers = inl (shut, refl);
      alike = λ q ne nm. at_disk q (ap now same ∙ d);
      undamaged = λ at. recovers_undamaged (now old) (now old) at (inl (shut, refl)) (λ is. none (inr (sym (at_disk new_file (sym d)) ∙ is)));
    }

pub opened_redone : (bs : List PlainDeed) (old mid new : Log) → HasSettled old mid → IsFound bs mid → HasRedone bs mid new → HasOpened old new
opened_redone bs old mid new settled found redone =
    let d = now_settled old mid settled in
    let held = subst (λ (k : Disk). HoldsBatch k bs) d found.open_gate in
    let run = subst (λ (k : Disk). DoesAll (in_order bs) k redone.1.0) d redone.1.1 in record {
      at_rest = redone.0;
      disk = redone.1.0;
      recovers = inr (bs, held, run);
      alike = redone.1.2;
      undamaged = λ at. recovers_undamaged (now old) redone.1.0 at (inr (bs, held, run)) (λ is. found.no_folder (sym (at_disk new_file (sym d)) ∙ is));
    }

pub shut_found : (found : Option ℕ) (old new : Log) → is_some found ≡ true → HasLen found (now old) → IsKept (Write journal_file 0 (0 ∷ [])) old new → ClosesBeside old new
shut_found None old new some has kept = absurd (let e : false ≡ true = some in cc)
shut_found (Some len) old new some has kept = shut_closes len old new has kept

pub told_earlier : {X : Type 0} (a b : Option X) (P : X → X → Type 0) (T U : X → Type 0) → ((x y : X) → P x y → T y → U x) → Changes a b P → Told b T → Told a U
told_earlier None None P T U f p t = tt
told_earlier None (Some y) P T U f p t = absurd p
told_earlier (Some x) None P T U f p t = absurd p
told_earlier (Some x) (Some y) P T U f p t = f x y p t

pub told_settled : (a b : Option Log) → Changes a b (λ old mid. mid ≡ adds old Synced) → Changes a b (λ old mid. IsSynced mid) → Changes a b (λ old mid. LeavesOnly old mid (IsImage old)) → Changes a b HasSettled
told_settled None None p q r = tt
told_settled None (Some y) p q r = absurd p
told_settled (Some x) None p q r = absurd p
told_settled (Some x) (Some y) p q r = record { is = p; steady = q; begun = r }

-- a batch of which a deed is refused is a bad one after an open gate
pub unfit_bad : (bs : List PlainDeed) (at : ℕ) (d : Disk) → HoldsBatch d bs → (HasFolder d → ⊥) → IsUnfitAt d at → IsBadBehindGate d at
unfit_bad bs at d held none unfit = record { no_folder = none; bytes = held_bytes bs held.rest; here = held.here; gate = refl; damage = inr (inr (inr unfit)) }

-- what was found on the disk that was settled
abbrev pub Finds : List PlainDeed → Log → Type 0
Finds bs log = (HasFolder (now log) → ⊥) × HoldsBatch (now log) bs

pub redone_damage : (bs : List PlainDeed) (at : ℕ) (old mid : Log) → HasSettled old mid → Finds bs mid → IsUnfitAt (now mid) at ⊎ LeavesFolder (now mid) at → IsDamagedAt (now old) at ⊎ LeavesFolder (now old) at
redone_damage bs at old mid settled finds (inl unfit) = inl (damaged_first at old mid settled (inr (unfit_bad bs at (now mid) finds.1 finds.0 unfit)))
redone_damage bs at old mid settled finds (inr leaves) = inr (subst (λ (d : Disk). LeavesFolder d at) (now_settled old mid settled) leaves)

pub reopened_by : (bs : List PlainDeed) (old mid new : Log) → HasSettled old mid × Finds bs mid → LogGoesOn mid new × (IsRepeatable bs → StaysRecovered bs mid new) → IsOpening old new
reopened_by bs old mid new p q = reopened bs old mid new p.0 (found_mid bs mid p.0.steady p.1.1 p.1.0) q.0 q.1

pub opened_by : (bs : List PlainDeed) (old mid new : Log) → HasSettled old mid × Finds bs mid → HasRedone bs mid new → HasOpened old new
opened_by bs old mid new p redone = opened_redone bs old mid new p.0 (found_mid bs mid p.0.steady p.1.1 p.1.0) redone

-- ---- a batch that was refused

-- nothing is held by a file that is short or isn't in the grammar
pub left_unread : (old mid : Log) → HasSettled old mid → HasFolder (now mid) ⊎ IsUnheld (now mid) → IsLeftApplied old mid
left_unread old mid settled (inl folder) none = absurd (none (subst HasFolder (now_settled old mid settled) folder))
left_unread old mid settled (inr unheld) none = inl (subst IsUnheld (now_settled old mid settled) unheld, now_settled old mid settled)

pub left_redone : (bs : List PlainDeed) (old mid new : Log) → HasSettled old mid × Finds bs mid → Applies (in_order bs) (now mid) (now new) → IsLeftApplied old new
left_redone bs old mid new p applies no_folder =
    let d = now_settled old mid p.0 in
    inr (bs, subst (λ (k : Disk). HoldsBatch k bs) d p.1.1, subst (λ (k : Disk). Applies (in_order bs) k (now new)) d applies)
