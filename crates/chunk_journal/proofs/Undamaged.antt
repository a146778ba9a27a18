-- What an opening of an undamaged journal leaves isn't damaged, nor is what a commit leaves.
use Rattle.std.proofs.Common.{◌≡◌, ◌⊎◌, ⊎_elim, ℕ, zero, suc, ◌+◌, ◌≤◌, ◌<◌, List, [], ◌∷◌, ◌++◌, length, take, drop, Bool, true, false, cond, refl, sym, ap, subst, ◌∙◌, inl, inr, add-one, arith}
use Rattle.std.proofs.lemmas.Bool.{cases_lt}
use Rattle.outside.specs.Disk.{Disk, Path, node_at}
use Rattle.outside.specs.Images.{Log, Synced, adds, now, moment, log_at, IsImage, LeavesOnly}
use Rattle.outside.proofs.Moments.{at_since, ends, started, weaker}
use Rattle.deeds.specs.declared.phase.Phase.{Phase}
use Rattle.deeds.specs.declared.phase.Phase.TheVariants as phases
use Rattle.deeds.specs.Deeds.{PlainDeed, DoesAll, LogGoesOn, NotIn, NoneIn, Unnamed, ApartFrom, AreApart, names, is_of, of_phase, in_order, IsRefusedIn, IsRefusedAt}
use Rattle.deeds.specs.Grammar.{spelled_deeds}
use Rattle.deeds.proofs.Again.{stays}
use Rattle.deeds.proofs.Doing.{does_then}
use Rattle.deeds.proofs.Phases.{done_more, of_one, unnamed_ordered}
use Rattle.chunk_journal.specs.Journal.{journal_file, new_file, AnyMoment, HoldsBatch, IsBeforeOrAfter, IsFound, IsReopenable, IsRepeatable, RecoversTo}
use Rattle.chunk_journal.specs.Opening.{HasFolder, IsUnfitAt, LeavesFolder, IsDamagedAt, IsOpenable, IsOpening, StaysOpening}
use Rattle.chunk_journal.specs.Commits.{StaysOpenable}
use Rattle.chunk_journal.proofs.Damage.{recovers_undamaged}
use Rattle.chunk_journal.proofs.Openings.{unfit_bad}

-- ---- deeds none of which is refused can all be done

next_deed : (ds : List PlainDeed) (k : ℕ) → suc k ≤ length ds → (deed : PlainDeed) × (drop k ds ≡ deed ∷ drop (suc k) ds)
next_deed [] k le = absurd (omega (arith, le))
next_deed (deed ∷ ds) zero le = (deed, refl)
next_deed (deed ∷ ds) (suc k) le = next_deed ds k (omega (arith, le))

take_all : (ds : List PlainDeed) → take (length ds) ds ≡ ds
take_all [] = refl
take_all (deed ∷ ds) = ap (λ (l : List PlainDeed). deed ∷ l) (take_all ds)

module _ (phase : Phase) (ds : List PlainDeed) (d : Disk) (fit : (index : ℕ) → IsRefusedIn phase ds index d → ⊥) where
  -- behind those that are done the next one can be done, if it is of the phase
  one_on : (k : ℕ) (deed : PlainDeed) (between : Disk) → drop k ds ≡ deed ∷ drop (suc k) ds → DoesAll (of_phase phase (take k ds)) d between
      → (b : Bool) → is_of phase deed ≡ b → ((after : Disk) → DoesAll (of_phase phase (take (k + 1) ds)) d after → ⊥) → ⊥
  one_on k deed between here run true is never = fit k (record {
    deed = deed;
    here = here;
    its_phase = is;
    between = between;
    before = run;
    cannot = λ after does. never after (done_more phase ds k deed (drop (suc k) ds) here d between after run
        (subst (λ (l : List PlainDeed). DoesAll l between after) (sym (of_one phase deed is)) (after, does, refl)));
  })
  one_on k deed between here run false is never = never between (done_more phase ds k deed (drop (suc k) ds) here d between between run
      (subst (λ (b : Bool). DoesAll (cond b (deed ∷ []) []) between between) (sym is) refl))

  so_far : (k : ℕ) → k ≤ length ds → ((after : Disk) → DoesAll (of_phase phase (take k ds)) d after → ⊥) → ⊥
  so_far zero le never = never d refl
  so_far (suc k) le never = so_far k (omega (arith, le)) (λ between run.
      let next = next_deed ds k le in
      one_on k next.0 between next.1 run (is_of phase next.0) refl
      (λ after all. never after (subst (λ (j : ℕ). DoesAll (of_phase phase (take j ds)) d after) (add-one k) all)))

  phase_runs : ((after : Disk) → DoesAll (of_phase phase ds) d after → ⊥) → ⊥
  phase_runs never = so_far (length ds) (omega arith) (λ after run. never after (subst (λ (l : List PlainDeed). DoesAll (of_phase phase l) d after) (take_all ds) run))

batch_runs : (ds : List PlainDeed) (d : Disk) → ((index : ℕ) → IsRefusedAt ds index d → ⊥) → ((after : Disk) → DoesAll (in_order ds) d after → ⊥) → ⊥
batch_runs ds d fit never =
    phase_runs phases.Make ds d (λ index refused. fit index (record { phase = phases.Make; between = d; before = refl; refused = refused })) (λ made makes.
    phase_runs phases.Move ds made (λ index refused. fit index (record { phase = phases.Move; between = made; before = makes; refused = refused })) (λ moved moves.
    let both = does_then (of_phase phases.Make ds) (of_phase phases.Move ds) d made moved makes moves in
    phase_runs phases.Remove ds moved (λ index refused. fit index (record { phase = phases.Remove; between = moved; before = both; refused = refused })) (λ after removes.
    never after (does_then (of_phase phases.Make ds ++ of_phase phases.Move ds) (of_phase phases.Remove ds) d moved after both removes))))

-- ---- what can be opened, where the contrary is absurd

-- P holds where it is absurd that it doesn't
abbrev IsStable : Type 0 → Type 0
IsStable P = ((P → ⊥) → ⊥) → P

both_stable : {A B : Type 0} → IsStable A → IsStable B → IsStable (A × B)
both_stable a b is = (a (λ no. is (λ p. no p.0)), b (λ no. is (λ p. no p.1)))

not_in_stable : (q : Path) (ps : List Path) → IsStable (NotIn q ps)
not_in_stable q [] is = tt
not_in_stable q (p ∷ ps) is = both_stable (λ apart e. apart (λ ne. ne e)) (not_in_stable q ps) is

none_in_stable : (qs ps : List Path) → IsStable (NoneIn qs ps)
none_in_stable [] ps is = tt
none_in_stable (q ∷ qs) ps is = both_stable (not_in_stable q ps) (none_in_stable qs ps) is

unnamed_stable : (q : Path) (ds : List PlainDeed) → IsStable (Unnamed q ds)
unnamed_stable q [] is = tt
unnamed_stable q (d ∷ ds) is = both_stable (not_in_stable q (names d)) (unnamed_stable q ds) is

from_stable : (d : PlainDeed) (others : List PlainDeed) → IsStable (ApartFrom d others)
from_stable d [] is = tt
from_stable d (other ∷ others) is = (
  none_in_stable (names d) (names other) (λ no. is (λ p. no p.0)),
  none_in_stable (names other) (names d) (λ no. is (λ p. no p.1)),
  from_stable d others (λ no. is (λ p. no p.2)),
)

apart_stable : (ds : List PlainDeed) → IsStable (AreApart ds)
apart_stable [] is = tt
apart_stable (d ∷ ds) is = both_stable (from_stable d ds) (apart_stable ds) is

repeatable_stable : (ds : List PlainDeed) → IsStable (IsRepeatable ds)
repeatable_stable ds is = record {
  apart = apart_stable ds (λ no. is (λ r. no r.apart));
  beside_journal = unnamed_stable journal_file ds (λ no. is (λ r. no r.beside_journal));
  beside_new = unnamed_stable new_file ds (λ no. is (λ r. no r.beside_new));
}

openable_stable : (disk : Disk) → IsStable (IsOpenable disk)
openable_stable disk is = record {
  undamaged = λ at bad. is (λ o. o.undamaged at bad);
  again = record {
    repeatable = λ ds held. repeatable_stable ds (λ no. is (λ o. no (o.again.repeatable ds held)));
    no_folder = λ folder. is (λ o. o.again.no_folder folder);
  };
}

-- ---- which disks can be opened

pub recovering_opens : (image disk : Disk) → RecoversTo image disk → IsReopenable image → IsOpenable image
recovering_opens image disk recovers again = record { undamaged = λ at. recovers_undamaged image disk at recovers again.no_folder; again = again }

no_folder_in : (disk : Disk) → ((at : ℕ) → IsDamagedAt disk at → ⊥) → HasFolder disk → ⊥
no_folder_in disk undamaged has = undamaged 0 (inl (has, refl))

-- a batch that such a disk holds can be done
pub held_runs : (ds : List PlainDeed) (disk : Disk) → ((at : ℕ) → IsDamagedAt disk at → ⊥) → HoldsBatch disk ds → ((after : Disk) → DoesAll (in_order ds) disk after → ⊥) → ⊥
held_runs ds disk undamaged held = batch_runs ds disk (λ index refused.
    let at = 13 + length (spelled_deeds (take index ds)) in
    let unfit : IsUnfitAt disk at = record { deeds = ds; held = held; index = index; refused = refused; place = refl } in
    undamaged at (inr (unfit_bad ds at disk held (no_folder_in disk undamaged) unfit)))

-- and leaves no folder where a file of the journal's has to be
leaves_none : (disk : Disk) (at : ℕ) → IsOpenable disk → LeavesFolder disk at → ⊥
leaves_none disk at is leaves = no_folder_in disk is.undamaged (before leaves.folder)
  where
    kept : (q : Path) → Unnamed q leaves.deeds → node_at leaves.after q ≡ node_at disk q
    kept q un = stays (in_order leaves.deeds) disk leaves.after q leaves.run (unnamed_ordered q leaves.deeds un)

    before : HasFolder leaves.after → HasFolder disk
    before (inl journal) = inl (sym (kept journal_file (is.again.repeatable leaves.deeds leaves.held).beside_journal) ∙ journal)
    before (inr beside) = inr (sym (kept new_file (is.again.repeatable leaves.deeds leaves.held).beside_new) ∙ beside)

pub never_answered : (disk : Disk) (at : ℕ) → IsOpenable disk → IsDamagedAt disk at ⊎ LeavesFolder disk at → ⊥
never_answered disk at is (inl bad) = is.undamaged at bad
never_answered disk at is (inr leaves) = leaves_none disk at is leaves

-- ---- what an opening leaves of them

-- Where no batch was found, the opening is over with its sync; and where one was, that can be done, so that each image recovers to what it leaves.
since_sync : (old new : Log) → IsOpening old new → IsOpenable (now old) → StaysOpenable old new
since_sync old new opening found m from to image is = openable_stable image (λ never. never (untouched never))
  where
    none : (IsOpenable image → ⊥) → (ds : List PlainDeed) → IsFound ds (adds old Synced) → ⊥
    none never ds batch = held_runs ds (now old) found.undamaged batch.open_gate (λ after run.
        let like = ((opening.stays ds (found.again.repeatable ds batch.open_gate) batch).whole after run).each m from to image is in
        never (recovering_opens image like.0 like.1 like.3))

    untouched : (IsOpenable image → ⊥) → IsOpenable image
    untouched never =
        let here = started (adds old Synced) IsOpenable (λ c at_sync. subst IsOpenable (sym (opening.steady.durable c at_sync)) found) in
        (subst (λ (l : Log). LeavesOnly (adds old Synced) l IsOpenable) (sym (opening.untouched (none never))) here).each m from to image is

pub stays_openable : (old new : Log) → StaysOpening old new → IsOpenable (now old) → StaysOpenable old new
stays_openable old new (inl same) found m from to image is = absurd (omega (arith, from, to, ap moment same))
stays_openable old new (inr opening) found m from to image is = since_sync old new opening found m from to image is

-- what is so of each image as a log goes on, and of each image at each moment since the next call
pub leaves_since : (old new : Log) (P : Disk → Type 0) → LogGoesOn old new → ((image : Disk) → IsImage old image → P image)
    → ((m : ℕ) → suc (moment old) ≤ m → m ≤ moment new → (image : Disk) → IsImage (log_at new m) image → P image) → LeavesOnly old new P
leaves_since old new P grown first since = record {
  start = grown.start;
  later = grown.later;
  each = λ m from to image is. ⊎_elim
      (λ (begun : m < suc (moment old)). (started old P first).each m from (omega (arith, begun)) image
      (subst (λ (l : Log). IsImage l image) (at_since old new grown.later.0 m grown.start grown.later.1 (omega (arith, begun))) is))
      (λ (later : suc (moment old) ≤ m). since m later to image is)
      (cases_lt m (suc (moment old)));
}

pub leaves_openable : (old new : Log) → StaysOpening old new → ((image : Disk) → IsImage old image → IsOpenable image) → LeavesOnly old new IsOpenable
leaves_openable old new (inl same) first = subst (λ (l : Log). LeavesOnly old l IsOpenable) (sym same) (started old IsOpenable first)
leaves_openable old new (inr opening) first =
    leaves_since old new IsOpenable opening.grown first (since_sync old new opening (first (now old) (ends old (adds old Synced) (IsImage old) opening.begun (now old) refl)))

-- ---- what a commit leaves

pub commits_openable : (deeds : List PlainDeed) (old new : Log) (after : Disk) → AnyMoment deeds old new → DoesAll (in_order deeds) (now old) after → LeavesOnly old new IsOpenable
commits_openable deeds old new after any run =
    weaker old new (IsBeforeOrAfter (now old) after) IsOpenable (λ image is. recovering_opens image is.0 is.1 is.3) (any.recovers after run)
