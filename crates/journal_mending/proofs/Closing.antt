-- The gate that is closed, whatever the deeds left.
use Rattle.std.proofs.Common.{◌≡◌, List, [], ◌∷◌, ℕ, Option, None, refl, ap, ◌∙◌, inl, inr}
use Rattle.outside.specs.Calls.{Changes, Told}
use Rattle.outside.specs.Disk.{Disk, node_at}
use Rattle.outside.specs.Changes.{Write, done, in_file, overwritten}
use Rattle.outside.specs.Images.{Log, Synced, adds, now, HasDone}
use Rattle.outside.specs.Unsynced.{IsSynced}
use Rattle.outside.proofs.Paths.{set_here, set_there}
use Rattle.outside.proofs.Told.{both_changed, changed_from, through}
use Rattle.chunk_journal.specs.Journal.{journal_file, HoldsBatch}
use Rattle.deeds.specs.Deeds.{PlainDeed, in_order}
use Rattle.journal_mending.specs.declared.state.DeedState.{DeedState}
use Rattle.journal_mending.specs.Mending.{deeds_in, SkipsAll, HasClosed, HasSkipped}

abbrev pub Closes : Log → Log → Type 0
Closes old new = HasClosed (now old) new

abbrev pub Settles : Log → Log → Type 0
Settles old new = (new ≡ adds old Synced) × IsSynced new

pub told_settles : (b c : Option Log) → Changes b c (λ old new. new ≡ adds old Synced) → Changes b c (λ old new. IsSynced new) → Changes b c Settles
told_settles b c synced steady = both_changed b c (λ old new. new ≡ adds old Synced) (λ old new. IsSynced new) synced steady

written_closed : (x y z : Log) → HasDone (Write journal_file 0 (0 ∷ [])) x y → Settles y z → HasClosed (now x) z
written_closed x y z did settles =
    let e : now z ≡ done (Write journal_file 0 (0 ∷ [])) (now x) = ap now settles.0 ∙ ap now did.1 in
    let f = in_file (λ (old : List ℕ). overwritten old 0 (0 ∷ [])) in
    record {
      steady = settles.1;
      shut = inr (
        overwritten did.0.0 0 (0 ∷ []),
        ap (λ (d : Disk). node_at d journal_file) e ∙ set_here (now x) journal_file (f (node_at (now x) journal_file)) journal_file refl ∙ ap f did.0.1,
        λ one. absurd cc,
      );
      rest = λ path ne. ap (λ (d : Disk). node_at d path) e ∙ set_there (now x) journal_file (f (node_at (now x) journal_file)) path ne;
    }

pub told_written : (a b c : Option Log) → Changes a b (HasDone (Write journal_file 0 (0 ∷ []))) → Changes b c Settles → Changes a c Closes
told_written a b c did settles = through a b c (HasDone (Write journal_file 0 (0 ∷ []))) Settles Closes written_closed did settles

missing_closed : (x z : Log) → node_at (now x) journal_file ≡ None → Settles x z → HasClosed (now x) z
missing_closed x z none settles =
    let e : now z ≡ now x = ap now settles.0 in
    record {
      steady = settles.1;
      shut = inl (ap (λ (d : Disk). node_at d journal_file) e ∙ none);
      rest = λ path ne. ap (λ (d : Disk). node_at d path) e;
    }

pub told_missing : (a c : Option Log) → Told a (λ l. node_at (now l) journal_file ≡ None) → Changes a c Settles → Changes a c Closes
told_missing a c none settles = changed_from a c (λ l. node_at (now l) journal_file ≡ None) Settles Closes missing_closed none settles

-- ---- a batch that is skipped

pub skipped_closed : (ds : List PlainDeed) (ss : List DeedState) → deeds_in ss ≡ in_order ds → (x y z : Log) → HoldsBatch (now x) ds → SkipsAll ss (now x) (now y) → HasClosed (now y) z → HasSkipped ss (now x) z
skipped_closed ds ss order x y z held skips closed = record { deeds = ds; held = held; order = order; between = now y; skips = skips; closed = closed }
