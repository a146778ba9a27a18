-- What isn't synced is loose: in each stage of a commit and of an opening, one after the other.
use Rattle.std.proofs.Common.{◌≡◌, ◌≢◌, ⊎_elim, ℕ, zero, suc, ◌-◌, ◌<◌, ◌≤◌, List, [], ◌∷◌, ◌++◌, length, drop, Contains, Option, sym, subst, ◌∙◌, inl, inr, arith, length-append}
use Rattle.std.proofs.lemmas.Bool.{cases_lt}
use Rattle.outside.specs.Calls.{Told, Changes}
use Rattle.outside.specs.Disk.{Disk, Path, node_at}
use Rattle.outside.specs.Changes.{Change, Put, SetLen, Write, Move, IsPartOf}
use Rattle.outside.specs.Images.{Call, Log, Synced, adds, now, moment, log_at, disk_after, IsSteady, HasDone, HasBroken}
use Rattle.outside.proofs.Moments.{at_since}
use Rattle.outside.proofs.Paths.{set_there}
use Rattle.outside.proofs.Told.{changed_from, told_through}
use Rattle.outside.proofs.Steady.{kept, part_broke, part_did, part_synced, whole_part}
use Rattle.deeds.specs.Deeds.{PlainDeed, AreSound, GoesOnAt, named}
use Rattle.outside.specs.Unsynced.{IsSynced, changes_in, paths_of, touched, unsynced}
use Rattle.deeds.proofs.Again.{at_disk}
use Rattle.deeds.proofs.Growing.{at_broke, at_did, at_nowhere, at_synced, at_then, goes_on_on, since_is, synced_of}
use Rattle.deeds.proofs.Named.{not_named}
use Rattle.chunk_journal.specs.Journal.{journal_file, new_file, HoldsBatch, IsLoose, IsRepeatable, IsTidy, StaysTidy, TidySince}
use Rattle.chunk_journal.specs.Stages.{IsKept, KeepsShut, LeavesParts}
use Rattle.chunk_journal.proofs.Elsewhere.{earlier_among, since_there, sound_before, sound_since, unsynced_among}

-- ---- moments

-- from a synced log on it is so if all paths that are named since are loose on each disk that differs from this one at them alone
module _ (paths : List Path) (start : Disk) (older : List Call) (none : unsynced older ≡ [])
    (loose : (disk : Disk) → ((q : Path) → (Contains paths q → ⊥) → node_at disk q ≡ node_at (disk_after start older) q) → (path : Path) → Contains paths path → IsLoose disk path) where
  tidy_since : (since : List Call) → AreSound start older since → ((path : Path) → Contains (touched (changes_in since)) path → Contains paths path) → IsTidy (record { start = start; calls = since ++ older })
  tidy_since since sound only = record {
    sound = sound_since start older none since sound;
    loose = λ path there. loose (disk_after start (since ++ older)) (λ q apart. since_there start older since sound q (λ touches. apart (only q touches))) path
        (only path (unsynced_among start older none since path there));
  }

  tidy_earlier : (since : List Call) (k : ℕ) → k ≤ length since → AreSound start older since → ((path : Path) → Contains (touched (changes_in since)) path → Contains paths path)
      → IsTidy (record { start = start; calls = drop k (since ++ older) })
  tidy_earlier since zero le sound only = tidy_since since sound only
  tidy_earlier [] (suc k) le sound only = absurd (omega (arith, le))
  tidy_earlier (call ∷ since) (suc k) le sound only = tidy_earlier since k (omega (arith, le)) (sound_before start older since call sound) (λ path there. only path (earlier_among call since path there))

pub tidy_by : (paths : List Path) (old new : Log) → IsSynced old → GoesOnAt paths old new
    → ((disk : Disk) → ((q : Path) → (Contains paths q → ⊥) → node_at disk q ≡ node_at (now old) q) → (path : Path) → Contains paths path → IsLoose disk path) → StaysTidy old new
tidy_by paths old new synced at loose = record {
  grown = at.goes;
  each = λ m from to. subst (λ (l : Log). IsTidy (log_at l m)) (sym (since_is old new at.goes))
      (let since = at.goes.later.0 in
      tidy_earlier paths old.start old.calls synced.none loose since (length (since ++ old.calls) - m) (omega (arith, from, length-append since old.calls)) at.goes.sound at.only);
}

pub steady_tidy : (log : Log) → IsSynced log → StaysTidy log log
steady_tidy log synced = tidy_by [] log log synced (at_nowhere [] log) (λ disk same path there. absurd (omega (arith, there.1)))

-- what was so stays so
pub tidy_goes : (first : ℕ) (old new : Log) → TidySince first old → StaysTidy old new → TidySince first new
tidy_goes first old new before stays m from to = ⊎_elim
    (λ (past : m < suc (moment old)). let le : m ≤ moment old = omega (arith, past) in subst IsTidy (sym (at_since old new stays.grown.later.0 m stays.grown.start stays.grown.later.1 le)) (before m from le))
    (λ (late : suc (moment old) ≤ m). stays.each m (omega (arith, late)) to)
    (cases_lt m (suc (moment old)))

pub tidy_joined : (a b c : Log) → StaysTidy a b → StaysTidy b c → StaysTidy a c
tidy_joined a b c first second = record { grown = goes_on_on a b c first.grown second.grown; each = tidy_goes (moment a) b c first.each second }

-- ---- one change

pub parts_did : (change : Change) (old new : Log) → IsSteady old → HasDone change old new → LeavesParts change old new
parts_did change old new steady did = record { images = part_did old new change steady did; grown = at_did change old new did }

pub parts_broke : (change : Change) (old new : Log) → IsSteady old → HasBroken change old new → LeavesParts change old new
parts_broke change old new steady broke = record { images = part_broke old new change steady broke; grown = at_broke change old new broke }

pub parts_synced : (change : Change) (old mid new : Log) → IsSteady old → HasDone change old mid → new ≡ adds mid Synced → LeavesParts change old new
parts_synced change old mid new steady did is = record {
  images = part_synced old mid new change steady did is (whole_part change (now old) did.0);
  grown = at_then (paths_of change) old mid new (at_did change old mid did) (at_synced (paths_of change) mid new is);
}

pub is_kept : (change : Change) (old mid new : Log) → IsSteady old → HasDone change old mid → new ≡ adds mid Synced → IsKept change old new
is_kept change old mid new steady did is = let all = kept old mid new change steady did is in record { can = all.can; is = all.is; steady = synced_of mid new all.steady is }

-- the same of logs that may be told, from a steady one
module _ (change : Change) (a b : Option Log) (steady : Told a IsSteady) where
  pub told_broke : Changes a b (HasBroken change) → Changes a b (LeavesParts change)
  told_broke broke = changed_from a b IsSteady (HasBroken change) (LeavesParts change) (parts_broke change) steady broke

  module _ (c : Option Log) (did : Changes a b (HasDone change)) where
    -- the sync after it failed
    pub told_did : c ≡ b → Changes a c (LeavesParts change)
    told_did same = subst (λ (o : Option Log). Changes a o (LeavesParts change)) (sym same) (changed_from a b IsSteady (HasDone change) (LeavesParts change) (parts_did change) steady did)

    pub told_synced : Changes b c (λ mid new. new ≡ adds mid Synced) → Changes a c (LeavesParts change)
    told_synced synced = told_through a b c IsSteady (HasDone change) (λ mid new. new ≡ adds mid Synced) (LeavesParts change) (parts_synced change) steady did synced

    pub told_kept : Changes b c (λ mid new. new ≡ adds mid Synced) → Changes a c (IsKept change)
    told_kept synced = told_through a b c IsSteady (HasDone change) (λ mid new. new ≡ adds mid Synced) (IsKept change) (is_kept change) steady did synced

-- ---- changes of the journal's two files

pub put_rest : (bytes : List ℕ) (d c : Disk) → IsPartOf (Put new_file bytes) d c → (q : Path) → q ≢ new_file → node_at c q ≡ node_at d q
put_rest bytes d c (inl same) q ne = at_disk q same
put_rest bytes d c (inr (inl never)) q ne = absurd never
put_rest bytes d c (inr (inr set)) q ne = at_disk q set.2 ∙ set_there d new_file set.0 q ne

journal_loose : (disk : Disk) (path : Path) → Contains (journal_file ∷ []) path → IsLoose disk path
journal_loose disk path (zero, lt, e) = inl (sym e)
journal_loose disk path (suc k, lt, e) = absurd (omega (arith, lt))

new_loose : (disk : Disk) (path : Path) → Contains (new_file ∷ []) path → IsLoose disk path
new_loose disk path (zero, lt, e) = inr (inl (sym e))
new_loose disk path (suc k, lt, e) = absurd (omega (arith, lt))

both_loose : (disk : Disk) (path : Path) → Contains (new_file ∷ journal_file ∷ []) path → IsLoose disk path
both_loose disk path (zero, lt, e) = inr (inl (sym e))
both_loose disk path (suc k, lt, e) = journal_loose disk path (k, omega (arith, lt), e)

pub write_tidy : (at : ℕ) (bytes : List ℕ) (old new : Log) → IsSynced old → LeavesParts (Write journal_file at bytes) old new → StaysTidy old new
write_tidy at bytes old new synced parts = tidy_by (journal_file ∷ []) old new synced parts.grown (λ disk same. journal_loose disk)

pub cut_tidy : (len : ℕ) (old new : Log) → IsSynced old → LeavesParts (SetLen journal_file len) old new → StaysTidy old new
cut_tidy len old new synced parts = tidy_by (journal_file ∷ []) old new synced parts.grown (λ disk same. journal_loose disk)

pub put_tidy : (bytes : List ℕ) (old new : Log) → IsSynced old → LeavesParts (Put new_file bytes) old new → StaysTidy old new
put_tidy bytes old new synced parts = tidy_by (new_file ∷ []) old new synced parts.grown (λ disk same. new_loose disk)

pub move_tidy : (old new : Log) → IsSynced old → LeavesParts (Move new_file journal_file) old new → StaysTidy old new
move_tidy old new synced parts = tidy_by (new_file ∷ journal_file ∷ []) old new synced parts.grown (λ disk same. both_loose disk)

pub pieces_tidy : (old new : Log) → IsSynced old → KeepsShut old new → StaysTidy old new
pieces_tidy old new synced keeps = tidy_by (journal_file ∷ []) old new synced keeps.grown (λ disk same. journal_loose disk)

-- ---- the deeds of the batch that the journal holds: none of them names the journal

pub deeds_tidy : (ds : List PlainDeed) (old new : Log) → IsRepeatable ds → HoldsBatch (now old) ds → IsSynced old → GoesOnAt (named ds) old new → StaysTidy old new
deeds_tidy ds old new repeatable held synced at = tidy_by (named ds) old new synced at (λ disk same path there.
    inr (inr (ds, record { batch = held.batch; rest = held.rest; here = same journal_file (not_named ds journal_file repeatable.beside_journal) ∙ held.here; sum = held.sum }, there)))
