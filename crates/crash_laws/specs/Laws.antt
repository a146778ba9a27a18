-- The laws of a history's stops: how what it stands for goes on, and what follows of each stop.
use Rattle.std.specs.Prelude.{◌≡◌, ◌⊎◌, ℕ, suc, ◌≤◌, List, [], ◌∷◌, ◌++◌, length, true, false, Option, IsNone, IsSome}
use Rattle.outside.specs.Disk.{Disk, IsTree}
use Rattle.outside.specs.Images.{Log, now, moment}
use Rattle.deeds.specs.Deeds.{PlainDeed, DoesAll, in_order}
use Rattle.deeds.specs.Repeatable.{IsRepeatable}
use Rattle.chunk_journal.specs.Journal.{AnyMoment, HasCommitted, RecoversTo, TidySince}
use Rattle.tree_model.specs.Asked.{PlainRequest, PlainReply}
use Rattle.tree_model.specs.Rows.{Rows}
use Rattle.tree_model.specs.History.{Entry, Origin, rows_at, rows_then, tally_of, IsCaused, IsAnswered, IsLegal}
use Rattle.crash_laws.specs.Crash.{DiskShows, HoldsEnded, HaveEnded, IsCrash, rows_stepped}
use Rattle.crash_laws.specs.Stands.{WasSafe, IsRunning, IsBroken, IsInState}
use Rattle.crash_laws.specs.Prefix.{IsCrashPrefix, RecoversWhole, StopsRecover, IsWhole}
use Rattle.crash_laws.specs.Opening.{StaysFound, StaysAsFound, HasFound, IsClearTree, IsSoundlyFound, IsFoundAs, OpeningRecovers}
use Rattle.crash_laws.specs.Stable.{stable_then, IsStableNext}

-- the rows after all entries
abbrev pub rows_end : Rows → List Entry → Rows
rows_end rows history = rows_at rows history (length history)

-- ---- an entry that changes no disk

-- it stays on top of what is pending, which may be more than before
abbrev pub Idles : DiskShows → Type 0
Idles Shows = (opened : ℕ) (rows : Rows) (history : List Entry) (pending pending' : List PlainDeed) (log : Log) (entry : Entry) (after : Disk)
    → (is : IsRunning Shows opened rows history pending log) → entry.made.moment ≡ moment log → entry.made.stable ≤ is.base
    → DoesAll (in_order pending') (now log) after → Shows after (rows_then (rows_end rows history) entry.made)
    → IsRunning Shows opened rows (history ++ entry ∷ []) pending' log

-- with nothing pending it is as good as on the disk, which shows the rows after it
abbrev pub IdlesKept : DiskShows → Type 0
IdlesKept Shows = (opened : ℕ) (rows : Rows) (history : List Entry) (log : Log) (entry : Entry)
    → IsRunning Shows opened rows history [] log → entry.made.moment ≡ moment log → entry.made.stable ≤ suc (length history)
    → Shows (now log) (rows_then (rows_end rows history) entry.made)
    → IsRunning Shows opened rows (history ++ entry ∷ []) [] log

-- ---- what is pending is committed

abbrev pub Settles : DiskShows → Type 0
Settles Shows = (opened : ℕ) (rows : Rows) (history : List Entry) (pending : List PlainDeed) (old new : Log)
    → IsRepeatable pending → IsRunning Shows opened rows history pending old → AnyMoment pending old new → HasCommitted pending old new
    → IsRunning Shows opened rows history [] new

abbrev pub SettlesBroken : DiskShows → Type 0
SettlesBroken Shows = (opened : ℕ) (rows : Rows) (history : List Entry) (pending : List PlainDeed) (old new : Log)
    → IsRepeatable pending → IsRunning Shows opened rows history pending old → AnyMoment pending old new
    → IsBroken Shows opened rows history new

-- ---- an entry's own deeds are committed, with nothing pending

abbrev pub Commits : DiskShows → Type 0
Commits Shows = (opened : ℕ) (rows : Rows) (history : List Entry) (deeds : List PlainDeed) (old new : Log) (entry : Entry) (end : Disk)
    → IsRepeatable deeds → IsRunning Shows opened rows history [] old
    → DoesAll (in_order deeds) (now old) end → Shows end (rows_then (rows_end rows history) entry.made)
    → entry.made.moment ≡ moment new → entry.made.stable ≤ suc (length history) → AnyMoment deeds old new → HasCommitted deeds old new
    → IsRunning Shows opened rows (history ++ entry ∷ []) [] new

-- it failed
abbrev pub Breaks : DiskShows → Type 0
Breaks Shows = (opened : ℕ) (rows : Rows) (history : List Entry) (deeds : List PlainDeed) (old new : Log) (entry : Entry) (end : Disk)
    → IsRepeatable deeds → IsRunning Shows opened rows history [] old
    → DoesAll (in_order deeds) (now old) end → Shows end (rows_stepped (rows_end rows history) entry.made)
    → entry.made.moment ≡ moment new → entry.made.commit_failed ≡ true → entry.made.stable ≤ length history → AnyMoment deeds old new
    → IsBroken Shows opened rows (history ++ entry ∷ []) new

-- ---- after a commit that failed

abbrev pub StaysBroken : DiskShows → Type 0
StaysBroken Shows = (opened : ℕ) (rows : Rows) (origin : Origin) (history : List Entry) (log : Log) (entry : Entry)
    → IsBroken Shows opened rows history log → entry.made.moment ≡ moment log → entry.made.stable ≡ (tally_of origin history).stable
    → IsBroken Shows opened rows (history ++ entry ∷ []) log

-- ---- moments

-- the present moment is safe too
abbrev pub RunningSafe : DiskShows → Type 0
RunningSafe Shows = (opened : ℕ) (rows : Rows) (history : List Entry) (pending : List PlainDeed) (log : Log)
    → IsRunning Shows opened rows history pending log → WasSafe Shows opened rows history log (suc (moment log))

-- what was said of an image stays said with one entry more, if that hadn't ended or is stable no further than what was held
abbrev pub CrashMore : DiskShows → Type 0
CrashMore Shows = (rows : Rows) (history : List Entry) (m : ℕ) (image : Disk) (entry : Entry)
    → (entry.made.moment ≤ m → (k : ℕ) → HoldsEnded history m k → entry.made.stable ≤ k)
    → IsCrash Shows rows history m image → IsCrash Shows rows (history ++ entry ∷ []) m image

-- ---- the two states, by the tally

-- a store none of whose commits failed runs
abbrev pub StateRuns : DiskShows → Type 0
StateRuns Shows = (opened : ℕ) (rows : Rows) (history : List Entry) (pending : List PlainDeed) (log : Log) (stopped : Option ℕ)
    → IsNone stopped → IsInState Shows opened rows history pending log stopped → IsRunning Shows opened rows history pending log

abbrev pub StateIsBroken : DiskShows → Type 0
StateIsBroken Shows = (opened : ℕ) (rows : Rows) (history : List Entry) (pending : List PlainDeed) (log : Log) (stopped : Option ℕ)
    → IsSome stopped → IsInState Shows opened rows history pending log stopped → IsBroken Shows opened rows history log

-- with one entry more, whose commit didn't fail
abbrev pub RunsOn : DiskShows → Type 0
RunsOn Shows = (opened : ℕ) (rows : Rows) (origin : Origin) (history : List Entry) (entry : Entry) (pending : List PlainDeed) (log : Log)
    → IsNone (tally_of origin history).stopped → entry.made.commit_failed ≡ false
    → IsRunning Shows opened rows (history ++ entry ∷ []) pending log
    → IsInState Shows opened rows (history ++ entry ∷ []) pending log (tally_of origin (history ++ entry ∷ [])).stopped

-- and with one whose commit failed, or that followed such a one
abbrev pub StaysStopped : DiskShows → Type 0
StaysStopped Shows = (opened : ℕ) (rows : Rows) (origin : Origin) (history : List Entry) (entry : Entry) (pending : List PlainDeed) (log : Log)
    → (entry.made.commit_failed ≡ true) ⊎ IsSome (tally_of origin history).stopped
    → IsBroken Shows opened rows (history ++ entry ∷ []) log
    → IsInState Shows opened rows (history ++ entry ∷ []) pending log (tally_of origin (history ++ entry ∷ [])).stopped

-- a log that is the same is as good
abbrev pub LivesOn : DiskShows → Type 0
LivesOn Shows = (opened : ℕ) (rows : Rows) (history : List Entry) (pending : List PlainDeed) (old new : Log) (stopped : Option ℕ)
    → new ≡ old → IsInState Shows opened rows history pending old stopped → IsInState Shows opened rows history pending new stopped

-- a stop at any moment recovers to a prefix of the history that holds all that was synced
abbrev pub StateRecovers : DiskShows → Type 0
StateRecovers Shows = (opened : ℕ) (rows : Rows) (history : List Entry) (pending : List PlainDeed) (log : Log) (stopped : Option ℕ)
    → IsInState Shows opened rows history pending log stopped → StopsRecover Shows opened rows history log

-- at each moment since, what is unsynced is loose
abbrev pub StateIsTidy : DiskShows → Type 0
StateIsTidy Shows = (opened : ℕ) (rows : Rows) (history : List Entry) (pending : List PlainDeed) (log : Log) (stopped : Option ℕ)
    → IsInState Shows opened rows history pending log stopped → TidySince opened log

-- ---- opening

-- from the rows that the found disk recovers to
abbrev pub Begins : DiskShows → Type 0
Begins Shows = (rows : Rows) (old new : Log) → StaysFound old new → HasFound old new → IsFoundAs Shows rows (now old)
    → IsRunning Shows (suc (moment old)) rows [] [] new

-- from the rows of the disk as it was opened
abbrev pub BeginsNow : DiskShows → Type 0
BeginsNow Shows = (rows : Rows) (found : Disk) (old new : Log) → StaysFound old new → HasFound old new → RecoversTo (now old) found
    → Shows (now new) rows → IsRunning Shows (suc (moment old)) rows [] [] new

-- it failed
abbrev pub OpeningFails : DiskShows → Type 0
OpeningFails Shows = (old new : Log) → StaysFound old new → StaysAsFound old new → IsSoundlyFound (now old) → OpeningRecovers Shows old new

-- ---- closing: what is pending is committed, without an entry

abbrev pub ClosesWhole : DiskShows → Type 0
ClosesWhole Shows = (opened : ℕ) (rows : Rows) (history : List Entry) (pending : List PlainDeed) (old new : Log)
    → IsRepeatable pending → IsRunning Shows opened rows history pending old → AnyMoment pending old new → HasCommitted pending old new
    → IsWhole Shows rows history new

-- whether it failed or not
abbrev pub ClosesSafely : DiskShows → Type 0
ClosesSafely Shows = (opened : ℕ) (rows : Rows) (history : List Entry) (pending : List PlainDeed) (old new : Log)
    → IsRepeatable pending → IsRunning Shows opened rows history pending old → AnyMoment pending old new
    → StopsRecover Shows opened rows history new

-- ---- the next entry

-- the last stable is on the disk
abbrev pub BaseHolds : DiskShows → Type 0
BaseHolds Shows = (opened : ℕ) (rows : Rows) (origin : Origin) (history : List Entry) (pending : List PlainDeed) (log : Log)
    → (is : IsRunning Shows opened rows history pending log) → (tally_of origin history).stable ≤ is.base

-- and the last moment isn't past
abbrev pub MomentHolds : Type 0
MomentHolds = (origin : Origin) (history : List Entry) (m : ℕ) → origin.moment ≤ m → HaveEnded history m (length history)
    → (tally_of origin history).moment ≤ m

abbrev pub StablesFollow : Type 0
StablesFollow = (request : PlainRequest) (reply : PlainReply) (last base count : ℕ) → last ≤ base → base ≤ count
    → IsStableNext request reply last base count (stable_then request reply last (suc count))

-- an entry that has its causes and is answered in the rows so far goes on a legal history
abbrev pub Continues : Type 0
Continues = (rows : Rows) (origin : Origin) (history : List Entry) (entry : Entry) → IsLegal rows origin history
    → IsCaused (tally_of origin history) entry
    → (IsNone (tally_of origin history).stopped → IsAnswered (rows_end rows history) entry.made)
    → IsLegal rows origin (history ++ entry ∷ [])

-- what a sound folder recovers to is a tree, with no folder in the journal's places
abbrev pub RecoversToTrees : Type 0
RecoversToTrees = (disk found : Disk) → IsSoundlyFound disk → RecoversTo disk found → IsClearTree found

-- What a stop leaves of a history, as a tree, is sound to whoever opens it next: so stops may follow one another.
abbrev pub StopsAreSound : DiskShows → Type 0
StopsAreSound Shows = (rows : Rows) (history : List Entry) (low high : ℕ) (image : Disk) → IsTree image → IsCrashPrefix Shows rows history low high image → IsSoundlyFound image

-- and so is what recovers to all of it
abbrev pub WholesAreSound : DiskShows → Type 0
WholesAreSound Shows = (rows : Rows) (history : List Entry) (image : Disk) → IsTree image → RecoversWhole Shows rows history image → IsSoundlyFound image
