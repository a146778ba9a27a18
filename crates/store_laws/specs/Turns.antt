-- The turns of a store: what a request comes to, and the entry that it adds to whatever history the store stood for.
use Rattle.std.specs.Prelude.{◌≡◌, ℕ, suc, ◌≤◌, List, [], ◌∷◌, ◌++◌, Bool, true, false, Option, Some, None, IsSome, IsNone}
use Rattle.outside.specs.Calls.{Changes, Told}
use Rattle.outside.specs.Disk.{Path as HostPath}
use Rattle.outside.specs.Images.{Log, disk_in, now}
use Rattle.outside.specs.Views.{FolderView, EntropyView}
use Rattle.chunk_journal.specs.Journal.{AnyMoment, HasCommitted}
use Rattle.pending_files.specs.Laid.{CanWait, laid}
use Rattle.tree_model.specs.declared.refusal.Refusal.TheVariants as refusals
use Rattle.tree_model.specs.Rows.{Content, Rows}
use Rattle.tree_model.specs.Asked.{Asked, PlainRequest, refused}
use Rattle.tree_model.specs.History.{Made, Entry, Origin, entry_of, tally_of, answer_of, is_refusal, is_stopped, rows_then, HasCause, IsAnswered, MayCommit, MayDraw}
use Rattle.tree_loading.specs.Format.{sealing_of}
use Rattle.live_tree.specs.Held.{live_rows}
use Rattle.live_tree_laws.specs.Strays.{KeepsStrays}
use Rattle.node_changes.specs.Changed.{StandsOn, ShowsRows, HasChanged, MayHaveChanged}
use Rattle.node_changes.specs.Placed.{taken_for, IfDrawn, IsIdentifierOf}
use Rattle.node_changes.specs.Within.{AreWithin}
use Rattle.crash_laws.specs.Stable.{is_kept}
use Rattle.store_laws.specs.Store.{StoreView, IsStoreOf, bounded, moment_of, shown_in}

-- ---- entries

-- the bytes that a random source has given go on from those of before, and an identifier is that of the first sixteen since; if one may be drawn
-- and none is named, the source gave nothing
pub record Draws (made : Made) (old new : List ℕ) : Type 0 where
  pub more : List ℕ
  pub on : new ≡ old ++ more
  pub identifier : IfDrawn made.drawn (λ identifier. IsIdentifierOf identifier old new)
  pub unspent : made.drawn ≡ None → MayDraw made.asked.request → new ≡ old

abbrev pub draws_for : Option (List ℕ) → Option (List ℕ) → Made → Type 0
draws_for before after made = Changes before after (Draws made)

-- the path that is taken for a request, of what reads give, is this one
abbrev pub IsTakenFor : StoreView → FolderView → PlainRequest → Option (List ℕ) → Option HostPath → Type 0
IsTakenFor store folder request drawn taken = Told (disk_in folder.log) (λ d. taken ≡ taken_for (sealing_of store.keys) d store.live request drawn)

-- What a store made of a request that was asked and answered so, in a call that began with this count of the folder's faults: its counts
-- are those of the folder and of the caller's random source as that call began and as it ended, what is drawn was given by that source, and
-- which place is taken is said by the folder before.
pub record IsMadeOf (asked : Asked) (store : StoreView) (begun : ℕ) (before after : FolderView)
    (source source' : EntropyView) (made : Made) : Type 0 where
  pub same : made.asked ≡ asked
  pub folder : (made.folder.before ≡ begun) × (made.folder.after ≡ after.faults)
  pub entropy : (made.entropy.before ≡ source.faults) × (made.entropy.after ≡ source'.faults)
  pub drawn : draws_for source.drawn source'.drawn made
  pub taken : IsTakenFor store before asked.request made.drawn made.taken
  pub moment : made.moment ≡ moment_of after.log

-- One entry more: whatever history the store stood for, whoever asks, it stands for that history with one entry, in which this was asked
-- and answered, and whose counts of faults are those before and after. The caller's random source goes on from where it was in the caller's
-- last entry.
abbrev pub AddsEntry : StoreView → StoreView → FolderView → FolderView → Asked → EntropyView → EntropyView → Type 0
AddsEntry old new before after asked source source' =
    (found : Option Log) (rows : Rows) (origin : Origin) (history : List Entry) (caller : ℕ) → IsStoreOf found old before rows origin history →
    (tally_of origin history).entropy_faults caller ≤ source.faults →
    (made : Made) × IsMadeOf asked old before.faults before after source source' made
    × IsStoreOf found new after rows origin (history ++ entry_of caller made ∷ [])

-- The same of what is left of a call once what waited is committed: the call began with this count of the folder's faults, which is no
-- lower than that with which the last entry ended, and its entry begins with it.
abbrev pub AddsEntryFrom : ℕ → StoreView → StoreView → FolderView → FolderView → Asked → EntropyView → EntropyView → Type 0
AddsEntryFrom begun old new before after asked source source' =
    (found : Option Log) (rows : Rows) (origin : Origin) (history : List Entry) (caller : ℕ)
    → IsStoreOf found old before rows origin history →
    (tally_of origin history).folder_faults ≤ begun → (tally_of origin history).entropy_faults caller ≤ source.faults →
    (made : Made) × IsMadeOf asked old begun before after source source' made
    × IsStoreOf found new after rows origin (history ++ entry_of caller made ∷ [])

-- ---- turns, whatever the history so far is

-- what came of a request: what was asked and answered, the identifier that was drawn, which place is taken, and whether a commit failed
pub record Turn : Type 0 where
  pub asked : Asked
  pub drawn : Option (List ℕ)
  pub taken : Option HostPath
  pub commit_failed : Bool

-- the same as it is made in a call that began with this count of the folder's faults, if so many entries are stable
abbrev pub made_in : Turn → ℕ → FolderView → EntropyView → EntropyView → ℕ → Made
made_in turn begun after source source' stable = record {
  asked = turn.asked;
  drawn = turn.drawn;
  folder = record { before = begun; after = after.faults };
  entropy = record { before = source.faults; after = source'.faults };
  commit_failed = turn.commit_failed;
  taken = turn.taken;
  stable = stable;
  moment = moment_of after.log;
}

-- before it is known how many are stable, and from the folder's count as the turn begins
abbrev pub made_of : Turn → FolderView → FolderView → EntropyView → EntropyView → Made
made_of turn before after source source' = made_in turn before.faults after source source' 0

-- What each turn of a store that runs has: counts that don't fall, a cause, a draw only if there may be one, and the place that is taken.
-- The store has the same keys, and one entry more.
pub record IsTurn (old new : StoreView) (before after : FolderView) (source source' : EntropyView) (turn : Turn) : Type 0 where
  pub running : IsNone old.stopped
  pub keys : new.keys ≡ old.keys
  pub entries : new.entries ≡ bounded (suc old.entries)
  pub folder : before.faults ≤ after.faults
  pub entropy : source.faults ≤ source'.faults
  pub cause : HasCause (made_of turn before after source source') turn.asked.reply
  pub unstopped : is_stopped turn.asked.reply ≡ false
  pub may_draw : IsSome turn.drawn → MayDraw turn.asked.request
  pub drawn : draws_for source.drawn source'.drawn (made_of turn before after source source')
  pub taken : IsTakenFor old before turn.asked.request turn.drawn turn.taken

-- the answer is allowed in all rows that the tree in memory may have on a disk
abbrev pub IsAllowed : StoreView → FolderView → Made → Type 0
IsAllowed store folder made = Told (shown_in store folder) (λ d. (contents : ℕ → Content) → StandsOn (sealing_of store.keys) d store.live store.claims contents
    → IsAnswered (live_rows contents store.live) made)

-- ---- nothing is changed on the disk: a request that only reads, a refusal, a fault, an mtime, a write that waits

-- The rows after it are shown by the disk once all is done that waits then, and that can be done.
abbrev pub StaysShown : StoreView → StoreView → FolderView → Made → Type 0
StaysShown old new folder made = Told folder.log (λ log. (contents : ℕ → Content) → StandsOn (sealing_of old.keys) (laid old.waiting (now log)) old.live old.claims contents
    → ShowsRows (sealing_of old.keys) (rows_then (live_rows contents old.live) made) (laid new.waiting (now log)) new.live new.claims)

-- what waits then leaves what belongs to no node as what waited before leaves it
abbrev pub SparesStrays : StoreView → StoreView → FolderView → Type 0
SparesStrays old new folder = Told folder.log (λ log. (contents : ℕ → Content) → StandsOn (sealing_of old.keys) (laid old.waiting (now log)) old.live old.claims contents
    → KeepsStrays (sealing_of old.keys) (laid old.waiting (now log)) (laid new.waiting (now log)))

-- What is answered as stable doesn't wait, and what waits names the vault's data alone, if what waited before does, and spares what belongs to no node.
pub record IsQuietTurn (old new : StoreView) (before after : FolderView) (source source' : EntropyView) (turn : Turn) : Type 0 where
  pub is_turn : IsTurn old new before after source source' turn
  pub goes_on : IsNone new.stopped
  pub whole : turn.commit_failed ≡ false
  pub log : after.log ≡ before.log
  pub allowed : IsAllowed old before (made_of turn before after source source')
  pub waits : Told before.log (λ log. CanWait new.waiting (now log))
  pub within : Told before.log (λ log. AreWithin old.waiting → AreWithin new.waiting)
  pub strays : SparesStrays old new before
  pub shown : StaysShown old new before (made_of turn before after source source')
  pub kept : is_kept turn.asked.request turn.asked.reply ≡ true → (old.waiting ≡ []) × (new.waiting ≡ [])

-- ---- a change is committed, with nothing that waits

pub record IsChangedTurn (old new : StoreView) (before after : FolderView) (source source' : EntropyView) (turn : Turn) : Type 0 where
  pub is_turn : IsTurn old new before after source source' turn
  pub none : (old.waiting ≡ []) × (new.waiting ≡ [])
  pub goes_on : IsNone new.stopped
  pub whole : turn.commit_failed ≡ false
  pub accepted : is_refusal turn.asked.reply ≡ false
  pub allowed : IsAllowed old before (made_of turn before after source source')
  pub changed : Changes before.log after.log (HasChanged (sealing_of old.keys) turn.asked.request turn.asked.second
      (answer_of (made_of turn before after source source')) old.live new.live old.claims new.claims)

-- ---- its commit failed: the store stops

-- a commit failed, of a request that may have one: it is answered as the folder's fault, and the store answers the number of this entry from now on
pub record StopsStore (old new : StoreView) (turn : Turn) : Type 0 where
  pub named : new.stopped ≡ Some old.entries
  pub failed : turn.commit_failed ≡ true
  pub reply : turn.asked.reply ≡ refused refusals.DeviceFault
  pub may_commit : MayCommit turn.asked.request

pub record IsBrokenTurn (old new : StoreView) (before after : FolderView) (source source' : EntropyView) (turn : Turn) : Type 0 where
  pub is_turn : IsTurn old new before after source source' turn
  pub none : old.waiting ≡ []
  pub stops : StopsStore old new turn
  pub allowed : IsAllowed old before (made_of turn before after source source')
  pub changed : Changes before.log after.log (MayHaveChanged (sealing_of old.keys) turn.asked.request turn.asked.second
      old.live new.live old.claims new.claims)

-- ---- what waits is committed, without an entry

-- nothing waits any more, and all else in memory is as it was
pub record IsFlushed (old new : StoreView) (before after : FolderView) : Type 0 where
  pub running : IsNone old.stopped
  pub new_is : new ≡ record old { waiting = [] }
  pub faults : before.faults ≤ after.faults
  pub committed : Changes before.log after.log (HasCommitted old.waiting)
  pub any_moment : Changes before.log after.log (AnyMoment old.waiting)

-- that commit failed, before a request's own work: the store stops, with the tree that it had in memory
pub record IsUnflushedTurn (old new : StoreView) (before after : FolderView) (source source' : EntropyView) (turn : Turn) : Type 0 where
  pub is_turn : IsTurn old new before after source source' turn
  pub stops : StopsStore old new turn
  pub live : new.live ≡ old.live
  pub allowed : IsAllowed old before (made_of turn before after source source')
  pub any_moment : Changes before.log after.log (AnyMoment old.waiting)

-- ---- a store that stopped: nothing is done

pub record IsStoppedTurn (old new : StoreView) (before after : FolderView) (source source' : EntropyView) (turn : Turn) : Type 0 where
  pub number : ℕ
  pub is : old.stopped ≡ Some number
  pub new_is : new ≡ record old { entries = bounded (suc old.entries) }
  pub folder_is : after ≡ before
  pub source_is : source' ≡ source
  pub reply : turn.asked.reply ≡ refused (refusals.Stopped number)
  pub undrawn : turn.drawn ≡ None
  pub unflagged : turn.commit_failed ≡ false
  pub taken : IsTakenFor old before turn.asked.request turn.drawn turn.taken

-- ---- the laws

-- Of each of the first three the call may have begun earlier, with no more faults of the folder: what waited was committed since.
abbrev pub QuietTurnsAdd : Type 0
QuietTurnsAdd = (old new : StoreView) (begun : ℕ) (before after : FolderView) (source source' : EntropyView) (turn : Turn)
    → begun ≤ before.faults → IsQuietTurn old new before after source source' turn
    → AddsEntryFrom begun old new before after turn.asked source source'

abbrev pub ChangedTurnsAdd : Type 0
ChangedTurnsAdd = (old new : StoreView) (begun : ℕ) (before after : FolderView) (source source' : EntropyView) (turn : Turn)
    → begun ≤ before.faults → IsChangedTurn old new before after source source' turn
    → AddsEntryFrom begun old new before after turn.asked source source'

abbrev pub BrokenTurnsAdd : Type 0
BrokenTurnsAdd = (old new : StoreView) (begun : ℕ) (before after : FolderView) (source source' : EntropyView) (turn : Turn)
    → begun ≤ before.faults → IsBrokenTurn old new before after source source' turn
    → AddsEntryFrom begun old new before after turn.asked source source'

abbrev pub StoppedTurnsAdd : Type 0
StoppedTurnsAdd = (old new : StoreView) (before after : FolderView) (source source' : EntropyView) (turn : Turn)
    → IsStoppedTurn old new before after source source' turn → AddsEntry old new before after turn.asked source source'

abbrev pub UnflushedTurnsAdd : Type 0
UnflushedTurnsAdd = (old new : StoreView) (before after : FolderView) (source source' : EntropyView) (turn : Turn)
    → IsUnflushedTurn old new before after source source' turn → AddsEntry old new before after turn.asked source source'

-- what a store stands for, it stands for once what waits is committed
abbrev pub FlushesStand : Type 0
FlushesStand = (old new : StoreView) (before after : FolderView) → IsFlushed old new before after
    → (found : Option Log) (rows : Rows) (origin : Origin) (history : List Entry) → IsStoreOf found old before rows origin history
    → IsStoreOf found new after rows origin history

-- An entry that is added then is added to what the store stood for before: its call began with the folder's count as it was then.
abbrev pub FlushedTurnsAdd : Type 0
FlushedTurnsAdd = (old between new : StoreView) (before amid after : FolderView) (asked : Asked) (source source' : EntropyView)
    → IsFlushed old between before amid → AddsEntryFrom before.faults between new amid after asked source source'
    → AddsEntry old new before after asked source source'
