-- How the program ends: what each ending's cause is, its report and its status.
use Rattle.std.specs.Prelude.{◌≡◌, ◌⊎◌, ℕ, ◌≤◌, List, [], ◌∷◌, ◌++◌, length, codes, true, false, Option, Some, None, IsSome, IsNone}
use Rattle.std.specs.List.{AllByRecursion}
use Rattle.outside.specs.Calls.{Rose, Told, Changes}
use Rattle.outside.specs.Images.{now}
use Rattle.outside.specs.Views.{EntropyView}
use Rattle.chunk_journal.specs.Journal.{IsClosed}
use Rattle.session_server.specs.declared.ending.SessionEnd.{SessionEnd}
use Rattle.clap.specs.Words.{Text}
use Rattle.unlocking.specs.FromFiles.{UnlockedVault}
use Rattle.vault_words.specs.Jobs.{Making, Serving, Demonstration, serve, make, demo, help, version}
use Rattle.vault_words.specs.Texts.{help_of, version as version_text}
use Rattle.vault_words.specs.declared.job.Topic.{Topic}
use Rattle.store_laws.specs.Ends.{IsFoundClear}
use Rattle.tree_model.specs.Rows.{Rows}
use Rattle.tree_model.specs.History.{Origin}
pub use Rattle.session_server.specs.Workers.{ListenerFailed, SomeFailed}
use Rattle.vault_store.specs.Open.{ClosedVault}
use Rattle.vault_top.specs.Causes.{text_of}
use Rattle.vault_top.specs.Causes as causes
use Rattle.vault_top.specs.declared.cause.Cause.{Cause}
use Rattle.vault_top.specs.declared.cause.Cause.TheVariants.{Words, Memory}
use Rattle.vault_top.specs.Words.{Ask, AreRefused, kind_of, sessions_of, sharers}
use Rattle.vault_top.specs.Report.{line, sessions_line, TakesPart}
use Rattle.vault_top.specs.Span.{Course, SourceView, SinkView, Views, WorkerSpan, Span, IsOnlyRead, span_of}
use Rattle.vault_top.specs.Served.{HasStops}
pub use Rattle.vault_top.specs.Sessions.{IsServedTo, IsClosedWell, IsClosedBadly, FailsAtTheEnd, Never, stopped_in}
use Rattle.vault_top.specs.Demonstrated.{HasHeld}
use Rattle.vault_top.specs.Opening.{IsUnlocked, IsUnopened, IsUnread}
use Rattle.vault_top.specs.ReadOnly.{IsReadBy}
use Rattle.vault_top.specs.Making.{IsMade, IsNotMade}
use Rattle.shared_tree.specs.declared.workers.Worker.{Worker}
use Rattle.vault_top.specs.declared.program.Ended.{Ended}

-- how a vault was served to be read alone: its sessions ended so, be it that some listener failed, or that there was no memory to report it; or there was no memory to serve it
pub data Reading : Type 0 where
  whole : List SessionEnd → Reading
  a_listener_failed : List SessionEnd → Reading
  not_reported : List SessionEnd → Reading
  not_shared : Reading

-- the endings: the job wasn't done, for a cause; how the program is called, or its version, was said; a vault was made; there was no memory to
-- serve one that was open; one was served, and its sessions ended so; one was served to be read
-- alone; or a demonstration was held, which this line sums up
pub data Ending : Type 0 where
  refused : Cause → Ending
  help_said : Topic → Ending
  version_said : Ending
  made : Ending
  no_memory_to_serve : Ending
  served : List SessionEnd → Ending
  listener_fault : List SessionEnd → Ending
  closing_fault : List SessionEnd → Ending
  no_memory_to_report : List SessionEnd → Ending
  only_read : Reading → Ending
  demonstrated : List ℕ → Ending

-- ---- why the run ended so

-- no worker took a link, nothing was drawn, and no clock was read
abbrev pub AreIdle : {C : Type 0} → List (WorkerSpan C) → Type 0
AreIdle workers =
    AllByRecursion (λ worker. (worker.listener.after ≡ worker.listener.before) × (worker.entropy.after ≡ worker.entropy.before) × (worker.clock.after ≡ worker.clock.before)) workers

-- nothing was taken of the secret, the folder is as it was, and no worker did anything
pub record IsUntouched {C : Type 0} (span : Span C) : Type 0 where
  pub secret : span.given.secret.after ≡ span.given.secret.before
  pub folder : span.given.folder.after ≡ span.given.folder.before
  pub idle : AreIdle span.workers

-- the words ask for nothing that the program does, or there was no memory to read them
pub record IsBadlyAsked {C : Type 0} (span : Span C) (cause : Cause) : Type 0 where
  pub why : ((cause ≡ Words) × AreRefused span.words) ⊎ (cause ≡ Memory)
  pub untouched : IsUntouched span

-- a vault was to be served, and wasn't opened
pub record IsUnserved {C : Type 0} (span : Span C) (cause : Cause) : Type 0 where
  pub serving : Serving
  pub words : Ask span.words (serve serving)
  pub unopened : ((serving.read_only ≡ false) × IsUnopened span.given (kind_of serving) cause) ⊎ ((serving.read_only ≡ true) × IsUnread span.given (kind_of serving) cause)
  pub idle : AreIdle span.workers

-- the first worker's random source went on so; no worker took a link or read its clock, and the others drew nothing
abbrev pub DrawsAlone : {C : Type 0} → (Course EntropyView → Type 0) → List (WorkerSpan C) → Type 0
DrawsAlone P [] = ⊥
DrawsAlone P (first ∷ others) = (first.listener.after ≡ first.listener.before) × P first.entropy × (first.clock.after ≡ first.clock.before) × AreIdle others

-- a vault was to be made, and P of what was given and the first worker's random source
pub record IsMaking {C : Type 0} (span : Span C) (P : Course EntropyView → Type 0) : Type 0 where
  pub making : Making
  pub words : Ask span.words (make making)
  pub drawn : DrawsAlone P span.workers

-- A vault was unlocked under these keys and opened, and there was no memory to share it among workers: nothing was asked, and no worker did anything. Of a folder that is
-- left a stop recovers to what was found.
pub record IsUnshared {C : Type 0} (span : Span C) : Type 0 where
  pub serving : Serving
  pub words : Ask span.words (serve serving)
  pub writes : serving.read_only ≡ false
  pub vault : UnlockedVault
  pub unlocked : IsUnlocked span.given (kind_of serving) vault
  pub rows : Rows
  pub origin : Origin
  pub opened : ℕ
  pub clear : Told span.given.folder.before.log (λ log. IsFoundClear vault.keys (now log) opened rows)
  pub second : Told span.given.second (λ second. opened ≡ second)
  pub stops : HasStops vault.keys rows origin [] span.given.folder.before span.given.folder.after
  pub later : span.given.folder.before.faults ≤ span.given.folder.after.faults
  pub idle : AreIdle span.workers

-- it was served as the words say
pub record IsServed {D N C E K : Type 0} (views : Views D N C E K) (span : Span C) (MayStop : WorkerSpan C → Type 0) (ends : List SessionEnd) : Type 0 where
  pub serving : Serving
  pub words : Ask span.words (serve serving)
  pub writes : serving.read_only ≡ false
  pub sessions : IsServedTo views span (kind_of serving) (sessions_of serving) (sharers serving (length span.workers)) MayStop ends

-- it was served to be read alone, as the words say
pub record IsRead {D N C E K : Type 0} (views : Views D N C E K) (span : Span C) (MayStop : WorkerSpan C → Type 0) (ends : List SessionEnd) : Type 0 where
  pub serving : Serving
  pub words : Ask span.words (serve serving)
  pub read_only : serving.read_only ≡ true
  pub sessions : IsReadBy views span (kind_of serving) (sessions_of serving) (sharers serving (length span.workers)) MayStop ends

-- A vault was opened to be read alone, and there was no memory to share it among workers: nothing was asked, no worker did anything, and nothing of the folder was
-- changed.
pub record IsUnsharedToRead {C : Type 0} (span : Span C) : Type 0 where
  pub serving : Serving
  pub words : Ask span.words (serve serving)
  pub read_only : serving.read_only ≡ true
  pub vault : UnlockedVault
  pub unlocked : IsUnlocked span.given (kind_of serving) vault
  pub rows : Rows
  pub opened : ℕ
  pub closed : Told span.given.folder.before.log (λ log. IsClosed (now log))
  pub clear : Told span.given.folder.before.log (λ log. IsFoundClear vault.keys (now log) opened rows)
  pub second : Told span.given.second (λ second. opened ≡ second)
  pub read : IsOnlyRead span.given.folder.before span.given.folder.after
  pub idle : AreIdle span.workers

abbrev pub HasRead : {D N C E K : Type 0} → Views D N C E K → Span C → Reading → Type 0
HasRead views span (whole ends) = IsRead views span Never ends
HasRead views span (a_listener_failed ends) = IsRead views span ListenerFailed ends × SomeFailed span.workers
HasRead views span (not_reported ends) = IsRead views span ListenerFailed ends
HasRead views span not_shared = IsUnsharedToRead span

-- the words ask for a demonstration, which was held over objects of its own; this line sums it up, and the closed store of its vault is what is
-- handed back
pub record IsDemonstration {C : Type 0} (span : Span C) (text : List ℕ) : Type 0 where
  pub demonstration : Demonstration
  pub words : Ask span.words (demo demonstration)
  pub untouched : IsUntouched span
  pub closed : ClosedVault
  pub is : span.closed ≡ Some closed
  pub held : HasHeld demonstration text closed

-- why a job isn't done
abbrev pub IsRefused : {C : Type 0} → Span C → Cause → Type 0
IsRefused span cause =
    IsBadlyAsked span cause ⊎ IsUnserved span cause ⊎ IsMaking span (λ entropy. IsNotMade span.given entropy cause)

-- Why the run ended so. A fault at closing is reported only if a commit failed, in an entry or of what waited in the end; after any other
-- ending of a vault that was served none did, and all entries are on the disk.
abbrev pub HasReason : {D N C E K : Type 0} → Views D N C E K → Span C → Ending → Type 0
HasReason views span (refused cause) = IsRefused span cause
HasReason views span (help_said topic) = Ask span.words (help topic) × IsUntouched span
HasReason views span version_said = Ask span.words version × IsUntouched span
HasReason views span made = IsMaking span (λ entropy. IsMade span.given entropy)
HasReason views span no_memory_to_serve = IsUnshared span
HasReason views span (served ends) = (is : IsServed views span Never ends) × IsClosedWell is.sessions.history
HasReason views span (listener_fault ends) = (is : IsServed views span ListenerFailed ends) × SomeFailed span.workers × IsClosedWell is.sessions.history
HasReason views span (closing_fault ends) = (is : IsServed views span ListenerFailed ends) × IsClosedBadly is.sessions.history
HasReason views span (no_memory_to_report ends) = (is : IsServed views span ListenerFailed ends) × IsClosedWell is.sessions.history
HasReason views span (only_read reading) = HasRead views span reading
HasReason views span (demonstrated line) = IsDemonstration span line

-- ---- reports and statuses

abbrev pub serving : List ℕ
serving = line (codes "serving")

abbrev pub report_of : Ending → List ℕ
report_of (refused cause) = line (text_of cause)
report_of (help_said topic) = help_of topic
report_of version_said = version_text
report_of made = line (codes "made")
report_of no_memory_to_serve = serving ++ line (codes "out of memory")
report_of (served ends) = serving ++ sessions_line ends
report_of (listener_fault ends) = serving ++ line (codes "listener fault")
report_of (closing_fault ends) = serving ++ line (codes "device fault: folder")
report_of (no_memory_to_report ends) = serving ++ line (codes "out of memory")
report_of (only_read (whole ends)) = serving ++ sessions_line ends
report_of (only_read (a_listener_failed ends)) = serving ++ line (codes "listener fault")
report_of (only_read (not_reported ends)) = serving ++ line (codes "out of memory")
report_of (only_read not_shared) = serving ++ line (codes "out of memory")
report_of (demonstrated text) = line text

abbrev pub status_of : Ending → ℕ
status_of (refused cause) = causes.status_of cause
status_of (help_said topic) = 0
status_of version_said = 0
status_of made = 0
status_of no_memory_to_serve = 5
status_of (served ends) = 0
status_of (listener_fault ends) = 7
status_of (closing_fault ends) = 4
status_of (no_memory_to_report ends) = 5
status_of (only_read (whole ends)) = 0
status_of (only_read (a_listener_failed ends)) = 7
status_of (only_read (not_reported ends)) = 5
status_of (only_read not_shared) = 5
status_of (demonstrated text) = 0

-- the status if the report wasn't taken whole: 4 in place of 0 and 7
abbrev pub cut_status_of : Ending → ℕ
cut_status_of (refused cause) = causes.status_of cause
cut_status_of (help_said topic) = 4
cut_status_of version_said = 4
cut_status_of made = 4
cut_status_of no_memory_to_serve = 5
cut_status_of (served ends) = 4
cut_status_of (listener_fault ends) = 4
cut_status_of (closing_fault ends) = 4
cut_status_of (no_memory_to_report ends) = 5
cut_status_of (only_read (whole ends)) = 4
cut_status_of (only_read (a_listener_failed ends)) = 4
cut_status_of (only_read (not_reported ends)) = 5
cut_status_of (only_read not_shared) = 5
cut_status_of (demonstrated text) = 4

-- the report was taken whole; or the sink failed, and took a part from its front
abbrev pub IsReported : Course SinkView → Ending → ℕ → Type 0
IsReported sink ending status =
    ((status ≡ status_of ending) × Changes sink.before.taken sink.after.taken (λ old new. new ≡ old ++ report_of ending))
    ⊎ (Rose sink.before.faults sink.after.faults × (status ≡ cut_status_of ending)
    × Changes sink.before.taken sink.after.taken (TakesPart (report_of ending)))

-- that no client can connect was reported whole; or the sink failed, and took a part from the line's front
abbrev pub SaysNoSocket : Course SinkView → ℕ → Type 0
SaysNoSocket sink status =
    ((status ≡ 7) × Changes sink.before.taken sink.after.taken (λ old new. new ≡ old ++ line (codes "listener fault")))
    ⊎ (Rose sink.before.faults sink.after.faults × (status ≡ 4)
    × Changes sink.before.taken sink.after.taken (TakesPart (line (codes "listener fault"))))

-- that another server has the vault was reported whole; or the sink failed, and took a part from the line's front
abbrev pub SaysInUse : Course SinkView → ℕ → Type 0
SaysInUse sink status =
    (status ≡ 14)
    × (Changes sink.before.taken sink.after.taken (λ old new. new ≡ old ++ line (codes "vault in use"))
    ⊎ (Rose sink.before.faults sink.after.faults × Changes sink.before.taken sink.after.taken (TakesPart (line (codes "vault in use")))))

-- ---- a run

-- the folder is handed back; only if there was no memory to serve it may be lost with the vault
abbrev pub IsGivenBack : {D : Type 0} → Ending → D → Option D → Type 0
IsGivenBack ending kept folder = (folder ≡ Some kept) ⊎ ((folder ≡ None) × ((ending ≡ no_memory_to_serve) ⊎ (ending ≡ only_read not_shared)))

-- a closed store is handed back after each ending of a vault that was served and could be changed, that of a demonstration among them, and after no other
abbrev pub IsStoreLeft : Ending → Option ClosedVault → Type 0
IsStoreLeft (refused cause) store = IsNone store
IsStoreLeft (help_said topic) store = IsNone store
IsStoreLeft version_said store = IsNone store
IsStoreLeft made store = IsNone store
IsStoreLeft no_memory_to_serve store = IsNone store
IsStoreLeft (served ends) store = IsSome store
IsStoreLeft (listener_fault ends) store = IsSome store
IsStoreLeft (closing_fault ends) store = IsSome store
IsStoreLeft (no_memory_to_report ends) store = IsSome store
IsStoreLeft (only_read reading) store = IsNone store
IsStoreLeft (demonstrated text) store = IsSome store

-- the workers are those that they were, in their order: each is the one of its place
pub record HasRun {D N C E K : Type 0} (views : Views D N C E K) (words : List (List ℕ)) (secret : Course SourceView) (second : Option ℕ) (folder : D) (workers workers' : List (Worker N E K)) (sink : Course SinkView) (ended : Ended D) : Type 0 where
  pub ending : Ending
  pub kept : D
  pub folder_is : IsGivenBack ending kept ended.folder
  pub store_is : IsStoreLeft ending ended.store
  pub count : length workers' ≡ length workers
  pub reason : HasReason views (span_of views words secret second folder kept workers workers' ended.store) ending
  pub reported : IsReported sink ending ended.status
