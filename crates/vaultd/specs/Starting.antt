-- What the program makes of its words, and how it ends without a job.
use Rattle.std.specs.Prelude.{◌≡◌, ◌⊎◌, ℕ, List, [], ◌++◌, length, min, max, Option, None, Result, Ok, Err, option_map, Bool, true, false, not, codes, IfOk, IsSome, string_bytes, ⊤}
use Rattle.std.specs.List.{AllByRecursion}
use Rattle.host_sockets.specs.Bound.{address_of, file_of, is_bound}
use Rattle.host_sockets.specs.declared.socket.Socket.{Socket}
use Rattle.host_folder.specs.Holding.{Holding}
use Rattle.host_links.specs.Addresses.{IsNamedBy}
use Rattle.host_links.specs.Behind.{link_to_come}
use Rattle.host_links.specs.declared.listen.HostListen.{HostListen}
use Rattle.outside.specs.Calls.{Changes, Rose}
use Rattle.outside.specs.Views.{LinkView}
use Rattle.vault_words.specs.Jobs.{Job, Serving, Recovering, serve, make, sync, recover, AsksFor, IsRefused}
use Rattle.sync_client.specs.Messages.{sync_messages}
use Rattle.sync_client.specs.Talk.{HasTalked}
use Rattle.sync_client.specs.declared.sync_err.SyncErr.{SyncErr}
use Rattle.sync_client.specs.declared.sync_err.SyncErr.TheVariants as sync_errs
use Rattle.vault_top.specs.declared.cause.Cause.TheVariants as causes
use Rattle.vault_top.specs.Span.{Course, course, SourceView, SinkView, Views}
use Rattle.vault_top.specs.Report.{line, TakesPart}
use Rattle.vault_top.specs.Ending.{Ending, refused, status_of, HasRun, IsReported, SaysInUse, SaysNoSocket}
use Rattle.shared_tree.specs.declared.workers.Worker.{Worker}
use Rattle.vault_top.specs.declared.program.Ended.{Ended}
use Rattle.vaultd.specs.declared.error.StartErr.{StartErr}
use Rattle.vaultd.specs.declared.error.StartErr.TheVariants.{Words, Memory}
use Rattle.vaultd.specs.declared.starting.Started.{Started}
use Rattle.vaultd.specs.declared.syncing.SyncEnd.{SyncEnd}
use Rattle.vaultd.specs.declared.syncing.SyncEnd.TheVariants.{Done, Refused, Failed}

-- the folder at a path, as it is found: it tells nothing, though no flush failed
abbrev pub IsAsFound : {H : Type 0} → List ℕ → Holding H → Type 0
IsAsFound path folder = (folder.base ≡ path) × (folder.tells ≡ false) × (folder.failed ≡ false)

-- the folder at a path, once what an earlier run may have left off the disk was flushed: it tells, unless a flush failed
abbrev pub IsSettled : {H : Type 0} → List ℕ → Holding H → Type 0
IsSettled path folder = (folder.base ≡ path) × (folder.tells ≡ not folder.failed)

-- the folder at a path, by whether it is only to be read
abbrev pub IsFolderAt : {H : Type 0} → Bool → List ℕ → Holding H → Type 0
IsFolderAt true path folder = IsAsFound path folder
IsFolderAt false path folder = IsSettled path folder

-- a listener over the standard streams that nobody has asked yet: its one link is still to come
abbrev pub HasLink : {R L I : Type 0} → HostListen R L I → Type 0
HasLink listen = IsSome (link_to_come listen)

-- a listener at a socket, of which no failure is counted
abbrev pub IsListening : {N : Type 0} → (N → ℕ) → (N → Socket) → Socket → N → Type 0
IsListening faults socket_of socket listen = (faults listen ≡ 0) × (socket_of listen ≡ socket)

-- the program was run with these words on such a folder, with so many workers, whose listeners were such as they are made, and with
-- such a sink, and the status is that run's
pub record IsRunOf {D N C E K O : Type 0} (views : Views D N C E K) (IsFolder : D → Type 0) (IsNew : N → Type 0) (sink_of : O → SinkView) (words : List (List ℕ)) (count status : ℕ) : Type 0 where
  pub folder : D
  pub opened : IsFolder folder
  pub secret : Course SourceView
  pub second : Option ℕ
  pub workers : List (Worker N E K)
  pub many : length workers ≡ count
  pub new : AllByRecursion (λ worker. IsNew worker.listener) workers
  pub workers_after : List (Worker N E K)
  pub before : O
  pub after : O
  pub ended : Ended D
  pub run : HasRun views words secret second folder workers workers_after (course sink_of before after) ended
  pub status_is : status ≡ ended.status

-- how many workers there are at a socket if so many clients are to be served at once: 1 to 64
abbrev pub workers_for : ℕ → ℕ
workers_for at_once = max 1 (min at_once 64)

-- the program was run over the standard streams, and no file was removed
pub record IsOverStreams {D N C E K O : Type 0} (views : Views D N C E K) (IsFolder : D → Type 0) (IsNew : N → Type 0) (sink_of : O → SinkView) (words : List (List ℕ)) (started : Started) : Type 0 where
  pub run : IsRunOf views IsFolder IsNew sink_of words 1 started.status
  pub removed : started.removed ≡ None

-- that another server has the vault was reported; or that its folder failed, as one does that takes no write behind a file's first byte: only where it was to be
-- changed too
abbrev pub SaysTurnedAway : Bool → Course SinkView → ℕ → Type 0
SaysTurnedAway read_only sink status = SaysInUse sink status ⊎ ((read_only ≡ false) × IsReported sink (refused causes.FolderFault) status)

-- the vault isn't served: why was reported, nothing was unlocked, and the socket's file was removed, if it is bound at one
pub record IsTurnedAway {O : Type 0} (read_only : Bool) (sink_of : O → SinkView) (file : Option (List ℕ)) (started : Started) : Type 0 where
  pub before : O
  pub after : O
  pub reported : SaysTurnedAway read_only (course sink_of before after) started.status
  pub removed : option_map string_bytes started.removed ≡ file

-- the program was run at a socket that is bound, and then the file that this is bound at was removed, if it is bound at one, and no other
pub record IsServedAt {D N C E K O : Type 0} (views : Views D N C E K) (IsFolder : D → Type 0) (IsAt : Socket → N → Type 0) (sink_of : O → SinkView) (words : List (List ℕ)) (at_once : ℕ) (socket : Socket) (started : Started) : Type 0 where
  pub run : IsRunOf views IsFolder (IsAt socket) sink_of words (workers_for at_once) started.status
  pub removed : option_map string_bytes started.removed ≡ file_of socket

-- a socket isn't bound: that was reported, and nothing else was done
pub record IsUnbound {O : Type 0} (sink_of : O → SinkView) (socket : Socket) (started : Started) : Type 0 where
  pub unbound : is_bound socket ≡ false
  pub before : O
  pub after : O
  pub reported : SaysNoSocket (course sink_of before after) started.status
  pub removed : started.removed ≡ None

-- a socket is bound: the vault was served there, or that was turned away
abbrev pub IsRunAtBound : {D N C E K O : Type 0} → Views D N C E K → (D → Type 0) → (Socket → N → Type 0) → (O → SinkView) → List (List ℕ) → Bool → ℕ → Socket → Started → Type 0
IsRunAtBound views IsFolder IsAt sink_of words read_only at_once socket started =
    (is_bound socket ≡ true) × (IsServedAt views IsFolder IsAt sink_of words at_once socket started ⊎ IsTurnedAway read_only sink_of (file_of socket) started)

abbrev pub IsRunAtSocket : {D N C E K O : Type 0} → Views D N C E K → (D → Type 0) → (Socket → N → Type 0) → (O → SinkView) → List (List ℕ) → Bool → ℕ → Socket → Started → Type 0
IsRunAtSocket views IsFolder IsAt sink_of words read_only at_once socket started =
    IsRunAtBound views IsFolder IsAt sink_of words read_only at_once socket started ⊎ IsUnbound sink_of socket started

-- it was so at a socket at the place that an address names
pub record IsRunAtAddress {D N C E K O : Type 0} (views : Views D N C E K) (IsFolder : D → Type 0) (IsAt : Socket → N → Type 0) (sink_of : O → SinkView) (words : List (List ℕ)) (address : List ℕ) (read_only : Bool) (at_once : ℕ) (started : Started) : Type 0 where
  pub socket : Socket
  pub named : IsNamedBy address (address_of socket)
  pub run : IsRunAtSocket views IsFolder IsAt sink_of words read_only at_once socket started

-- A vault was to be served as these words say: with the address `-` over the standard streams, and its report went nowhere, standard output being the client's
-- then; with another at a socket, and its report went to standard output; and without one over the streams, where it is refused. Only a vault that is to be
-- changed too is settled before.
abbrev pub IsServing : {D N C M L E K Null Std : Type 0} → Views D N C E K → Views D M L E K → (Bool → List ℕ → D → Type 0) → (N → Type 0) → (Socket → M → Type 0) → (Null → SinkView) → (Std → SinkView) → List (List ℕ) → Serving → Started → Type 0
IsServing streams sockets IsFolder IsStream IsAt null_of std_of words s started =
    ((s.address ≡ codes "-") × (IsOverStreams streams (IsFolder s.read_only s.dir) IsStream null_of words started ⊎ IsTurnedAway s.read_only null_of None started))
    ⊎ ((s.address ≡ []) × IsOverStreams streams (IsFolder true s.dir) IsStream std_of words started)
    ⊎ ((s.address ≡ codes "-" → ⊥) × (s.address ≡ [] → ⊥) × IsRunAtAddress sockets (IsFolder s.read_only s.dir) IsAt std_of words s.address s.read_only s.at_once started)

-- ---- one sync

-- what became of a sync, by its talk with the server
abbrev pub IsEndOf : {U : Type 0} → Result U SyncErr → SyncEnd → Type 0
IsEndOf (Ok done) end = end ≡ Done
IsEndOf (Err sync_errs.Refused) end = end ≡ Refused
IsEndOf (Err error) end = end ≡ Failed

-- a link to a server had this talk, which sends the messages of a sync
pub record IsSyncedOver {L : Type 0} (link_of : L → LinkView) (end : SyncEnd) : Type 0 where
  pub before : L
  pub after : L
  pub result : Result (Unit {0}) SyncErr
  pub talked : HasTalked sync_messages (link_of before) (link_of after) result
  pub is : IsEndOf result end

abbrev pub sync_text : SyncEnd → List ℕ
sync_text Done = line (codes "synced")
sync_text Refused = line (codes "sync refused")
sync_text Failed = line (codes "device fault: server")

abbrev pub sync_status : SyncEnd → ℕ
sync_status Done = 0
sync_status Refused = 4
sync_status Failed = 4

-- what became of it was reported whole; or the sink failed, and took a part from the line's front
abbrev pub SaysSync : Course SinkView → SyncEnd → ℕ → Type 0
SaysSync sink end status =
    ((status ≡ sync_status end) × Changes sink.before.taken sink.after.taken (λ old new. new ≡ old ++ sync_text end))
    ⊎ (Rose sink.before.faults sink.after.faults × (status ≡ 4) × Changes sink.before.taken sink.after.taken (TakesPart (sync_text end)))

-- a server was asked for one sync, or couldn't be reached, and what became of it was reported
pub record IsSyncing {L O : Type 0} (link_of : L → LinkView) (sink_of : O → SinkView) (started : Started) : Type 0 where
  pub end : SyncEnd
  pub asked : IsSyncedOver link_of end ⊎ (end ≡ Failed)
  pub before : O
  pub after : O
  pub reported : SaysSync (course sink_of before after) end started.status
  pub removed : started.removed ≡ None

-- ---- a journal that is shown or closed

-- what was found or done was reported; nothing is said here of which
pub record IsRecovering (started : Started) : Type 0 where
  pub removed : started.removed ≡ None

-- ---- a start

-- the folder of a job that has no clients: only making one has any
abbrev pub dir_of : Job → List ℕ
dir_of (make m) = m.dir
dir_of job = []

-- neither serving, nor a sync, nor the journal
abbrev pub IsOther : Job → Type 0
IsOther (serve s) = ⊥
IsOther (sync address) = ⊥
IsOther (recover r) = ⊥
IsOther job = ⊤

-- The program was started with these words: a vault was to be served, a server was asked for one sync, an open journal was looked at, or the program was run over the standard streams for
-- another job, or since the words are refused.
abbrev pub IsStarted : {D N C M L E K Null Std : Type 0} → Views D N C E K → Views D M L E K → (Bool → List ℕ → D → Type 0) → (N → Type 0) → (Socket → M → Type 0) → (Null → SinkView) → (Std → SinkView) → List (List ℕ) → Started → Type 0
IsStarted streams sockets IsFolder IsStream IsAt null_of std_of words started =
    ((s : Serving) × AsksFor (serve s) words × IsServing streams sockets IsFolder IsStream IsAt null_of std_of words s started)
    ⊎ ((to : List ℕ) × AsksFor (sync to) words × IsSyncing sockets.link std_of started)
    ⊎ ((r : Recovering) × AsksFor (recover r) words × IsRecovering started)
    ⊎ ((job : Job) × AsksFor job words × IsOther job × IsOverStreams streams (IsFolder true (dir_of job)) IsStream std_of words started)
    ⊎ (IsRefused words × IsOverStreams streams (IsFolder true []) IsStream std_of words started)

-- what a start that failed is, of the job's endings
abbrev pub ending_of : StartErr → Ending
ending_of Words = refused causes.Words
ending_of Memory = refused causes.Memory

-- the exit status after a start: the run's, or that of why there was none
abbrev pub exit_of : Result Started StartErr → ℕ
exit_of (Ok started) = started.status
exit_of (Err cause) = status_of (ending_of cause)

-- the status if the descriptors 0 to 2 can't be held, the host having no /dev/null
abbrev pub fault_status : ℕ
fault_status = 4

-- a status is that after a start, of whose Ok P holds; or that of a host without /dev/null, where nothing is started
abbrev pub IsExit : (Started → Type 0) → ℕ → Type 0
IsExit P status = ((start : Result Started StartErr) × IfOk start P × (status ≡ exit_of start)) ⊎ (status ≡ fault_status)
