-- What the program is given that is sound, that nothing failed, and what it comes to. To serve, the words ask for it, and secret and disk are told, of which
-- the one unlocks the other; to make, the words ask for it, and the secret has a password and the folder is empty, both told.
use Rattle.std.specs.Prelude.{◌≡◌, ◌⊎◌, ℕ, List, [], ◌∷◌, take, true, Option, Some, Ok, IsSome, IsSomeAnd, ⊤}
use Rattle.std.specs.List.{AllByRecursion}
use Rattle.outside.specs.Calls.{Rose, Told}
use Rattle.outside.specs.Disk.{Disk, Path, IsFolder}
use Rattle.outside.specs.Images.{Log, log_at, now, disk_in}
use Rattle.outside.specs.Views.{LinkView}
use Rattle.vault_keys.specs.Keys.{KeyPair}
use Rattle.tree_model.specs.Rows.{Rows}
use Rattle.tree_model.specs.History.{Made, Entry, Origin, entry_at, rows_at, tally_of}
use Rattle.tree_model.specs.Laws.{AreStepped, IsPlaceTaken}
use Rattle.tree_loading.specs.Format.{sealing_of}
use Rattle.store_laws.specs.Store.{IsPlacedOn}
use Rattle.store_laws.specs.Places.{AreUnmarked, MayBeTaken}
use Rattle.session_server.specs.declared.ending.SessionEnd.{SessionEnd}
use Rattle.session_server.specs.declared.ending.SessionEnd.TheVariants as ends
use Rattle.session_server.specs.Served.{ServedLink}
use Rattle.session_server.specs.Whole.{IsWhole}
use Rattle.session_server.specs.Whole as links
use Rattle.clap.specs.Words.{Text}
use Rattle.masterkey_file.specs.Password.{password_of}
use Rattle.unlocking.specs.FromFiles.{UnlockedVault}
use Rattle.unlocking.specs.FromFolder.{unlock_on}
use Rattle.unlocking.specs.declared.from_folder.SecretKind.{SecretKind}
use Rattle.vault_words.specs.Jobs.{Making, Serving, Demonstration, serve, make, demo}
use Rattle.chunk_journal.specs.Journal.{IsAlike, IsClosed, RecoversTo}
use Rattle.chunk_journal.specs.Opening.{IsDamagedAt, LeavesFolder}
use Rattle.vault_make.specs.Vault.{IsEmpty}
use Rattle.tree_loading.specs.Clear.{HasTooMany, root_folder}
use Rattle.vault_top.specs.declared.cause.Cause.TheVariants.{Words, Memory}
use Rattle.vault_top.specs.Words.{Ask, kind_of}
use Rattle.vault_top.specs.Span.{Course, SourceView, SinkView, Views, WorkerSpan, Span, span_of}
use Rattle.vault_top.specs.Served.{Share, HasHistory}
use Rattle.vault_top.specs.ReadOnly.{AreSteppedReadings, HasReadings}
use Rattle.outside_mem.specs.Links.{Ends}
use Rattle.vault_top.specs.Demonstrated.{own_span, own_views}
use Rattle.vault_top.specs.Ending.{Ending, refused, help_said, version_said, made, no_memory_to_serve, served, listener_fault, closing_fault, no_memory_to_report, only_read, whole, a_listener_failed, not_reported, not_shared, demonstrated, SomeFailed, IsDemonstration, HasReason, HasRun}
use Rattle.shared_tree.specs.declared.workers.Worker.{Worker}
use Rattle.vault_top.specs.declared.program.Ended.{Ended}

-- The disk is that of a vault which the secret unlocks. Its journal isn't damaged; and what it recovers to, whatever the journal's own files hold then, has a folder for
-- the root and no more nodes than a tree may have.
pub record IsVaultFor (kind : SecretKind) (secret : List ℕ) (disk : Disk) : Type 0 where
  pub vault : UnlockedVault
  pub unlocks : unlock_on kind secret disk ≡ Ok vault
  pub undamaged : (at : ℕ) → IsDamagedAt disk at ⊎ LeavesFolder disk at → ⊥
  pub root : (found after : Disk) → RecoversTo disk found → IsAlike found after → IsFolder after (root_folder vault.keys)
  pub few : (found after : Disk) (n : ℕ) → RecoversTo disk found → IsAlike found after → HasTooMany vault.keys (Some after) n → ⊥

pub record IsSound {C : Type 0} (span : Span C) : Type 0 where
  pub serving : Serving
  pub words : Ask span.words (serve serving)
  pub vault : IsSomeAnd span.given.secret.before.left (λ secret.
      IsSomeAnd (disk_in span.given.folder.before.log) (IsVaultFor (kind_of serving) secret))
  -- what is only to be read has nothing to be done first
  pub closed : serving.read_only ≡ true → IsSomeAnd (disk_in span.given.folder.before.log) IsClosed

-- no count of faults rose
pub record IsFaultless {C : Type 0} (span : Span C) : Type 0 where
  pub secret : Rose span.given.secret.before.faults span.given.secret.after.faults → ⊥
  pub folder : Rose span.given.folder.before.faults span.given.folder.after.faults → ⊥
  pub listeners : SomeFailed span.workers → ⊥

-- the vault was served, or memory ran out
abbrev pub IsServedOrFull : Ending → Type 0
IsServedOrFull (refused cause) = cause ≡ Memory
IsServedOrFull (help_said topic) = ⊥
IsServedOrFull version_said = ⊥
IsServedOrFull made = ⊥
IsServedOrFull no_memory_to_serve = ⊤
IsServedOrFull (served ends) = ⊤
IsServedOrFull (listener_fault ends) = ⊥
IsServedOrFull (closing_fault ends) = ⊥
IsServedOrFull (no_memory_to_report ends) = ⊤
IsServedOrFull (only_read (whole ends)) = ⊤
IsServedOrFull (only_read (a_listener_failed ends)) = ⊥
IsServedOrFull (only_read (not_reported ends)) = ⊤
IsServedOrFull (only_read not_shared) = ⊤
IsServedOrFull (demonstrated text) = ⊥

-- ---- making

pub record IsSoundToMake {C : Type 0} (span : Span C) : Type 0 where
  pub making : Making
  pub words : Ask span.words (make making)
  pub secret : IsSomeAnd span.given.secret.before.left (λ secret. IsSome (password_of secret))
  pub empty : IsSomeAnd span.given.folder.before.log (λ log. IsEmpty (now log))

-- some random source failed
abbrev pub SomeRandomFailed : {C : Type 0} → List (WorkerSpan C) → Type 0
SomeRandomFailed [] = ⊥
SomeRandomFailed (worker ∷ workers) = Rose worker.entropy.before.faults worker.entropy.after.faults ⊎ SomeRandomFailed workers

-- the vault was made, or memory ran out
abbrev pub IsMadeOrFull : Ending → Type 0
IsMadeOrFull (refused cause) = cause ≡ Memory
IsMadeOrFull (help_said topic) = ⊥
IsMadeOrFull version_said = ⊥
IsMadeOrFull made = ⊤
IsMadeOrFull no_memory_to_serve = ⊥
IsMadeOrFull (served ends) = ⊥
IsMadeOrFull (listener_fault ends) = ⊥
IsMadeOrFull (closing_fault ends) = ⊥
IsMadeOrFull (no_memory_to_report ends) = ⊥
IsMadeOrFull (only_read reading) = ⊥
IsMadeOrFull (demonstrated text) = ⊥

-- ---- demonstrating

-- a demonstration was held, or memory ran out
abbrev pub IsHeldOrFull : Ending → Type 0
IsHeldOrFull (refused cause) = cause ≡ Memory
IsHeldOrFull (help_said topic) = ⊥
IsHeldOrFull version_said = ⊥
IsHeldOrFull made = ⊥
IsHeldOrFull no_memory_to_serve = ⊥
IsHeldOrFull (served ends) = ⊥
IsHeldOrFull (listener_fault ends) = ⊥
IsHeldOrFull (closing_fault ends) = ⊥
IsHeldOrFull (no_memory_to_report ends) = ⊥
IsHeldOrFull (only_read reading) = ⊥
IsHeldOrFull (demonstrated text) = ⊤

-- ---- a whole run

-- the job is sound: a vault is served that is, one is made in an empty folder by random sources that don't fail, or a demonstration is held
abbrev pub IsSoundJob : {C : Type 0} → Span C → Type 0
IsSoundJob span = IsSound span ⊎ (IsSoundToMake span × ¬ (SomeRandomFailed span.workers)) ⊎ ((demonstration : Demonstration) × Ask span.words (demo demonstration))

-- a run with a sound job, in which nothing failed, the sink neither
pub record IsSoundRun {D N C E K : Type 0} (views : Views D N C E K) (words : List (List ℕ)) (secret : Course SourceView) (second : Option ℕ) (folder : D) (workers workers' : List (Worker N E K)) (sink : Course SinkView) (ended : Ended D) : Type 0 where
  pub run : HasRun views words secret second folder workers workers' sink ended
  pub sound : IsSoundJob (span_of views words secret second folder run.kept workers workers' ended.store)
  pub faultless : IsFaultless (span_of views words secret second folder run.kept workers workers' ended.store)
  pub written : Rose sink.before.faults sink.after.faults → ⊥

-- ---- words that are refused

-- the words were bad, or memory ran out
abbrev pub IsBadOrFull : Ending → Type 0
IsBadOrFull (refused cause) = (cause ≡ Words) ⊎ (cause ≡ Memory)
IsBadOrFull (help_said topic) = ⊥
IsBadOrFull version_said = ⊥
IsBadOrFull made = ⊥
IsBadOrFull no_memory_to_serve = ⊥
IsBadOrFull (served ends) = ⊥
IsBadOrFull (listener_fault ends) = ⊥
IsBadOrFull (closing_fault ends) = ⊥
IsBadOrFull (no_memory_to_report ends) = ⊥
IsBadOrFull (only_read reading) = ⊥
IsBadOrFull (demonstrated text) = ⊥

-- ---- sessions and replies

-- if the input of a link is whole messages and no call of it failed, its session is done and nothing is left, or memory ran out before a byte was read
abbrev pub IsDoneOrFull : LinkView → LinkView → SessionEnd → Type 0
IsDoneOrFull before after end = ((end ≡ ends.Done) × (after.left ≡ Some [])) ⊎ ((end ≡ ends.Memory) × (after.left ≡ before.left))

abbrev pub IsServedOut : {C : Type 0} → (C → LinkView) → ServedLink C → Type 0
IsServedOut view link = IsWhole (view link.came).left → links.IsFaultless (view link.came) (view link.given) → IsDoneOrFull (view link.came) (view link.given) link.end

-- the place that an entry names as taken, on a disk by a tree which has these rows, is one that may be taken if nothing is foreign
pub record IsRightlyTaken (keys : KeyPair) (disk : Disk) (rows : Rows) (made : Made) (path : Path) : Type 0 where
  pub placed : IsPlacedOn keys disk rows made
  pub may : MayBeTaken (sealing_of keys) disk placed.live made.asked.request made.drawn path

-- it is so of each entry that is answered so, if no row from which the history begins has a mark of foreign entries
abbrev pub AreRightlyTaken : KeyPair → Rows → Origin → List Entry → Log → Type 0
AreRightlyTaken keys rows origin entries log = AreUnmarked rows → (i : ℕ) (entry : Entry) → entry_at entries i ≡ Some entry
    → (taken : IsPlaceTaken (rows_at rows entries i) entry.made)
    → IsRightlyTaken keys (now (log_at log (tally_of origin (take i entries)).moment)) (rows_at rows entries i) entry.made taken.path

-- Each request was answered as the step says, or that its place is taken, or that memory ran out where it may; a place that is taken may be; and each
-- session was served out.
pub record IsServedSoundly {C : Type 0} (view : C → LinkView) {span : Span C} {keys : KeyPair} {shares : List (Share C)} (history : HasHistory span keys shares) : Type 0 where
  pub stepped : AreStepped history.rows history.origin history.entries
  pub rightly : Told span.given.folder.after.log (AreRightlyTaken keys history.rows history.origin history.entries)
  pub sessions : AllByRecursion (λ share. AllByRecursion (IsServedOut view) share.links) shares

-- the same of a vault that was only read: each request that changes nothing was answered as the step says, or that memory ran out where it may; and each session was
-- served out
pub record IsReadSoundly {C : Type 0} (view : C → LinkView) {span : Span C} {keys : KeyPair} {shares : List (Share C)} (readings : HasReadings span keys shares) : Type 0 where
  pub stepped : AreSteppedReadings readings.rows readings.entries
  pub sessions : AllByRecursion (λ share. AllByRecursion (IsServedOut view) share.links) shares

-- no count of faults of the folder or of a random source rose
pub record HasNoFault {C : Type 0} (span : Span C) : Type 0 where
  pub folder : Rose span.given.folder.before.faults span.given.folder.after.faults → ⊥
  pub random : SomeRandomFailed span.workers → ⊥

-- what a demonstration was given and left: its own vault, links and random sources
abbrev pub held_span : {C : Type 0} (span : Span C) (text : List ℕ) → IsDemonstration span text → Span Ends
held_span span text is = own_span is.demonstration is.held.secret is.held.folder is.held.kept is.held.workers_left is.closed

-- a demonstration's vault was served soundly to its clients, if none of its own objects failed
abbrev pub IsHeldSoundly : {C : Type 0} (span : Span C) (text : List ℕ) → IsDemonstration span text → Type 0
IsHeldSoundly span text is = HasNoFault (held_span span text is) → IsServedSoundly own_views.link is.held.sessions.served.history

-- of a run that served a vault, that of a demonstration among them, whatever became of its report
abbrev pub HasServedSoundly : {D N C E K : Type 0} (views : Views D N C E K) (span : Span C) (ending : Ending) → HasReason views span ending → Type 0
HasServedSoundly views span (refused cause) reason = ⊤
HasServedSoundly views span (help_said topic) reason = ⊤
HasServedSoundly views span version_said reason = ⊤
HasServedSoundly views span made reason = ⊤
HasServedSoundly views span no_memory_to_serve reason = ⊤
HasServedSoundly views span (served ends) reason = IsServedSoundly views.link reason.0.sessions.history
HasServedSoundly views span (listener_fault ends) reason = ⊤
HasServedSoundly views span (closing_fault ends) reason = ⊤
HasServedSoundly views span (no_memory_to_report ends) reason = IsServedSoundly views.link reason.0.sessions.history
HasServedSoundly views span (only_read (whole ends)) reason = IsReadSoundly views.link reason.sessions.readings
HasServedSoundly views span (only_read (a_listener_failed ends)) reason = ⊤
HasServedSoundly views span (only_read (not_reported ends)) reason = IsReadSoundly views.link reason.sessions.readings
HasServedSoundly views span (only_read not_shared) reason = ⊤
HasServedSoundly views span (demonstrated text) reason = IsHeldSoundly span text reason
