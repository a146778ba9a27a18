-- Sessions over an open vault that have ended.
use Rattle.std.specs.Prelude.{◌≡◌, ◌⊎◌, ℕ, List, length, Option, IsSome, IsNone, IsOk, IsErr}
use Rattle.std.specs.List.{AllByRecursion}
use Rattle.outside.specs.Calls.{Rose}
use Rattle.vault_keys.specs.Keys.{KeyPair}
use Rattle.tree_model.specs.History.{tally_of}
use Rattle.session_server.specs.declared.ending.SessionEnd.{SessionEnd}
use Rattle.session_server.specs.declared.ending.SessionEnd.TheVariants.{Done}
use Rattle.unlocking.specs.FromFiles.{UnlockedVault}
use Rattle.unlocking.specs.declared.from_folder.SecretKind.{SecretKind}
use Rattle.vault_top.specs.Span.{Views, WorkerSpan, Span}
use Rattle.vault_top.specs.Served.{Share, AreShares, all_ends, HasHistory, IsOnDisk}
use Rattle.vault_top.specs.Opening.{IsUnlocked}

-- The vault was served under the keys that were unlocked by a secret of this kind: of so many sessions, which so many workers share, each worker its share, which ended so, and
-- what was asked in them is one legal history, whatever the interleaving, of which a stop leaves a prefix. `MayStop` is what may have kept a worker from its share.
pub record IsServedTo {D N C E K : Type 0} (views : Views D N C E K) (span : Span C) (kind : SecretKind) (sessions sharing : ℕ) (MayStop : WorkerSpan C → Type 0) (ends : List SessionEnd) : Type 0 where
  pub vault : UnlockedVault
  pub unlocked : IsUnlocked span.given kind vault
  pub shares : List (Share C)
  pub are : AreShares views.link MayStop sessions sharing 0 span.workers shares
  pub history : HasHistory span vault.keys shares
  pub ended : all_ends shares ≡ ends

-- the entry of a history whose commit failed
abbrev pub stopped_in : {C : Type 0} {span : Span C} {keys : KeyPair} {shares : List (Share C)} → HasHistory span keys shares → Option ℕ
stopped_in history = (tally_of history.origin history.entries).stopped

-- the folder failed after the last entry, as what waited was committed
abbrev pub FailsAtTheEnd : {C : Type 0} {span : Span C} {keys : KeyPair} {shares : List (Share C)} → HasHistory span keys shares → Type 0
FailsAtTheEnd {span = span} history = Rose (tally_of history.origin history.entries).folder_faults span.given.folder.after.faults

-- closing the store was answered Ok: no commit failed, and all entries are on the disk
pub record IsClosedWell {C : Type 0} {span : Span C} {keys : KeyPair} {shares : List (Share C)} (history : HasHistory span keys shares) : Type 0 where
  pub closed : IsOk history.handed_back.closed.committed
  pub running : IsNone (stopped_in history)
  pub on_disk : IsOnDisk history

-- closing it failed: a commit had failed, in an entry, or what waited in the end couldn't be committed
pub record IsClosedBadly {C : Type 0} {span : Span C} {keys : KeyPair} {shares : List (Share C)} (history : HasHistory span keys shares) : Type 0 where
  pub failed : IsErr history.handed_back.closed.committed
  pub cause : IsSome (stopped_in history) ⊎ FailsAtTheEnd history

abbrev pub Never : {C : Type 0} → WorkerSpan C → Type 0
Never worker = ⊥

-- All sessions were held, and each one's input ended between two messages; no commit failed, and all entries, which are so many, are on the disk.
pub record IsServedWhole {D N C E K : Type 0} (views : Views D N C E K) (span : Span C) (kind : SecretKind) (sessions sharing entries : ℕ) : Type 0 where
  pub ends : List SessionEnd
  pub served : IsServedTo views span kind sessions sharing Never ends
  pub many : length ends ≡ sessions
  pub done : AllByRecursion (λ end. end ≡ Done) ends
  pub closed : IsClosedWell served.history
  pub count : entries ≡ length served.history.entries
