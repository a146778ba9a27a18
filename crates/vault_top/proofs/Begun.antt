-- From where the history of all sessions begins.
use Rattle.std.proofs.Common.{◌≡◌, ℕ, ◌≤◌, List, [], Option, Some, None, refl, sym, ap, subst, ◌∙◌, arith}
use Rattle.outside.specs.Calls.{Told, Changes}
use Rattle.outside.specs.Images.{Log, moment, now}
use Rattle.outside.specs.Views.{FolderView}
use Rattle.vault_keys.specs.Keys.{KeyPair}
use Rattle.tree_model.specs.Rows.{Rows}
use Rattle.tree_model.specs.History.{Origin}
use Rattle.shared_tree.specs.Turns.{StandsFor}
use Rattle.shared_tree.specs.Joined.{AreSince}
use Rattle.shared_tree.specs.declared.workers.Worker.{Worker}
use Rattle.deeds.specs.Deeds.{LogGoesOn}
use Rattle.store_laws.specs.Store.{IsStoreOf, moment_of}
use Rattle.store_laws.proofs.Placed.{goes_later}
use Rattle.store_laws.specs.Ends.{IsFoundClear}
use Rattle.vault_store.specs.Open.{OpenVault}
use Rattle.vault_store.specs.ReadOnly.{ReadOnlyVault}
use Rattle.unlocking.specs.FromFiles.{UnlockedVault}
use Rattle.unlocking.specs.declared.from_folder.SecretKind.{SecretKind}
use Rattle.vault_top.specs.Span.{Course, Given, SourceView, Views, worker_spans, given_of}
use Rattle.vault_top.specs.Served.{entropy_before}
use Rattle.vault_top.specs.Opening.{IsUnlocked, IsUnlockedStore, IsUnlockedToRead}
use Rattle.vault_top.specs.Sharing.{IsSharedStore, AreBeginnings, IsAlone}
use Rattle.vault_top.specs.ReadOnly.{IsSharedView}
use Rattle.vault_top.proofs.Callers.{since_at}

-- ---- moments

moment_rises : (found now_log : Option Log) → Changes found now_log LogGoesOn → Told found (λ log. moment log ≤ moment_of now_log)
moment_rises None None grown = tt
moment_rises None (Some b) grown = absurd grown
moment_rises (Some a) None grown = absurd grown
moment_rises (Some a) (Some b) grown = goes_later a b grown

moment_stays : (found now_log : Option Log) → now_log ≡ found → Told found (λ log. moment log ≤ moment_of now_log)
moment_stays None now_log same = tt
moment_stays (Some log) now_log same = subst (λ (o : Option Log). moment log ≤ moment_of o) (sym same) (omega arith)

-- ---- the beginning

-- the counts at which the history of a vault begins that was opened over this folder, and whose log is this now
begin_of : {D N C E K : Type 0} → Views D N C E K → D → List (Worker N E K) → Option Log → Origin
begin_of views folder workers log = record {
  folder_faults = (views.folder folder).faults;
  entropy_faults = entropy_before (worker_spans views workers workers);
  moment = moment_of log;
}

-- counts from which a history may begin
starts_at : {D N C E K : Type 0} {start : Rows → Origin → Type 0} {views : Views D N C E K} {folder : D} {workers : List (Worker N E K)} → AreBeginnings start views folder workers → (rows : Rows) (log : Option Log)
    → Told (views.folder folder).log (λ l. moment l ≤ moment_of log) → start rows (begin_of views folder workers log)
unfolding begin_of
starts_at {views = views} {folder = folder} {workers = workers} starts rows log later =
    starts.all rows (begin_of views folder workers log) (record { folder_faults = refl; entropy_faults = refl; moment = later })

-- what a vault was unlocked by, under whose keys a history begins
record UnlockedOver (given : Given) (kind : SecretKind) (keys : KeyPair) (rows : Rows) : Type 0 where
  vault : UnlockedVault
  unlocked : IsUnlocked given kind vault
  now_at : ℕ
  second_is : Told given.second (λ s. now_at ≡ s)
  keys_are : keys ≡ vault.keys
  clear : Told given.folder.before.log (λ log. IsFoundClear vault.keys (now log) now_at rows)

since_unlocked : {since : FolderView → KeyPair → Rows → Type 0} (given : Given) {kind : SecretKind} {keys : KeyPair} {rows : Rows} → IsAlone since kind given.folder.before given.secret.before given.second → UnlockedOver given kind keys rows
    → since given.folder.before keys rows
since_unlocked given {keys = keys} {rows = rows} alone is = alone.all given.folder.before keys rows (record {
  folder_is = refl;
  vault = is.vault;
  gave = is.unlocked.gave;
  keys_are = sym is.keys_are;
  unlocked = is.now_at;
  clear = subst (λ (k : KeyPair). Told given.folder.before.log (λ log. IsFoundClear k (now log) is.now_at rows)) (sym is.keys_are) is.clear;
  at_second = is.second_is;
})

module _ {D N C E K : Type 0} {start : Rows → Origin → Type 0} {since : FolderView → KeyPair → Rows → Type 0} {views : Views D N C E K} {kind : SecretKind} {folder : D} {workers : List (Worker N E K)} {secret : Course SourceView} {second : Option ℕ}
    (starts : AreBeginnings start views folder workers) (alone : IsAlone since kind (views.folder folder) secret.before second) where
  -- the store that was opened stands for no entries yet, from a beginning on
  pub begun : {store : OpenVault D} → IsUnlockedStore views.folder (given_of views.folder secret second folder folder) kind folder store
      → StandsFor start (λ (s : OpenVault D) rows origin history. IsSharedStore views.folder since s rows origin history) store []
  unfolding begin_of
  begun {store} unlocked =
      let opened = unlocked.opened in
      let origin : Origin = begin_of views folder workers (views.folder store.folder).log in
      let faults : (views.folder folder).faults ≤ (views.folder store.folder).faults = omega (arith, unlocked.read.faults, unlocked.later) in
      let stands : IsStoreOf (views.folder folder).log store.store (views.folder store.folder) opened.rows origin [] =
      subst (λ (log : Option Log). IsStoreOf log store.store (views.folder store.folder) opened.rows origin []) unlocked.read.log (opened.stands origin faults refl) in
      record {
        rows = opened.rows;
        origin = origin;
        begins = starts_at starts opened.rows (views.folder store.folder).log (moment_rises (views.folder folder).log (views.folder store.folder).log stands.grown);
        right = record {
          start = views.folder folder;
          begins = since_unlocked (given_of views.folder secret second folder folder) alone (record {
            vault = unlocked.vault;
            unlocked = unlocked.unlocked;
            now_at = unlocked.now;
            second_is = unlocked.second;
            keys_are = opened.keys_are;
            clear = subst (λ (l : Option Log). Told l (λ log. IsFoundClear unlocked.vault.keys (now log) unlocked.now opened.rows)) unlocked.read.log opened.clear;
          });
          stands = stands;
          faults = faults;
        };
      }

  -- and so does a vault that was opened to be read
  pub begun_to_read : {vault : ReadOnlyVault D} → IsUnlockedToRead views.folder (given_of views.folder secret second folder vault.folder) kind folder vault
      → StandsFor start (λ (v : ReadOnlyVault D) rows origin history. IsSharedView views.folder since v rows origin history) vault []
  unfolding begin_of
  begun_to_read {vault} unlocked =
      let opened = unlocked.opened in
      let origin : Origin = begin_of views folder workers (views.folder vault.folder).log in
      record {
        rows = opened.rows;
        origin = origin;
        begins = starts_at starts opened.rows (views.folder vault.folder).log (moment_stays (views.folder folder).log (views.folder vault.folder).log opened.read.log);
        right = record {
          start = views.folder folder;
          begins = since_unlocked (given_of views.folder secret second folder vault.folder) alone (record {
            vault = unlocked.unlocked_vault;
            unlocked = unlocked.unlocked;
            now_at = unlocked.now;
            second_is = unlocked.second;
            keys_are = opened.keys_are;
            clear = opened.clear;
          });
          stands = opened.stands origin opened.read.faults refl;
          read = opened.read;
        };
      }

-- no random source has fewer faults than there
pub begun_since : {D N C E K : Type 0} {start : Rows → Origin → Type 0} {views : Views D N C E K} {folder : D} {workers : List (Worker N E K)}
    → AreBeginnings start views folder workers → (rows : Rows) (origin : Origin) → start rows origin → AreSince (λ (e : E). (views.entropy e).faults) origin 0 workers
begun_since {views = views} {workers = workers} starts rows origin begins =
    let is = (starts.only rows origin begins).entropy_faults in
    since_at views origin 0 workers (λ n i same.
    let e : n ≡ i = omega arith in
    ap (λ (faults : ℕ → ℕ). faults n) is ∙ ap (λ (m : ℕ). entropy_before (worker_spans views workers workers) m) e)
