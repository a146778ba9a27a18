-- Why an unlocked vault isn't opened, and how one was that is only read.
use Rattle.std.proofs.Common.{◌≡◌, ◌⊎◌, ℕ, ◌≤◌, [], ◌∷◌, List, Option, Some, None, refl, sym, subst, ◌∙◌, arith}
use Rattle.outside.specs.Calls.{Rose, Told, Changes, TakesNext, next_of}
use Rattle.outside.specs.Disk.{Disk, IsFolder}
use Rattle.outside.specs.Images.{Log, disk_in, now}
use Rattle.outside.specs.Views.{FolderView}
use Rattle.outside.proofs.Told.{changed_by}
use Rattle.vault_keys.specs.Keys.{KeyPair}
use Rattle.session_server.proofs.Links.{rose_later}
use Rattle.deeds.specs.Deeds.{PlainDeed}
use Rattle.chunk_journal.specs.Journal.{HoldsBatch, IsClosed}
use Rattle.chunk_journal.specs.Opening.{HasOpened, IsDamagedAt, IsLeftApplied, LeavesFolder, StaysOpening}
use Rattle.crash_laws.specs.Opening.{IsSoundlyFound, OpeningRecovers}
use Rattle.store_laws.specs.Store.{shows_under}
use Rattle.store_laws.specs.Ends.{IsFoundClear}
use Rattle.store_laws.proofs.Ends.{failed_openings_recover}
use Rattle.unlocking.specs.FromFiles.{UnlockedVault}
use Rattle.tree_loading.specs.Clear.{HasTooMany, root_folder}
use Rattle.vault_store.specs.declared.opening.OpenErr.{OpenErr}
use Rattle.vault_store.specs.declared.opening.OpenErr.TheVariants.{Device, JournalDamaged, TooMany, NoRoot, Memory}
use Rattle.node_changes.specs.declared.tree.VaultTree.{VaultTree}
use Rattle.vault_store.specs.ReadOnly.{HasOpenedToRead, HasRefusedToRead}
use Rattle.vault_store.specs.declared.read_only.ReadOnlyErr.{ReadOnlyErr}
use Rattle.vault_top.specs.Span.{Course, SourceView, given_of, IsOnlyRead}
use Rattle.vault_top.specs.Opening.{IsClosedBy}

-- ---- what was told of the disk that the journal's opening left

with_many : (keys : KeyPair) (n : ℕ) (a b : Option Log) → Changes a b HasOpened → HasTooMany keys (disk_in b) n → Changes a b (λ old new. HasOpened old new × HasTooMany keys (Some (now new)) n)
with_many keys n None None opened many = tt
with_many keys n None (Some new) opened many = absurd opened
with_many keys n (Some old) None opened many = absurd opened
with_many keys n (Some old) (Some new) opened many = (opened, many)

with_disk : (P : Disk → Type 0) (a b : Option Log) → Changes a b HasOpened → Told (disk_in b) P → Changes a b (λ old new. HasOpened old new × P (now new))
with_disk P None None opened is = tt
with_disk P None (Some new) opened is = absurd opened
with_disk P (Some old) None opened is = absurd opened
with_disk P (Some old) (Some new) opened is = (opened, is)

-- ---- over the folder as unlocking left it

-- what Store::open says of an error
pub record IsErrorOf (keys : KeyPair) (before after : FolderView) (error : OpenErr) : Type 0 where
  pub damaged : (at : ℕ) → error ≡ JournalDamaged at → Told before.log (λ log. IsDamagedAt (now log) at ⊎ LeavesFolder (now log) at)
  pub left : (at : ℕ) → error ≡ JournalDamaged at → Changes before.log after.log IsLeftApplied
  pub too_many : (n : ℕ) → error ≡ TooMany n → HasTooMany keys (disk_in after.log) n
  pub no_root : error ≡ NoRoot → Told (disk_in after.log) (λ d. ¬ (IsFolder d (root_folder keys)))
  pub many_opened : (n : ℕ) → error ≡ TooMany n → Changes before.log after.log HasOpened
  pub bare_opened : error ≡ NoRoot → Changes before.log after.log HasOpened
  pub rose : error ≡ Device → Rose before.faults after.faults

pub closed_by : {D : Type 0} (view : D → FolderView) (secret : Course SourceView) (second : Option ℕ) (folder looked kept : D) (vault : UnlockedVault) (error : OpenErr)
    → IsOnlyRead (view folder) (view looked) → IsErrorOf vault.keys (view looked) (view kept) error
    → IsClosedBy (given_of view secret second folder kept) vault error
closed_by view secret second folder looked kept vault Device read is = rose_later _ _ _ read.faults (is.rose refl)
closed_by view secret second folder looked kept vault (JournalDamaged at) read is = record {
  damaged = subst (λ (l : Option Log). Told l (λ log. IsDamagedAt (now log) at ⊎ LeavesFolder (now log) at)) read.log (is.damaged at refl);
  left = subst (λ (l : Option Log). Changes l (view kept).log IsLeftApplied) read.log (is.left at refl);
}
closed_by view secret second folder looked kept vault (TooMany n) read is =
    with_many vault.keys n (view folder).log (view kept).log (subst (λ (l : Option Log). Changes l (view kept).log HasOpened) read.log (is.many_opened n refl)) (is.too_many n refl)
closed_by view secret second folder looked kept vault NoRoot read is =
    with_disk (λ d. ¬ (IsFolder d (root_folder vault.keys))) (view folder).log (view kept).log (subst (λ (l : Option Log). Changes l (view kept).log HasOpened) read.log (is.bare_opened refl)) (is.no_root refl)
closed_by view secret second folder looked kept vault Memory read is = tt

-- the second that the clock gave is the one that it was to give next
pub now_first : (a b : Option (ℕ → ℕ)) (second : ℕ) → TakesNext a b (second ∷ []) → Told (next_of a) (λ s. second ≡ s)
now_first None None second gave = tt
now_first None (Some after) second gave = absurd gave
now_first (Some before) None second gave = absurd gave
now_first (Some before) (Some after) second gave = sym (gave 0)

-- a stop recovers to what was found
pub recovers : (keys : KeyPair) (a b : Option Log) → Changes a b StaysOpening → Changes a b (λ old new. IsSoundlyFound (now old) → OpeningRecovers (shows_under (Some old) keys) old new)
recovers keys a b stays = changed_by a b StaysOpening (λ old new. IsSoundlyFound (now old) → OpeningRecovers (shows_under (Some old) keys) old new) (λ old new h. failed_openings_recover keys old new h) stays

-- ---- of a folder that is only read

pub read_on : {before looked after : FolderView} → IsOnlyRead before looked → IsOnlyRead looked after → IsOnlyRead before after
read_on first then = record { log = then.log ∙ first.log; changes = then.changes ∙ first.changes; faults = omega (arith, first.faults, then.faults) }

module _ {before looked after : FolderView} {keys : KeyPair} (first : IsOnlyRead before looked) where
  -- what was opened over the folder as unlocking left it
  pub opened_over : {unlocked : ℕ} {tree : VaultTree} → HasOpenedToRead looked after keys unlocked tree → HasOpenedToRead before after keys unlocked tree
  opened_over {unlocked = unlocked} is = record {
    keys_are = is.keys_are;
    closed = subst (λ (l : Option Log). Told l (λ log. IsClosed (now log))) first.log is.closed;
    rows = is.rows;
    clear = subst (λ (l : Option Log). Told l (λ log. IsFoundClear keys (now log) unlocked is.rows)) first.log is.clear;
    stands = is.stands;
    read = read_on first is.read;
  }

  -- and why it wasn't
  pub refused_over : {error : ReadOnlyErr} → HasRefusedToRead looked after keys error → HasRefusedToRead before after keys error
  refused_over is = record {
    damaged = λ at e. subst (λ (l : Option Log). Told l (λ log. IsDamagedAt (now log) at)) first.log (is.damaged at e);
    journal = λ e. subst (λ (l : Option Log). Told l (λ log. (deeds : List PlainDeed) × HoldsBatch (now log) deeds)) first.log (is.journal e);
    too_many = λ n e. subst (λ (l : Option Log). Told l (λ log. IsClosed (now log)) × HasTooMany keys (disk_in l) n) first.log (is.too_many n e);
    no_root = λ e. subst (λ (l : Option Log). Told l (λ log. IsClosed (now log)) × Told (disk_in l) (λ d. ¬ (IsFolder d (root_folder keys)))) first.log (is.no_root e);
    read = read_on first is.read;
    device = record { later = omega (arith, first.faults, is.device.later); rose = λ e. rose_later _ _ _ first.faults (is.device.rose e) };
  }
