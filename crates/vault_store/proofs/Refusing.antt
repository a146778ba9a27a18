-- Why a vault wasn't opened to be read.
use Rattle.std.proofs.Common.{ℕ, Option, Err, subst, ◌∙◌, inl, inr, arith}
use Rattle.std.specs.Prelude.{IsErrOf}
use Rattle.outside.specs.Calls.{HasCause, Told}
use Rattle.outside.specs.Disk.{Disk, IsFolder}
use Rattle.outside.specs.Images.{Log, disk_in, now}
use Rattle.outside.specs.Views.{FolderView}
use Rattle.deeds.proofs.Doing.{told_disk}
use Rattle.vault_keys.specs.Keys.{KeyPair}
use Rattle.chunk_journal.specs.Journal.{IsClosed}
use Rattle.tree_loading.specs.Clear.{root_folder, HasTooMany}
use Rattle.node_changes.specs.declared.tree.VaultTree.{VaultTree}
use Rattle.vault_store.specs.declared.opening.OpenErr.{OpenErr}
use Rattle.vault_store.specs.declared.opening.OpenErr.TheVariants.{Device, JournalDamaged, TooMany, NoRoot}
use Rattle.vault_store.specs.declared.read_only.ReadOnlyErr.TheVariants.{NotOpened}
use Rattle.vault_store.specs.ReadOnly.{HasRefusedToRead, IsOnlyRead}

-- an error of a load of the tree
abbrev IsOf : OpenErr → OpenErr → Type 0
IsOf cause error = IsErrOf {T = VaultTree} (Err cause) error

-- a tree that couldn't be loaded, over a journal that is closed
pub load_refused : (before amid after : FolderView) (keys : KeyPair) (cause : OpenErr) → IsOnlyRead before amid → IsOnlyRead amid after → Told (disk_in before.log) IsClosed → ((at : ℕ) → IsOf cause (JournalDamaged at) → ⊥)
    → ((n : ℕ) → IsOf cause (TooMany n) → HasTooMany keys (disk_in amid.log) n) → (IsOf cause NoRoot → Told (disk_in amid.log) (λ d. ¬ (IsFolder d (root_folder keys)))) → HasCause amid.faults after.faults (IsOf cause Device)
    → HasRefusedToRead before after keys (NotOpened cause)
load_refused before amid after keys cause first second closed undamaged many rootless fault =
    let shut : Told before.log (λ log. IsClosed (now log)) = told_disk before.log IsClosed closed in
    record {
      damaged = λ at is. absurd (undamaged at cc);
      journal = λ is. absurd cc;
      too_many = λ n is. (shut, subst (λ (l : Option Log). HasTooMany keys (disk_in l) n) first.log (many n cc));
      no_root = λ is. (shut, subst (λ (l : Option Log). Told (disk_in l) (λ (d : Disk). ¬ (IsFolder d (root_folder keys)))) first.log (rootless cc));
      read = record { log = second.log ∙ first.log; changes = second.changes ∙ first.changes; faults = omega (arith, first.faults, second.faults) };
      device = record {
        later = omega (arith, first.faults, second.faults);
        rose = λ is. elim (fault.rose cc) [ inl less ↦ inl (omega (arith, first.faults, less)) | inr full ↦ inr full ];
      };
    }
