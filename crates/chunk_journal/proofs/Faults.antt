-- Why a step failed, and when it can be made.
use Rattle.std.proofs.Common.{◌≡◌, ◌⊎◌, ℕ, ◌≤◌, List, Option, Some, None, Err, refl, inl, inr}
use Rattle.std.specs.Prelude.{IsErrOf, IsNone}
use Rattle.outside.specs.declared.folder.FolderErr.{FolderErr}
use Rattle.outside.specs.declared.folder.FolderErr.TheVariants as errors
use Rattle.outside.specs.Calls.{HasCause, Rose, Told, IsUnfit}
use Rattle.outside.specs.Disk.{Disk, Node, folder, file, node_at}
use Rattle.outside.specs.Images.{Log, now, disk_in}
use Rattle.outside.specs.Changes.{IsFree}
use Rattle.deeds.proofs.Phases.{cause_then}
use Rattle.chunk_journal.specs.Journal.{journal_file, IsClosed}

-- what can be done is unfit only if nothing is told
pub fit_rose : (log : Option Log) (a b : ℕ) (P : Log → Type 0) → Told log P → IsUnfit log a b P → Rose a b
fit_rose None a b P can unfit = unfit
fit_rose (Some l) a b P can unfit = absurd (unfit can)

-- a step that could be made failed only if the count rose
pub err_cause : {T : Type 0} (error : FolderErr) (log : Option Log) (a b : ℕ) (P : Log → Type 0) (F : Type 0) → Told log P
    → HasCause a b (IsErrOf {T = T} (Err error) errors.Failed) → (IsErrOf {T = T} (Err error) errors.Unfit → IsUnfit log a b P) → (IsErrOf {T = T} (Err error) errors.Memory → ⊥) → HasCause a b F
err_cause errors.Failed log a b P F can cause unfit memory = record { later = cause.later; rose = λ _. cause.rose refl }
err_cause errors.Unfit log a b P F can cause unfit memory = record { later = cause.later; rose = λ _. fit_rose log a b P can (unfit refl) }
err_cause errors.Memory log a b P F can cause unfit memory = absurd (memory refl)

pub sync_cause : {T : Type 0} (error : FolderErr) (a b : ℕ) (F : Type 0) → HasCause a b (IsErrOf {T = T} (Err error) errors.Failed) → (IsErrOf {T = T} (Err error) errors.Unfit → ⊥) → (IsErrOf {T = T} (Err error) errors.Memory → ⊥) → HasCause a b F
sync_cause errors.Failed a b F cause unfit memory = record { later = cause.later; rose = λ _. cause.rose refl }
sync_cause errors.Unfit a b F cause unfit memory = absurd (unfit refl)
sync_cause errors.Memory a b F cause unfit memory = absurd (memory refl)

-- the same of a call that looks
disk_fit_rose : (log : Option Log) (a b : ℕ) (P : Disk → Type 0) → Told log (λ l. P (now l)) → IsUnfit (disk_in log) a b P → Rose a b
disk_fit_rose None a b P can unfit = unfit
disk_fit_rose (Some l) a b P can unfit = absurd (unfit can)

pub look_cause : {T : Type 0} (error : FolderErr) (log : Option Log) (a b : ℕ) (P : Disk → Type 0) (F : Type 0) → Told log (λ l. P (now l))
    → HasCause a b (IsErrOf {T = T} (Err error) errors.Failed) → (IsErrOf {T = T} (Err error) errors.Unfit → IsUnfit (disk_in log) a b P) → (IsErrOf {T = T} (Err error) errors.Memory → ⊥) → HasCause a b F
look_cause errors.Failed log a b P F can cause unfit memory = record { later = cause.later; rose = λ _. cause.rose refl }
look_cause errors.Unfit log a b P F can cause unfit memory = record { later = cause.later; rose = λ _. disk_fit_rose log a b P can (unfit refl) }
look_cause errors.Memory log a b P F can cause unfit memory = absurd (memory refl)

-- and so did a sync after a call that was done
pub then_cause : {T : Type 0} (error : FolderErr) (a b c : ℕ) (F : Type 0) → a ≤ b → HasCause b c (IsErrOf {T = T} (Err error) errors.Failed) → (IsErrOf {T = T} (Err error) errors.Unfit → ⊥) → (IsErrOf {T = T} (Err error) errors.Memory → ⊥) → HasCause a c F
then_cause error a b c F later cause unfit memory = cause_then a b c F later (sync_cause error b c F cause unfit memory)

-- if no folder is there, a file can be put
pub free_put : (o : Option Node) → (o ≡ Some folder → ⊥) → IsNone o ⊎ ((bytes : List ℕ) × (o ≡ Some (file bytes)))
free_put None none = inl refl
free_put (Some folder) none = absurd (none refl)
free_put (Some (file bytes)) none = inr (bytes, refl)

-- a closed journal is free to be moved over
pub closed_free : (d : Disk) → IsClosed d → IsFree (node_at d journal_file)
closed_free d (inl none) = inl none
closed_free d (inr f) = inr (f.0, f.1)
