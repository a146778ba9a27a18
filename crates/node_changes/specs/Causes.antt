-- Why a change was not made, and what it left.
use Rattle.std.specs.Prelude.{◌≡◌, ℕ, List, Option, ⊤}
use Rattle.outside.specs.Images.{Log}
use Rattle.tree_model.specs.declared.refusal.Refusal.{Refusal}
use Rattle.tree_model.specs.declared.refusal.Refusal.TheVariants as refusals
use Rattle.batch_looks.specs.declared.misfit.Misfit.{Misfit}
use Rattle.batch_looks.specs.declared.misfit.Misfit.TheVariants.{Device, Foreign, Memory}
use Rattle.tree_model.specs.Asked.{PlainRequest}
use Rattle.tree_model.specs.History.{MayLackMemory, MayPlace}
use Rattle.live_tree.specs.Held.{HeldTree}
use Rattle.node_changes.specs.declared.error.ChangeErr.{ChangeErr}
use Rattle.node_changes.specs.declared.error.ChangeErr.TheVariants.{Refused, Broken}

-- the cause of a refusal that isn't the tree's own, given what says that the folder failed and that the random source did
abbrev pub RefusalCause : PlainRequest → Type 0 → Type 0 → Refusal → Type 0
RefusalCause request folder entropy refusals.DeviceFault = folder
RefusalCause request folder entropy refusals.RandomFault = entropy
RefusalCause request folder entropy refusals.OutOfMemory = MayLackMemory request
RefusalCause request folder entropy (refusals.PlaceTaken path) = MayPlace request
RefusalCause request folder entropy (refusals.Stopped f) = ⊥
RefusalCause request folder entropy (refusals.Exhausted ticket) = ⊥
RefusalCause request folder entropy refusal = ⊤

abbrev pub ErrCause : PlainRequest → Type 0 → Type 0 → ChangeErr → Type 0
ErrCause request folder entropy (Refused refusal) = RefusalCause request folder entropy refusal
ErrCause request folder entropy Broken = folder

-- what refuses deeds that the folder doesn't fit
abbrev pub misfit_refusal : Misfit → Refusal
misfit_refusal Device = refusals.DeviceFault
misfit_refusal Foreign = refusals.Foreign
misfit_refusal Memory = refusals.OutOfMemory

-- P of the refusal
abbrev pub IfRefused : ChangeErr → (Refusal → Type 0) → Type 0
IfRefused (Refused refusal) P = P refusal
IfRefused Broken P = ⊤

-- P if the commit failed
abbrev pub IfBroken : ChangeErr → Type 0 → Type 0
IfBroken (Refused refusal) P = ⊤
IfBroken Broken P = P

-- nothing changed
pub record IsUnchanged (old_live new_live : HeldTree) (old_claims new_claims : List (List ℕ × ℕ)) (old_log new_log : Option Log) : Type 0 where
  pub live : new_live ≡ old_live
  pub claims : new_claims ≡ old_claims
  pub log : new_log ≡ old_log
