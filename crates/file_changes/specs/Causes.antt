-- Why a change of a file's content is refused.
use Rattle.std.specs.Prelude.{⊤}
use Rattle.tree_model.specs.declared.refusal.Refusal.{Refusal}
use Rattle.tree_model.specs.declared.refusal.Refusal.TheVariants as refusals
use Rattle.content_writer.specs.declared.error.WriteErr.{WriteErr}
use Rattle.content_writer.specs.declared.error.WriteErr.TheVariants as write_errs

-- the refusal of a change whose chunks weren't sealed
abbrev pub write_refusal : WriteErr → Refusal
write_refusal write_errs.Damaged = refusals.Damaged
write_refusal write_errs.Device = refusals.DeviceFault
write_refusal write_errs.Random = refusals.RandomFault

-- there are no others: the file is damaged, or there is a fault, given what says that the folder failed and that the random
-- source did
abbrev pub ContentCause : Type 0 → Type 0 → Refusal → Type 0
ContentCause folder entropy refusals.Damaged = ⊤
ContentCause folder entropy refusals.DeviceFault = folder
ContentCause folder entropy refusals.RandomFault = entropy
ContentCause folder entropy refusal = ⊥
