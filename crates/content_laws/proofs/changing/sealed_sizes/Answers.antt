use Rattle.content_laws.proofs.Sizes.{clear_sealed, sealed_clear}
use Rattle.content_laws.proofs.changing.sealed_sizes.Goals as goal

pub returns : goal.returns
returns c = record { clear = clear_sealed; sealed = sealed_clear }
