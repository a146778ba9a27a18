use Rattle.chunk_journal.proofs.Damage.{recovers_undamaged}
use Rattle.chunk_journal.proofs.recovering_is_undamaged.Goals as goal

pub returns : goal.returns
returns c = recovers_undamaged
