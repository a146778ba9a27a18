use Rattle.chunk_journal.proofs.Whole.{undamaged_recovers}
use Rattle.chunk_journal.proofs.undamaged_recovers.Goals as goal

pub returns : goal.returns
returns c = undamaged_recovers
