use Rattle.chunk_journal.proofs.Gate.{one_held, recovers_applied}
use Rattle.chunk_journal.proofs.Found.{recovered_once, recovers_once}
use Rattle.chunk_journal.proofs.recovering_is_unique.Goals as goal

pub returns : goal.returns
returns c = record { batch = one_held; disk = recovers_once; applied = recovered_once; whole = recovers_applied }
