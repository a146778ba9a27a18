use Rattle.chunk_journal.proofs.Found.{opening_keeps, stays_as_found, stays_found, stays_tidy, opened_alike}
use Rattle.chunk_journal.proofs.opening_stays_found.Goals as goal

pub returns : goal.returns
returns c = record { stays = stays_found; applied = stays_as_found; tidy = stays_tidy; later = opening_keeps; opened = opened_alike }
