use Rattle.chunk_journal.proofs.Undamaged.{commits_openable, leaves_openable, never_answered, recovering_opens, stays_openable}
use Rattle.chunk_journal.proofs.journals_stay_undamaged.Goals as goal

pub returns : goal.returns
returns c = record { opening = leaves_openable; since = stays_openable; commit = commits_openable; answer = never_answered; recovers = recovering_opens }
