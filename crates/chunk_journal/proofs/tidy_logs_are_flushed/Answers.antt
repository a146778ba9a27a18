use Rattle.chunk_journal.proofs.Flushed.{sound_tidy, tidy_firm, tidy_flushed}
use Rattle.chunk_journal.proofs.tidy_logs_are_flushed.Goals as goal

pub returns : goal.returns
returns c = record { tidy = sound_tidy; firm = tidy_firm; flushed = tidy_flushed }
