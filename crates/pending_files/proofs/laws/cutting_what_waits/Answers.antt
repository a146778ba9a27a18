use Rattle.pending_files.proofs.Later.{cut_later}
use Rattle.pending_files.proofs.laws.cutting_what_waits.Goals as goal

pub returns : goal.returns
returns c = cut_later
