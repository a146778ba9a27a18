use Rattle.write_back.proofs.Flushing.{is_alike, is_outlined}
use Rattle.write_back.proofs.flush_laws.flushed_disks.Goals as goal

pub returns-clause-alike : goal.returns-clause-alike
returns-clause-alike c = is_alike

pub returns-clause-outlines : goal.returns-clause-outlines
returns-clause-outlines c = is_outlined
