use Rattle.pending_files.proofs.Doing.{later_file, later_other}
use Rattle.pending_files.proofs.Later.{can_later}
use Rattle.pending_files.proofs.laws.doing_what_waits.Goals as goal

pub returns-clause-can : goal.returns-clause-can
returns-clause-can c = λ ds old are can. can_later ds old are can

pub returns-clause-files : goal.returns-clause-files
returns-clause-files c = λ ds old later path len ranges are does is. later_file path ds len ranges old later are.each are.apart is does

pub returns-clause-others : goal.returns-clause-others
returns-clause-others c = λ ds old later path are does none. later_other path ds old later are.each none does
