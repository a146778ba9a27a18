use Rattle.host_folder.proofs.Keeping.{held_opened}
use Rattle.host_folder.proofs.starts.Goals as goal

pub returns : goal.returns
returns c = λ paths old new opened later sure. held_opened paths old new opened later sure
