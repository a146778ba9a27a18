use Rattle.write_back.proofs.Laying.{rewrites_laid}
use Rattle.write_back.proofs.deed_laws.waiting_rewrites.Goals as goal

pub returns : goal.returns
returns c = rewrites_laid
