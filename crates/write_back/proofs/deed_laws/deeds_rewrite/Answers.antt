use Rattle.write_back.proofs.Doing.{deed_rewrites}
use Rattle.write_back.proofs.deed_laws.deeds_rewrite.Goals as goal

pub returns : goal.returns
returns c = deed_rewrites
