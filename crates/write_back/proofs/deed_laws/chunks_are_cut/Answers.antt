use Rattle.write_back.proofs.Cutting.{again}
use Rattle.write_back.proofs.deed_laws.chunks_are_cut.Goals as goal

pub returns : goal.returns
returns c = λ bytes r can some. again r.size r.sealed r.first _ can some
