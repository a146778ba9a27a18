use Rattle.std.proofs.Common.{length, ap, arith}
use Rattle.std.proofs.lemmas.Bool.{ltb-true}
use Rattle.write_back.proofs.Fitting.{headers_long}
use Rattle.write_back.proofs.headers.Headers.has_room.Goals as goal

pub returns : goal.returns
returns c = λ so. omega (arith, ltb-true _ _ so, ap length c.self.view_is, headers_long c.self.inside.kept.items, c.self.inside.kept.ok, c.len.ensures)
