use Rattle.std.proofs.lemmas.Result.{on_ok_weaker}
use Rattle.name_places.proofs.Indexed.{grows_from}
use Rattle.name_places.proofs.claims.Claims.insert.Goals as goal

pub returns-clause-claims : goal.returns-clause-claims
returns-clause-claims c = on_ok_weaker c.put.result (grows_from c.args.self.now c.put.new.self c.args.folder c.args.number) c.put.ensures.put
