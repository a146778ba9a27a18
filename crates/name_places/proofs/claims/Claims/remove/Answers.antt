use Rattle.name_places.proofs.Indexed.{removed_over, taken_back}
use Rattle.name_places.proofs.claims.Claims.remove.Goals as goal

pub returns-clause-claims : goal.returns-clause-claims
returns-clause-claims c = removed_over c.args.self.now c.self.inside.numbers.entries c.remove.new.self.entries c.args.folder.now c.self.view_is c.remove.ensures.updates.0

pub returns-clause-back : goal.returns-clause-back
returns-clause-back c = taken_back c.args.self.now c.self.inside.numbers.entries c.remove.new.self.entries c.args.folder.now c.self.view_is c.remove.ensures.entries
