use Rattle.store_laws.proofs.Ends.{closings_recover, stores_recover, stores_are_whole}
use Rattle.store_laws.proofs.stores_recover.Goals as goal

pub returns-clause-recover : goal.returns-clause-recover
returns-clause-recover c = stores_recover

pub returns-clause-whole : goal.returns-clause-whole
returns-clause-whole c = stores_are_whole

pub returns-clause-cut_short : goal.returns-clause-cut_short
returns-clause-cut_short c = closings_recover
