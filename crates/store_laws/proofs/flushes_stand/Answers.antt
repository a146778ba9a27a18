use Rattle.store_laws.proofs.Flushed.{flushes_stand, flushed_turns_add}
use Rattle.store_laws.proofs.Turns.{unflushed_turns_add}
use Rattle.store_laws.proofs.flushes_stand.Goals as goal

pub returns-clause-stand : goal.returns-clause-stand
returns-clause-stand c = flushes_stand

pub returns-clause-add : goal.returns-clause-add
returns-clause-add c = flushed_turns_add

pub returns-clause-failed : goal.returns-clause-failed
returns-clause-failed c = unflushed_turns_add
