use Rattle.store_laws.proofs.Turns.{quiet_turns_add, changed_turns_add, broken_turns_add}
use Rattle.store_laws.proofs.Stopped.{stopped_turns_add}
use Rattle.store_laws.proofs.turns_add_entries.Goals as goal

pub returns-clause-quiet : goal.returns-clause-quiet
returns-clause-quiet c = quiet_turns_add

pub returns-clause-changed : goal.returns-clause-changed
returns-clause-changed c = changed_turns_add

pub returns-clause-broken : goal.returns-clause-broken
returns-clause-broken c = broken_turns_add

pub returns-clause-stopped : goal.returns-clause-stopped
returns-clause-stopped c = stopped_turns_add
