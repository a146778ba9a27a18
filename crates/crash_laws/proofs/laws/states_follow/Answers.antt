use Rattle.crash_laws.proofs.States.{state_runs, state_broke, running_state, broken_state}
use Rattle.crash_laws.proofs.laws.states_follow.Goals as goal

pub returns-clause-runs : goal.returns-clause-runs
returns-clause-runs c start = state_runs _

pub returns-clause-broken : goal.returns-clause-broken
returns-clause-broken c start = state_broke _

pub returns-clause-runs_on : goal.returns-clause-runs_on
returns-clause-runs_on c start = running_state _

pub returns-clause-stays_stopped : goal.returns-clause-stays_stopped
returns-clause-stays_stopped c start = broken_state _
