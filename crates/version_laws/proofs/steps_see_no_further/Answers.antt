use Rattle.version_laws.proofs.Steps.{steps_are_same, early_refusals_are_same}
use Rattle.version_laws.proofs.steps_see_no_further.Goals as goal

pub returns-clause-step : goal.returns-clause-step
returns-clause-step c = steps_are_same

pub returns-clause-early : goal.returns-clause-early
returns-clause-early c = early_refusals_are_same
