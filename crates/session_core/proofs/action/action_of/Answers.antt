use Rattle.ninep_wire.specs.Plain.{plain_t}
use Rattle.session_core.proofs.action.action_of.Goals as goal

pub returns-in-Err-clause-form : goal.returns-in-Err-clause-form
returns-in-Err-clause-form c = c.refuse.ensures.form (plain_t c.args.message.now)
