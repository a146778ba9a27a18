use Rattle.journal_mending.proofs.Looked.{one_looked}
use Rattle.journal_mending.proofs.inspecting.states_of.Goals as goal

pub loop-deed-preserved : goal.loop-deed-preserved
loop-deed-preserved g c =
    let log = g.R.Reads.log in
    let changes = g.R.Reads.changes in
    let faults = g.R.Reads.faults in
    rw c.in_ok-add_state.ensures
    (one_looked c.loop-deed.yielded c.loop-deed.states.items (record { deed = c.in-Some.deed; state = c.in_ok-state.state }) (log c.args.folder.now) (log c.loop-deed.folder) (log c.state_of.new.folder)
    (changes c.args.folder.now) (changes c.loop-deed.folder) (changes c.state_of.new.folder) (faults c.args.folder.now) (faults c.loop-deed.folder) (faults c.state_of.new.folder)
    c.loop-deed.invariant c.in_ok-state.ensures.log c.in_ok-state.ensures.changes c.in_ok-state.ensures.cause.later c.in_ok-state.ensures.state)
