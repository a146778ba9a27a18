use Rattle.journal_mending.proofs.Looked.{told_remove}
use Rattle.journal_mending.proofs.inspecting.remove_on.Goals as goal

pub returns-clause-state : goal.returns-clause-state
returns-clause-state g c =
    let log = g.R.Reads.log in
    rw c.remove_state.ensures
    (told_remove (log c.args.folder.now) c.args.path.now c.in_ok-here.here c.in_ok-here.ensures.kind)
