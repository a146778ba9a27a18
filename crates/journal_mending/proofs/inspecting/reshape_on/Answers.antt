use Rattle.deeds.specs.Plain.{plain_ranges}
use Rattle.journal_mending.proofs.Looked.{told_reshape}
use Rattle.journal_mending.proofs.inspecting.reshape_on.Goals as goal

pub returns-clause-state : goal.returns-clause-state
returns-clause-state g c =
    let log = g.R.Reads.log in
    rw c.reshape_state.ensures
    (told_reshape (log c.args.folder.now) (log c.can_reshape.new.folder) c.args.path.now c.args.len (plain_ranges c.args.ranges.now) c.in_ok-can.can c.in_ok-same.same c.in_ok-can.ensures.log c.in_ok-can.ensures.exact c.in_ok-same.ensures.same)
