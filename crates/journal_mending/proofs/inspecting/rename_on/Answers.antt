use Rattle.journal_mending.proofs.Looked.{told_rename}
use Rattle.journal_mending.proofs.inspecting.rename_on.Goals as goal

pub returns-clause-state : goal.returns-clause-state
returns-clause-state g c =
    let log = g.R.Reads.log in
    rw c.rename_state.ensures
    (told_rename (log c.args.folder.now) (log c.kind.new.self) (log c.kind-2.new.self) c.args.from.now c.args.to.now c.in_ok-there.there c.in_ok-here.here c.in_ok-inside.inside c.in_ok-there.ensures.log c.in_ok-here.ensures.log c.in_ok-there.ensures.kind c.in_ok-here.ensures.kind c.in_ok-inside.ensures.inside)
