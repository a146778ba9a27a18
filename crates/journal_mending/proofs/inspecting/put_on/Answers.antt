use Rattle.journal_mending.proofs.Looked.{told_put}
use Rattle.journal_mending.proofs.inspecting.put_on.Goals as goal

pub returns-clause-state : goal.returns-clause-state
returns-clause-state g c =
    let log = g.R.Reads.log in
    rw c.put_state.ensures
    (told_put (log c.args.folder.now) (log c.kind.new.self) (log c.is_file_of.new.folder) c.args.path.now c.args.bytes.now c.in_ok-here.here c.in_ok-same.same c.in_ok-inside.inside c.in_ok-here.ensures.log c.in_ok-same.ensures.log c.in_ok-here.ensures.kind c.in_ok-here.ensures.tree c.in_ok-same.ensures.same c.in_ok-inside.ensures.inside)
