use Rattle.journal_mending.proofs.Looked.{told_make_dir}
use Rattle.journal_mending.proofs.inspecting.make_dir_on.Goals as goal

pub returns-clause-state : goal.returns-clause-state
returns-clause-state g c =
    let log = g.R.Reads.log in
    rw c.make_dir_state.ensures
    (told_make_dir (log c.args.folder.now) (log c.kind.new.self) c.args.path.now c.in_ok-here.here c.in_ok-inside.inside c.in_ok-here.ensures.log c.in_ok-here.ensures.kind c.in_ok-here.ensures.tree c.in_ok-inside.ensures.inside)
