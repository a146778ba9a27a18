use Rattle.journal_mending.proofs.Looked.{told_remove_dir}
use Rattle.journal_mending.proofs.inspecting.remove_dir_on.Goals as goal

pub returns-clause-state : goal.returns-clause-state
returns-clause-state g c =
    let log = g.R.Reads.log in
    rw c.remove_dir_state.ensures
    (told_remove_dir (log c.args.folder.now) (log c.kind.new.self) c.args.path.now c.in_ok-here.here c.in_ok-bare.bare c.in_ok-here.ensures.log c.in_ok-here.ensures.kind c.in_ok-bare.ensures.bare)
