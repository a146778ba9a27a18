use Rattle.journal_mending.proofs.Skips.{one_skipped}
use Rattle.journal_mending.proofs.skipping.skip_all.Goals as goal

pub loop-deed-preserved : goal.loop-deed-preserved
loop-deed-preserved g c =
    rw c.in_ok-add_state.ensures
    (one_skipped c.loop-deed.yielded c.loop-deed.states.items (g.F.Reads.log c.args.folder.now) (g.F.Reads.log c.loop-deed.folder) (g.F.Reads.log c.skip_deed.new.folder)
    (g.F.Reads.faults c.args.folder.now) (g.F.Reads.faults c.loop-deed.folder) (g.F.Reads.faults c.skip_deed.new.folder) (record { deed = c.in-Some.deed; state = c.in_ok-state.state })
    c.loop-deed.invariant c.in_ok-state.ensures.skips c.in_ok-state.ensures.cause.later)
