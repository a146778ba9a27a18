use Rattle.std.proofs.Common.{refl, sym, Some}
use Rattle.live_tree.proofs.Places.{set_from}
use Rattle.live_tree.proofs.directories.put.Goals as goal

pub returns-in_ok-insert-clause-set : goal.returns-in_ok-insert-clause-set
returns-in_ok-insert-clause-set c =
    let had = sym c.in-Some.ensures.value in
    let written = (c.get_mut.follows.holds c.insert.new.self).3 (rw (← c.in-Some.ensures.value) refl) in
    set_from c.args.names.now (c.get_mut.follows.lender c.insert.new.self) c.args.parent c.in-Some.inner.now c.insert.new.self c.args.name (Some c.args.number) had
    written.0 c.in_ok-insert.ensures.updates.0
