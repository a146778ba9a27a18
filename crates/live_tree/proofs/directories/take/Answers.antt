use Rattle.std.proofs.Common.{refl, sym, None}
use Rattle.live_tree.proofs.Places.{set_from}
use Rattle.live_tree.proofs.directories.take.Goals as goal

pub returns-in-Some : goal.returns-in-Some
returns-in-Some c =
    let had = sym c.in-Some.ensures.value in
    let written = (c.get_mut.follows.holds c.remove.new.self).3 (rw (← c.in-Some.ensures.value) refl) in
    set_from c.args.names.now (c.get_mut.follows.lender c.remove.new.self) c.args.parent c.in-Some.inner.now c.remove.new.self c.args.name.now None had
    written.0 c.remove.ensures.updates.0
