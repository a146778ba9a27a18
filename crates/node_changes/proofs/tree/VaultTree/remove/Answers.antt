use Rattle.std.proofs.Common.{refl}
use Rattle.deeds.specs.Plain.{plains}
use Rattle.tree_model.specs.Asked.{remove, done}
use Rattle.tree_model.specs.Step.{says}
use Rattle.node_changes.proofs.Committing.{led_of, can_be_done, has_changed, may_have_changed}
use Rattle.node_changes.proofs.tree.VaultTree.remove.Goals as goal

pub commit-requires-clause-can : goal.commit-requires-clause-can
commit-requires-clause-can g c =
    let led = led_of c.args.self.now c.take_out.new.self (remove c.args.number) c.args.now (says done) (plains c.in-Ok.deeds.items) (g.D.Reads.log c.args.journal.now) c.in-Ok.ensures.made c.requires.rest in
    rw (c.in-Ok.ensures.log, c.deref.ensures.value) (can_be_done led)

pub returns-in-Ok-commit-clause-changed : goal.returns-in-Ok-commit-clause-changed
returns-in-Ok-commit-clause-changed g c =
    let led = led_of c.args.self.now c.take_out.new.self (remove c.args.number) c.args.now (says done) (plains c.in-Ok.deeds.items) (g.D.Reads.log c.args.journal.now) c.in-Ok.ensures.made c.requires.rest in
    has_changed led (g.D.Reads.log c.commit.new.self)
    (rw (c.in-Ok.ensures.log, c.deref.ensures.value) at c.in-Ok-commit.ensures.any_moment)
    (rw (c.in-Ok.ensures.log, c.deref.ensures.value) at c.in-Ok-commit.ensures.committed)

pub returns-in-Ok-clause-broken : goal.returns-in-Ok-clause-broken
returns-in-Ok-clause-broken g c =
    let led = led_of c.args.self.now c.take_out.new.self (remove c.args.number) c.args.now (says done) (plains c.in-Ok.deeds.items) (g.D.Reads.log c.args.journal.now) c.in-Ok.ensures.made c.requires.rest in
    may_have_changed led (g.D.Reads.log c.commit.new.self) refl
    (rw (c.in-Ok.ensures.log, c.deref.ensures.value) at c.in-Err-commit.ensures.any_moment)
