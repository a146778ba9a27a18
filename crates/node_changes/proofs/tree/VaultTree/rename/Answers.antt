use Rattle.deeds.specs.Plain.{plains}
use Rattle.tree_loading.specs.Format.{sealing_of}
use Rattle.node_changes.proofs.Named.{led_of, told_can, has_renamed, may_have_renamed, told_refused}
use Rattle.node_changes.proofs.tree.VaultTree.rename.Goals as goal

pub commit-requires-clause-can : goal.commit-requires-clause-can
commit-requires-clause-can g c =
    let led = led_of c.args.self.now c.give_name.new.self c.args.number c.args.name c.args.modified c.args.now (plains c.in-Ok.deeds.items) (g.D.Reads.log c.args.journal.now) c.requires.rest c.in-Ok.ensures.made in
    rw (c.in-Ok.ensures.log, c.deref.ensures.value)
    (told_can led)

pub returns-in-Ok-commit-clause-changed : goal.returns-in-Ok-commit-clause-changed
returns-in-Ok-commit-clause-changed g c = λ change renaming.
    let led = led_of c.args.self.now c.give_name.new.self c.args.number c.args.name c.args.modified c.args.now (plains c.in-Ok.deeds.items) (g.D.Reads.log c.args.journal.now) c.requires.rest c.in-Ok.ensures.made in
    has_renamed led change renaming (g.D.Reads.log c.commit.new.self)
    (rw (c.in-Ok.ensures.log, c.deref.ensures.value) at c.in-Ok-commit.ensures.any_moment)
    (rw (c.in-Ok.ensures.log, c.deref.ensures.value) at c.in-Ok-commit.ensures.committed)

pub returns-in-Ok-clause-broken : goal.returns-in-Ok-clause-broken
returns-in-Ok-clause-broken g c = λ change renaming.
    let led = led_of c.args.self.now c.give_name.new.self c.args.number c.args.name c.args.modified c.args.now (plains c.in-Ok.deeds.items) (g.D.Reads.log c.args.journal.now) c.requires.rest c.in-Ok.ensures.made in
    may_have_renamed led change renaming (g.D.Reads.log c.commit.new.self)
    (rw (c.in-Ok.ensures.log, c.deref.ensures.value) at c.in-Err-commit.ensures.any_moment)

pub returns-clause-refused : goal.returns-clause-refused
returns-clause-refused g c =
    told_refused (sealing_of c.args.self.now.keys) c.args.number c.args.name c.args.modified c.args.now c.args.self.now.live c.args.self.now.claims c.in-Err.refusal (g.D.Reads.log c.args.journal.now)
    c.requires.rest c.in-Err.ensures.refused
