use Rattle.deeds.specs.Plain.{plains}
use Rattle.batch_looks.proofs.Foreign.{told_foreign}
use Rattle.batch_looks.proofs.looking.need_emptied.Goals as goal

pub returns-then-has_unnamed-clause-foreign : goal.returns-then-has_unnamed-clause-foreign
returns-then-has_unnamed-clause-foreign g c = λ foreign.
    told_foreign (g.R.Reads.log c.args.folder.now) (g.R.Reads.log c.found.new.folder) c.found.ensures.log c.args.path.now (plains c.args.deeds.now) c.in_ok-entries.entries.items c.deref.result.now c.deref.ensures.value
    (c.has_unnamed.ensures c.if-has_unnamed.true) c.in_ok-entries.ensures.names
