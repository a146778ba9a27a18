use Rattle.std.proofs.Common.{◌-◌, sym, ◌∙◌, arith}
use Rattle.std.proofs.lemmas.Bool.{false≢true}
use Rattle.deeds.proofs.Phases.{rose_before}
use Rattle.write_back.proofs.Fitting.{never_changed}
use Rattle.write_back.proofs.looking.drop_changed.Goals as goal

pub loop-index-preserved-in-Some-2 : goal.loop-index-preserved-in-Some-2
loop-index-preserved-in-Some-2 g c =
    let so_far = c.loop-index.invariant in
    let look = c.in_ok-path.ensures in
    record {
      untold = never_changed (g.R.Reads.log c.args.folder.now) (g.R.Reads.log c.loop-index.folder) so_far.log c.args.pending.now c.loop-index.pending c.deeds.result.now (c.loop-index.index - 1)
          c.in-Some.deed.now c.loop-index.dropped c.args.headers.now c.in_ok-path.field-0 c.in-Some-2.path so_far.untold so_far.kept c.requires.waits c.requires.headers c.deeds.ensures.deeds
          c.in-Some.ensures.lookup.3.0 c.in-Some.ensures.lookup.1 look.unchanged c.in-Some-2.is;
      kept = λ no. absurd (false≢true (sym no));
      log = c.report_changed.ensures.log ∙ look.log ∙ so_far.log;
      changes = c.report_changed.ensures.changes ∙ look.changes ∙ so_far.changes;
      cause = record {
        later = omega (arith, so_far.cause.later, look.cause.later, c.report_changed.ensures.cause.later);
        rose = λ _. rose_before _ _ _ (omega (arith, so_far.cause.later, look.cause.later)) (c.report_changed.ensures.cause.rose tt);
      };
    }
