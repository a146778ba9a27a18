use Rattle.std.proofs.Common.{◌≡◌, ◌∙◌, true, is_some, arith}
use Rattle.journal_mending.proofs.Keeping.{told_taken}
use Rattle.journal_mending.proofs.discarding.first_free.Goals as goal

pub loop-number-preserved : goal.loop-number-preserved
loop-number-preserved g c =
    let log = g.R.Reads.log in
    let so_far = c.loop-number.invariant in
    let some : is_some c.in_ok-kind.field-0 ≡ true = (let e = c.if-is_none.ensures in cc) in
    record {
      log = c.in_ok-kind.ensures.log ∙ so_far.log;
      later = omega (arith, so_far.later, c.in_ok-kind.ensures.cause.later);
      first = told_taken (log c.args.folder.now) (log c.loop-number.folder) c.loop-number.number c.in_ok-path.path c.in_ok-kind.field-0 so_far.log c.in_ok-path.ensures.path some so_far.first c.in_ok-kind.ensures.kind;
    }
