use Rattle.std.proofs.Common.{arith}
use Rattle.std.proofs.lemmas.Bool.{eqb-true}
use Rattle.journal_tests.proofs.Alone.{can_alone}
use Rattle.journal_tests.proofs.flushes.fits.Goals as goal

pub returns-then-place-len-clause-can : goal.returns-then-place-len-clause-can
returns-then-place-len-clause-can c same =
    let change = c.args.change.now in
    can_alone change.size c.args.len change.first change.sealed.now (grind arith) (omega arith) (omega arith) (eqb-true _ _ same)
