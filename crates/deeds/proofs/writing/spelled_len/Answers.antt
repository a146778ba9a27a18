use Rattle.std.proofs.Common.{[], arith}
use Rattle.deeds.proofs.Windows.{window_begun}
use Rattle.deeds.proofs.writing.spelled_len.Goals as goal

pub overflow_sub-result : goal.overflow_sub-result
overflow_sub-result c =
    let w = c.pass_deeds.ensures.passes.passed 18446744073709551615 [] (window_begun 18446744073709551615 []) in
    omega (arith, w.skip)

pub returns : goal.returns
returns c =
    let w = c.pass_deeds.ensures.passes.passed 18446744073709551615 [] (window_begun 18446744073709551615 []) in
    omega (arith, w.skip, c.requires.short)
