use Rattle.std.proofs.Common.{◌-◌, arith, true≢false, refl, sym, ◌∙◌}
use Rattle.demonstration.proofs.Ordered.{ordered_more, ordered_all, unordered}
use Rattle.demonstration.proofs.left.are_ordered.Goals as goal

pub loop-index-preserved : goal.loop-index-preserved
loop-index-preserved c =
    let some = c.loop-index.auto.index in
    record {
      ordered = ordered_more c.args.rows.now c.loop-index.index (c.loop-index.index - 1) c.index-rows-index.result c.index-rows-index-in-loop-index.result (omega (arith, some))
          c.loop-index-test.true c.index-rows-index.is c.index-rows-index-in-loop-index.is (c.stands_before.ensures.0 c.if-not-stands_before.false) c.loop-index.invariant.ordered;
    }

pub returns : goal.returns
returns c = (λ is. ordered_all c.args.rows.now c.loop-index.index c.loop-index-test.false c.loop-index.invariant.ordered, λ sorted. refl)

pub returns-then-not-stands_before : goal.returns-then-not-stands_before
returns-then-not-stands_before c =
    let some = c.loop-index.auto.index in (
      λ is. absurd (true≢false (sym is)),
      λ sorted.
          absurd (unordered c.args.rows.now c.loop-index.index (c.loop-index.index - 1) c.index-rows-index.result c.index-rows-index-in-loop-index.result (omega (arith, some))
          c.loop-index-test.true c.index-rows-index.is c.index-rows-index-in-loop-index.is
          (λ less. true≢false (sym (c.stands_before.ensures.1 less) ∙ c.if-not-stands_before.true)) sorted),
    )
