use Rattle.std.proofs.Common.{◌≡◌, ◌++◌, ◌∷◌, []}
use Rattle.std.proofs.lemmas.Result.{err_from_is_err_and}
use Rattle.deeds.specs.Plain.{plain_ranges}
use Rattle.deeds.specs.Reading.{items_at, range_at}
use Rattle.deeds.proofs.Loop.{goes_on, ends, is_done}
use Rattle.deeds.proofs.Rising.{ranges_pushed}
use Rattle.deeds.proofs.reading.some_ranges_of.Goals as goal

pub returns-in_err-range : goal.returns-in_err-range
returns-in_err-range c =
    let p = err_from_is_err_and c.from_residual.result c.from_residual.ensures.1 in
    rw (p.1, p.2) (ends range_at c.in_err-range.field-0.0 (plain_ranges c.loop.ranges.items) c.args.count c.loop.counter c.loop.rest.now (items_at range_at c.args.count c.args.bytes.now) c.loop-test.true c.in_err-range.ensures c.loop.invariant)

pub loop-preserved : goal.loop-preserved
loop-preserved c =
    let r = c.in_ok-range.range in
    let e : plain_ranges c.push.new.self.items ≡ plain_ranges c.loop.ranges.items ++ (r.at, r.bytes.items) ∷ [] = rw c.in_ok-push.ensures.items (ranges_pushed c.loop.ranges.items r) in
    rw e (goes_on range_at (plain_ranges c.loop.ranges.items) c.args.count c.loop.counter c.loop.rest.now (r.at, r.bytes.items) c.in_ok-range.after.now (items_at range_at c.args.count c.args.bytes.now) c.loop-test.true c.in_ok-range.ensures c.loop.invariant)

pub returns : goal.returns
returns c = is_done range_at (plain_ranges c.loop.ranges.items) c.args.count c.loop.counter c.loop.rest.now (items_at range_at c.args.count c.args.bytes.now) c.loop-test.false c.loop.invariant
