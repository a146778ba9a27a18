use Rattle.std.proofs.Common.{◌≡◌, ◌+◌, [], ℕ, List, true, false, max, length, drop, subst, sym, ap, ◌∙◌, arith}
use Rattle.std.proofs.lemmas.List.{drop_all}
use Rattle.deeds.specs.declared.writes.Range.{Range}
use Rattle.deeds.specs.Plain.{plain_ranges}
use Rattle.deeds.proofs.Doing.{split_at}
use Rattle.journal_mending.specs.Lengths.{fits_len}
use Rattle.journal_mending.proofs.Lengths.{range_fits}
use Rattle.journal_mending.proofs.reshaping.fits_len.Goals as goal

pub returns-then-not-fits_range : goal.returns-then-not-fits_range
returns-then-not-fits_range c =
    let s = c.args.ranges.now in
    let i = c.loop-range.range-index in
    let r = c.range-item.result in
    let split = split_at s i r (omega arith) c.range-item.is in
    let f = λ (l : List Range). fits_len c.args.len (plain_ranges l) c.loop-range.by_then in
    sym (sym c.loop-range.invariant ∙ ap f split ∙ range_fits c.args.len c.loop-range.by_then (r.at, r.bytes.items) (plain_ranges (drop (i + 1) s)) false (sym c.if-not-fits_range.ensures))

pub loop-range-preserved : goal.loop-range-preserved
loop-range-preserved c =
    let s = c.args.ranges.now in
    let i = c.loop-range.range-index in
    let r = c.range-item.result in
    let split = split_at s i r (omega arith) c.range-item.is in
    let f = λ (l : List Range). fits_len c.args.len (plain_ranges l) c.loop-range.by_then in
    let end : c.max-by_then.result ≡ max c.loop-range.by_then (r.at + length r.bytes.items) = omega (arith, c.max-by_then.ensures, ap (λ (l : List ℕ). length l) c.as_slice.ensures.value) in
    subst (λ (n : ℕ). fits_len c.args.len (plain_ranges (drop (i + 1) s)) n ≡ fits_len c.args.len (plain_ranges s) c.args.have) (sym end)
    (sym (range_fits c.args.len c.loop-range.by_then (r.at, r.bytes.items) (plain_ranges (drop (i + 1) s)) true (sym c.if-not-fits_range.ensures)) ∙ sym (ap f split) ∙ c.loop-range.invariant)

pub returns : goal.returns
returns c =
    let s = c.args.ranges.now in
    let none : drop c.loop-range.range-index s ≡ [] = drop_all c.loop-range.range-index s (omega arith) in
    sym (ap (λ (l : List Range). fits_len c.args.len (plain_ranges l) c.loop-range.by_then) none) ∙ c.loop-range.invariant
