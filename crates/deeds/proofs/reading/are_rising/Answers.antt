use Rattle.std.proofs.Common.{◌≡◌, ◌+◌, [], ℕ, List, length, drop, subst, sym, ap, ◌∙◌, arith}
use Rattle.std.proofs.lemmas.List.{drop_all}
use Rattle.deeds.specs.declared.writes.Range.{Range}
use Rattle.deeds.specs.Plain.{plain_ranges}
use Rattle.deeds.specs.Grammar.{rise_within}
use Rattle.deeds.proofs.Doing.{split_at}
use Rattle.deeds.proofs.Rising.{next_rises, next_falls}
use Rattle.deeds.proofs.reading.are_rising.Goals as goal

pub returns-then-not-is_next : goal.returns-then-not-is_next
returns-then-not-is_next c =
    let s = c.args.ranges.now in
    let i = c.loop-range.range-index in
    let r = c.range-item.result in
    let split = split_at s i r (omega arith) c.range-item.is in
    let f = λ (l : List Range). rise_within c.loop-range.from c.args.len (plain_ranges l) in
    sym (sym c.loop-range.invariant ∙ ap f split ∙ next_falls c.loop-range.from c.args.len (r.at, r.bytes.items) (plain_ranges (drop (i + 1) s)) (sym c.if-not-is_next.ensures))

pub loop-range-preserved : goal.loop-range-preserved
loop-range-preserved c =
    let s = c.args.ranges.now in
    let i = c.loop-range.range-index in
    let r = c.range-item.result in
    let split = split_at s i r (omega arith) c.range-item.is in
    let f = λ (l : List Range). rise_within c.loop-range.from c.args.len (plain_ranges l) in
    subst (λ (k : ℕ). rise_within (r.at + k) c.args.len (plain_ranges (drop (i + 1) s)) ≡ rise_within 0 c.args.len (plain_ranges s)) (ap (λ (l : List ℕ). length l) (sym c.as_slice.ensures.value)) (sym (next_rises c.loop-range.from c.args.len (r.at, r.bytes.items) (plain_ranges (drop (i + 1) s)) (sym c.if-not-is_next.ensures)) ∙ sym (ap f split) ∙ c.loop-range.invariant)

pub returns : goal.returns
returns c =
    let s = c.args.ranges.now in
    let none : drop c.loop-range.range-index s ≡ [] = drop_all c.loop-range.range-index s (omega arith) in
    sym (ap (λ (l : List Range). rise_within c.loop-range.from c.args.len (plain_ranges l)) none) ∙ c.loop-range.invariant
