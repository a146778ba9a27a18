use Rattle.std.proofs.Common.{◌≡◌, ◌+◌, suc, List, [], ◌∷◌, drop, length, refl, sym, subst, arith}
use Rattle.std.proofs.lemmas.List.{drop_all}
use Rattle.deeds.specs.declared.writes.Range.{Range}
use Rattle.deeds.specs.Plain.{plain_ranges}
use Rattle.deeds.proofs.Doing.{split_at}
use Rattle.pending_files.specs.Kept.{IsGap}
use Rattle.pending_files.proofs.places.count_before.Goals as goal

pub returns-then-at-range : goal.returns-then-at-range
returns-then-at-range c =
    let s = c.args.ranges.now in
    let i = c.loop-index.index in
    let r = c.index-ranges-index.result in
    let split : drop i s ≡ r ∷ drop (i + 1) s = split_at s i r (omega arith) c.index-ranges-index.is in
    let e : i + 0 ≡ i = omega arith in
    subst (IsGap c.args.at (plain_ranges s)) e (c.loop-index.invariant 0 (subst (λ (l : List Range). IsGap c.args.at (plain_ranges l) 0) (sym split) c.if-at-range.true))

pub loop-index-preserved : goal.loop-index-preserved
loop-index-preserved c = λ k gap.
    let s = c.args.ranges.now in
    let i = c.loop-index.index in
    let r = c.index-ranges-index.result in
    let split : drop i s ≡ r ∷ drop (i + 1) s = split_at s i r (omega arith) c.index-ranges-index.is in
    let e : i + suc k ≡ i + 1 + k = omega arith in
    subst (IsGap c.args.at (plain_ranges s)) e (c.loop-index.invariant (suc k) (subst (λ (l : List Range). IsGap c.args.at (plain_ranges l) (suc k)) (sym split) (c.if-at-range.false, gap)))

pub returns : goal.returns
returns c =
    let s = c.args.ranges.now in
    let i = c.loop-index.index in
    let none : drop i s ≡ [] = drop_all i s (omega arith) in
    let e : i + 0 ≡ length s = omega arith in
    subst (IsGap c.args.at (plain_ranges s)) e (c.loop-index.invariant 0 (subst (λ (l : List Range). IsGap c.args.at (plain_ranges l) 0) (sym none) refl))
