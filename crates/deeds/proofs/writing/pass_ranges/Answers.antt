use Rattle.std.proofs.Common.{ℕ, List, take, sym, subst, arith}
use Rattle.deeds.specs.Writing.{Passes}
use Rattle.deeds.specs.Plain.{plain_ranges}
use Rattle.deeds.specs.Reshape.{Ranges}
use Rattle.deeds.specs.Grammar.{spelled_all, spelled_range, FitsRange}
use Rattle.deeds.proofs.Doing.{split_at}
use Rattle.deeds.proofs.Rising.{ranges_at, each_at, ranges_all}
use Rattle.deeds.proofs.Windows.{passes_then, passes_none, spelled_more}
use Rattle.deeds.proofs.writing.pass_ranges.Goals as goal

pub loop-range-init : goal.loop-range-init
loop-range-init c = record { passes = passes_none c.args.window.now c.args.out.now; within = c.requires.fits }

pub pass_range-requires-clause-short : goal.pass_range-requires-clause-short
pass_range-requires-clause-short c =
    let s = c.args.ranges.now in
    let i = c.loop-range.range-index in
    let r = c.range-item.result in
    each_at FitsRange (plain_ranges s) i (r.at, r.bytes.items) (ranges_at s i r (split_at s i r (omega arith) c.range-item.is)) c.requires.each

pub loop-range-preserved : goal.loop-range-preserved
loop-range-preserved c =
    let s = c.args.ranges.now in
    let rs = plain_ranges s in
    let i = c.loop-range.range-index in
    let r = c.range-item.result in
    let more = spelled_more spelled_range rs i (r.at, r.bytes.items) (ranges_at s i r (split_at s i r (omega arith) c.range-item.is)) in
    record {
      passes = subst (λ (l : List ℕ). Passes l c.args.window.now c.pass_range.new.window c.args.out.now c.pass_range.new.out) (sym more)
          (passes_then (spelled_all spelled_range (take i rs)) (spelled_range (r.at, r.bytes.items)) c.args.window.now c.loop-range.window c.pass_range.new.window c.args.out.now c.loop-range.out c.pass_range.new.out c.loop-range.invariant.passes c.pass_range.ensures.passes);
      within = c.pass_range.ensures.within;
    }

pub returns-clause-passes : goal.returns-clause-passes
returns-clause-passes c =
    let s = c.args.ranges.now in
    subst (λ (l : Ranges). Passes (spelled_all spelled_range l) c.args.window.now c.loop-range.window c.args.out.now c.loop-range.out) (ranges_all s c.loop-range.range-index (omega arith)) c.loop-range.invariant.passes
