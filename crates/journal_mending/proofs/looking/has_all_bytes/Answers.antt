use Rattle.std.proofs.Common.{◌≡◌, true, ◌+◌, List, ℕ, take, drop, subst, sym, arith}
use Rattle.deeds.specs.Plain.{plain_ranges}
use Rattle.deeds.specs.Reshape.{Ranges}
use Rattle.outside.specs.Calls.{Told}
use Rattle.outside.specs.Images.{now}
use Rattle.std.specs.Prelude.{IsTrue}
use Rattle.std.proofs.lemmas.Grind.{common_steps}
use Rattle.outside.proofs.Told.{told_then}
use Rattle.deeds.proofs.Doing.{split_at}
use Rattle.deeds.proofs.Rising.{ranges_at, ranges_all}
use Rattle.journal_mending.specs.Mending.{HasBytes, HasAllBytes}
use Rattle.journal_mending.proofs.Looked.{HasReadSoFar, HaveAll, none_read, one_read, take_more}
use Rattle.journal_mending.proofs.looking.has_all_bytes.Goals as goal

pub loop-range-init : goal.loop-range-init
loop-range-init g c = none_read c.args.path.now (g.R.Reads.log c.args.folder.now) (g.R.Reads.changes c.args.folder.now) (g.R.Reads.faults c.args.folder.now)

pub loop-range-preserved : goal.loop-range-preserved
loop-range-preserved g c =
    let s = c.args.ranges.now in
    let i = c.loop-range.range-index in
    let r = c.range-item.result in
    let at = ranges_at s i r (split_at s i r (omega arith) c.range-item.is) in
    let has = subst (λ (b : List ℕ). Told (g.R.Reads.log c.loop-range.folder) (λ l. IsTrue c.in_ok-has.has → HasBytes (now l) c.args.path.now (r.at, b))) c.deref.ensures.value c.in_ok-has.ensures.has in
    subst (λ (rs : Ranges). HasReadSoFar c.args.path.now rs (g.R.Reads.log c.args.folder.now) (g.R.Reads.log c.has_bytes.new.folder) (g.R.Reads.changes c.args.folder.now) (g.R.Reads.changes c.has_bytes.new.folder) (g.R.Reads.faults c.args.folder.now) (g.R.Reads.faults c.has_bytes.new.folder))
    (sym (take_more i (plain_ranges s) (r.at, r.bytes.items) (drop (i + 1) (plain_ranges s)) at))
    (one_read c.args.path.now (take i (plain_ranges s)) (r.at, r.bytes.items) _ _ _ _ _ _ _ _ _ c.in_ok-has.has c.loop-range.invariant c.in_ok-has.ensures.log c.in_ok-has.ensures.changes c.in_ok-has.ensures.cause.later has (let e = c.if-not-has.false in let is_true : c.in_ok-has.has ≡ true = grind (arith, common_steps) in is_true))

pub returns-clause-has : goal.returns-clause-has
returns-clause-has g c =
    let s = c.args.ranges.now in
    let i = c.loop-range.range-index in
    let path = c.args.path.now in
    told_then (g.R.Reads.log c.args.folder.now) (HaveAll path (take i (plain_ranges s))) _ c.loop-range.invariant.has
    (λ l all holds. subst (λ (rs : Ranges). HasAllBytes (now l) path rs) (ranges_all s i (omega arith)) all)
