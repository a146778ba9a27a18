use Rattle.std.proofs.Common.{◌≡◌, take, drop, Option, refl, subst, ◌∙◌, arith}
use Rattle.std.specs.Prelude.{IsTrue, ◌↔◌}
use Rattle.outside.specs.Calls.{Told}
use Rattle.outside.specs.Images.{Log, now}
use Rattle.outside.proofs.Told.{told_then, told_both}
use Rattle.deeds.specs.Deeds.{OfFiles}
use Rattle.deeds.proofs.Alike.{longer_front, whole_alike, other_piece}
use Rattle.deeds.proofs.compare.same_bytes.Goals as goal

pub returns-then-not-branch-clause-same : goal.returns-then-not-branch-clause-same
returns-then-not-branch-clause-same g c =
    let log = g.F.Reads.log c.args.folder.now in
    let at = c.loop-at.at in
    let held = c.in_ok-same_piece.field-0 in
    let P = λ (l : Log). OfFiles c.args.one.now c.args.other.now (λ a b. IsTrue held ↔ (take 4096 (drop at a) ≡ take 4096 (drop at b))) (now l) in
    told_then log P _
    (subst (λ (o : Option Log). Told o P) c.loop-at.invariant.log c.in_ok-same_piece.ensures.same)
    (λ l same a b ia ib la lb. other_piece at 4096 a b held c.if-not-branch.true (same a b ia ib))

pub loop-at-preserved : goal.loop-at-preserved
loop-at-preserved g c =
    let log = g.F.Reads.log c.args.folder.now in
    let at = c.loop-at.at in
    let k = c.min.result in
    let held = c.in_ok-same_piece.field-0 in
    let Front = λ (l : Log). OfFiles c.args.one.now c.args.other.now (λ a b. take at a ≡ take at b) (now l) in
    let Piece = λ (l : Log). OfFiles c.args.one.now c.args.other.now (λ a b. IsTrue held ↔ (take 4096 (drop at a) ≡ take 4096 (drop at b))) (now l) in
    record {
      front = told_both log Front Piece _ c.loop-at.invariant.front
          (subst (λ (o : Option Log). Told o Piece) c.loop-at.invariant.log c.in_ok-same_piece.ensures.same)
          (λ l front piece a b ia ib. longer_front at 4096 k a b (omega (arith, c.min.ensures)) (front a b ia ib) ((piece a b ia ib).0 c.if-not-branch.false));
      log = c.in_ok-same_piece.ensures.log ∙ c.loop-at.invariant.log;
      within = omega (arith, c.loop-at.invariant.within, c.min.ensures);
      later = omega (arith, c.loop-at.invariant.later, c.in_ok-same_piece.ensures.cause.later);
    }

pub returns-clause-same : goal.returns-clause-same
returns-clause-same g c =
    let log = g.F.Reads.log c.args.folder.now in
    let at = c.loop-at.at in
    told_then log (λ l. OfFiles c.args.one.now c.args.other.now (λ a b. take at a ≡ take at b) (now l)) _ c.loop-at.invariant.front
    (λ l front a b ia ib la lb. (λ h. whole_alike at c.args.len a b (omega (arith, c.loop-at-test.false)) la lb (front a b ia ib), λ e. refl))
