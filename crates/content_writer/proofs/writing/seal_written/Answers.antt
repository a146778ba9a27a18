use Rattle.std.proofs.Common.{◌≡◌, ◌+◌, ◌/◌, ℕ, min, length, refl, ap, subst, ◌∙◌, arith}
use Rattle.std.proofs.lemmas.Result.{err_from_is_err_and}
use Rattle.std.specs.Int.{div_ceil}
use Rattle.outside.specs.Images.{disk_in}
use Rattle.content_writer.specs.Sealing.{Writing, writing_of, AreSealedTo}
use Rattle.content_writer.proofs.SealedRuns.{sealed_none, sealed_more, counted_to, more_full, drawn_none, drawn_more}
use Rattle.content_writer.proofs.writing.seal_written.Goals as goal

pub loop-index-init : goal.loop-index-init
loop-index-init g c =
    let w : Writing = writing_of (disk_in (g.R.Reads.log c.args.folder.now)) c.args.path.now c.args.content.now c.args.write.now in
    let none : length c.clear.new.self ≡ 0 = ap length c.clear.ensures in
    record {
      sealed = sealed_none w c.min.result c.clear.new.self c.min.ensures c.clear.ensures;
      full = λ _ k d below. absurd (omega (arith, none, below));
      drawn = drawn_none (g.E.Entropy.drawn c.args.entropy.now) c.clear.new.self c.clear.ensures;
      log = refl;
      changes = refl;
      later = omega arith;
      entropy = omega arith;
    }

pub seal_one-requires-clause-room : goal.seal_one-requires-clause-room
seal_one-requires-clause-room g c =
    let w : Writing = writing_of (disk_in (g.R.Reads.log c.args.folder.now)) c.args.path.now c.args.content.now c.args.write.now in
    let count : min c.args.write.now.at c.args.content.now.length / 32768 + length c.loop-index.sealed ≡ c.loop-index.index = counted_to w c.loop-index.index c.loop-index.sealed c.loop-index.invariant.sealed in
    omega (arith, count, c.requires.few, c.loop-index-test.true, c.div_ceil-end.ensures)

pub loop-index-preserved : goal.loop-index-preserved
loop-index-preserved g c =
    let w : Writing = writing_of (disk_in (g.R.Reads.log c.args.folder.now)) c.args.path.now c.args.content.now c.args.write.now in
    let kept = c.loop-index.invariant in
    let more = c.in_ok-seal_one.ensures in
    let this = rw kept.log at more.sealed in
    record {
      sealed = sealed_more w c.loop-index.index c.loop-index.sealed c.seal_one.new.sealed _ _ kept.sealed this;
      full = λ below. more_full w c.loop-index.index c.loop-index.sealed c.seal_one.new.sealed _ _ (kept.full (omega (arith, c.loop-index-test.true))) this
          (omega (arith, below, c.div_ceil-end.ensures));
      drawn = drawn_more (g.E.Entropy.drawn c.args.entropy.now) (g.E.Entropy.drawn c.loop-index.entropy) (g.E.Entropy.drawn c.seal_one.new.entropy) c.args.content.now.header c.loop-index.index
          this.plaintext c.loop-index.sealed c.seal_one.new.sealed kept.drawn this.pushed;
      log = more.log ∙ kept.log;
      changes = more.changes ∙ kept.changes;
      later = omega (arith, more.later, kept.later);
      entropy = omega (arith, more.entropy, kept.entropy);
    }

pub returns-in_err-seal_one-clause-damaged : goal.returns-in_err-seal_one-clause-damaged
returns-in_err-seal_one-clause-damaged g c =
    let p = err_from_is_err_and c.from_residual.result c.from_residual.ensures.1 in
    rw (p.1, p.2) (λ e. record {
      index = c.loop-index.index;
      met = record { from = omega (arith, c.loop-index.auto.index, c.min.ensures); below = omega (arith, c.loop-index-test.true, c.div_ceil-end.ensures) };
      lost = rw c.loop-index.invariant.log at (c.in_err-seal_one.ensures.damaged e);
    })

pub returns-clause-sealed : goal.returns-clause-sealed
returns-clause-sealed g c =
    let w : Writing = writing_of (disk_in (g.R.Reads.log c.args.folder.now)) c.args.path.now c.args.content.now c.args.write.now in
    let all : c.loop-index.index ≡ div_ceil (c.args.write.now.at + length c.args.write.now.input.now) 32768 =
    omega (arith, c.loop-index-test.false, c.loop-index.auto.index-end, c.div_ceil-end.ensures, c.min.ensures) in
    subst (λ (i : ℕ). AreSealedTo w i c.loop-index.sealed) all c.loop-index.invariant.sealed
