use Rattle.std.proofs.Common.{ap, ◌∙◌, arith}
use Rattle.std.proofs.lemmas.Result.{err_from_is_err_and}
use Rattle.outside.specs.Images.{disk_in}
use Rattle.tree_loading.proofs.Ending.{told_turn, many_before}
use Rattle.tree_loading.proofs.loading.walk.Goals as goal

pub returns-in_err-turn-clause-too_many : goal.returns-in_err-turn-clause-too_many
returns-in_err-turn-clause-too_many g c =
    let p = err_from_is_err_and c.from_residual.result c.from_residual.ensures.1 in
    rw (p.1, p.2) (λ n is.
    many_before (disk_in (g.R.Reads.log c.args.from.now)) (disk_in (g.R.Reads.log c.loop-number.from)) c.args.keys.now c.loop-number.number n c.args.loading.now c.loop-number.loading
    (ap disk_in c.loop-number.invariant.log) c.loop-number.invariant.turned (c.in_err-turn.ensures.too_many n is))

pub loop-number-preserved : goal.loop-number-preserved
loop-number-preserved g c =
    let so_far = c.loop-number.invariant in
    record {
      log = c.in_ok-turn.ensures.log ∙ so_far.log;
      changes = c.in_ok-turn.ensures.changes ∙ so_far.changes;
      later = omega (arith, c.in_ok-turn.ensures.cause.later, so_far.later);
      ready = c.in_ok-turn.ensures.ready;
      inside = omega (arith, c.loop-number-test.true, c.len.ensures.count, c.in_ok-turn.ensures.longer);
      turned =
          told_turn (disk_in (g.R.Reads.log c.args.from.now)) (disk_in (g.R.Reads.log c.loop-number.from)) c.args.keys.now c.loop-number.number c.args.loading.now c.loop-number.loading c.turn.new.loading
          (ap disk_in so_far.log) so_far.turned c.in_ok-turn.ensures.turned;
    }
