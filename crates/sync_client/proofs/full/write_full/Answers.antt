use Rattle.std.proofs.Common.{◌∙◌, arith, ◌≤◌, ◌-◌, length, drop}
use Rattle.std.proofs.lemmas.List.{length-take, length-drop}
use Rattle.sync_client.proofs.Links.{writes_behind}
use Rattle.sync_client.proofs.full.write_full.Goals as goal

pub loop-count-preserved : goal.loop-count-preserved
loop-count-preserved g c =
    let inv = c.loop-count.invariant in
    let rest = drop c.loop-count.count c.args.message.now in
    let fits : c.in_ok-more.more ≤ length c.args.message.now - c.loop-count.count =
    omega (arith, c.in_ok-more.ensures.count, length-take (length c.args.message.now - c.loop-count.count) rest, length-drop c.loop-count.count c.args.message.now)
    in record {
      within = omega (arith, fits, inv.within);
      wrote = writes_behind _ _ _ c.loop-count.count c.in_ok-more.more c.args.message.now fits inv.wrote c.in_ok-more.ensures.bytes;
      later = omega (arith, inv.later, c.write.ensures.cause.later);
      left = c.write.ensures.left ∙ inv.left;
      reads = c.write.ensures.reads ∙ inv.reads;
    }
