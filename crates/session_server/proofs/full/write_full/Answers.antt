use Rattle.std.proofs.Common.{◌∙◌, arith, ◌≤◌, ◌-◌, length, drop}
use Rattle.std.proofs.lemmas.List.{length-take, length-drop}
use Rattle.session_server.proofs.Links.{writes_behind}
use Rattle.session_server.proofs.full.write_full.Goals as goal

pub loop-count-preserved : goal.loop-count-preserved
loop-count-preserved g c =
    let inv = c.loop-count.invariant in
    let rest = drop c.loop-count.count c.args.piece.now in
    let fits : c.in_ok-more.more ≤ length c.args.piece.now - c.loop-count.count =
    omega (arith, c.in_ok-more.ensures.count, length-take (length c.args.piece.now - c.loop-count.count) rest, length-drop c.loop-count.count c.args.piece.now)
    in record {
      within = omega (arith, fits, inv.within);
      wrote = writes_behind _ _ _ c.loop-count.count c.in_ok-more.more c.args.piece.now fits inv.wrote c.in_ok-more.ensures.bytes;
      later = omega (arith, inv.later, c.write.ensures.cause.later);
      left = c.write.ensures.left ∙ inv.left;
      reads = c.write.ensures.reads ∙ inv.reads;
    }
