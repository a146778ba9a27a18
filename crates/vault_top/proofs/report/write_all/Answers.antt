use Rattle.std.proofs.Common.{◌≤◌, ◌-◌, arith, length, drop}
use Rattle.std.proofs.lemmas.List.{length-take, length-drop}
use Rattle.session_server.proofs.Links.{writes_behind}
use Rattle.vault_top.proofs.report.write_all.Goals as goal

pub loop-count-preserved : goal.loop-count-preserved
loop-count-preserved g c =
    let inv = c.loop-count.invariant in
    let bytes = c.args.bytes.now in
    let rest = drop c.loop-count.count bytes in
    let fits : c.in_ok-more.more ≤ length bytes - c.loop-count.count =
    omega (arith, c.in_ok-more.ensures.count, length-take (length bytes - c.loop-count.count) rest, length-drop c.loop-count.count bytes)
    in (
      omega (arith, fits, inv.0),
      writes_behind _ _ _ c.loop-count.count c.in_ok-more.more bytes fits inv.1 c.in_ok-more.ensures.bytes,
      omega (arith, inv.2, c.write.ensures.cause.later),
    )
