use Rattle.std.proofs.Common.{◌∙◌, arith, ◌≤◌, length}
use Rattle.sync_client.proofs.Links.{reads_behind, put_long}
use Rattle.sync_client.proofs.full.read_full.Goals as goal

pub loop-count-preserved : goal.loop-count-preserved
loop-count-preserved g c =
    let inv = c.loop-count.invariant in
    let fits : c.in-Ok.more ≤ length c.read.new.out = omega (arith, c.read.auto.out, c.in-Ok.ensures.count) in record {
      within = put_long c.loop-count.count c.in-Ok.more _ c.loop-count.out c.read.new.out inv.within fits;
      read = reads_behind _ _ _ c.loop-count.count c.in-Ok.more _ c.loop-count.out c.read.new.out inv.within fits inv.read c.in-Ok.ensures.bytes;
      later = omega (arith, inv.later, c.read.ensures.cause.later);
      taken = c.read.ensures.taken ∙ inv.taken;
      writes = c.read.ensures.writes ∙ inv.writes;
    }
