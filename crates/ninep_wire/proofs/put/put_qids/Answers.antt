use Rattle.std.proofs.Common.{arith}
use Rattle.ninep_wire.proofs.WroteLaws.{Wrote-more, all_more}
use Rattle.ninep_wire.proofs.put.put_qids.Goals as goal

pub loop-value-preserved : goal.loop-value-preserved
loop-value-preserved c = record {
  bytes = Wrote-more c.args.qids.now c.loop-value.value-index _ c.loop-value-test.true c.loop-value.invariant.bytes c.put_qid-end.ensures.bytes;
  count = omega arith;
  formed = all_more c.args.qids.now c.loop-value.value-index _ c.loop-value-test.true c.loop-value.invariant.formed c.put_qid-end.ensures.formed;
}
