use Rattle.host_calls.specs.Names.{flushed}
use Rattle.mem_host.proofs.Taking.{front_changed, rest_stays}
use Rattle.mem_host.proofs.naming.flush.Goals as goal

pub loop-index-preserved : goal.loop-index-preserved
loop-index-preserved c = record {
  front = front_changed (flushed c.args.folder.now) c.args.steps.now c.loop-index.steps c.loop-index.index c.flush.new.self c.index-steps-index.result
      c.loop-index-test.true c.loop-index.auto.steps c.flush.ensures c.loop-index.invariant.front c.loop-index.invariant.rest;
  rest = rest_stays c.args.steps.now c.loop-index.steps c.loop-index.index c.flush.new.self c.index-steps-index.result
      c.loop-index-test.true c.loop-index.auto.steps c.loop-index.invariant.rest;
}
