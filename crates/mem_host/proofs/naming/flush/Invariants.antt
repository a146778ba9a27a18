use Rattle.std.proofs.Common.{◌≡◌, map, take, drop}
use Rattle.host_calls.specs.Names.{flushed}
use Rattle.mem_host.proofs.naming.flush.Given as goal

abbrev pub invariant-loop-index : goal.invariant-loop-index
invariant-loop-index l = record {
  front : take l.index l.steps ≡ map (flushed l.folder) (take l.index l.fn.steps);
  rest : drop l.index l.steps ≡ drop l.index l.fn.steps;
}
