use Rattle.std.proofs.Common.{◌≡◌, map, take, drop}
use Rattle.host_calls.specs.Names.{without_folder}
use Rattle.mem_host.proofs.naming.lose_folder.Given as goal

abbrev pub invariant-loop-index : goal.invariant-loop-index
invariant-loop-index l = record {
  front : take l.index l.steps ≡ map (without_folder l.folder) (take l.index l.fn.steps);
  rest : drop l.index l.steps ≡ drop l.index l.fn.steps;
}
