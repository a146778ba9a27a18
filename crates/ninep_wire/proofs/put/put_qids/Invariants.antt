use Rattle.std.proofs.Common.{◌≡◌, ◌+◌, ◌*◌, take}
use Rattle.std.specs.List.{flat_map, AllByRecursion}
use Rattle.tree_model.specs.Wire.{qid, IsQid}
use Rattle.ninep_wire.specs.Writing.{Wrote}
use Rattle.ninep_wire.proofs.put.put_qids.Given as goal

abbrev pub invariant-loop-value : goal.invariant-loop-value
invariant-loop-value l = record {
  bytes : Wrote l.fn.out l.out l.at l.end (flat_map qid (take l.value-index l.qids));
  count : l.end ≡ l.at + 13 * l.value-index;
  formed : AllByRecursion IsQid (take l.value-index l.qids);
}
