use Rattle.std.proofs.Common.{◌≡◌, ◌-◌, length, take}
use Rattle.tree_model.specs.Names.{AreNames, names_in}
use Rattle.tree_answers.proofs.Ways.{GoesOn}
use Rattle.tree_answers.proofs.walking.follow.Given as goal

abbrev pub invariant-loop-count : goal.invariant-loop-count
invariant-loop-count l = record {
  room : length l.qids ≡ 16;
  names : AreNames (l.names.count - l.count) l.bytes;
  way : GoesOn l.tree l.from (names_in l.names.count l.names.bytes.now) l.at (names_in (l.names.count - l.count) l.bytes) (take l.count l.qids);
}
