use Rattle.std.proofs.Common.{◌≡◌, ◌<◌, ◌≤◌, ◌-◌, length, take}
use Rattle.outside.specs.Calls.{Changes}
use Rattle.outside.specs.Images.{now}
use Rattle.deeds.specs.Grammar.{behind_gate}
use Rattle.deeds.specs.Plain.{plains}
use Rattle.chunk_journal.specs.Stages.{KeepsShut, HasFront}
use Rattle.chunk_journal.proofs.stage.write_pieces.Given as goal

abbrev pub invariant-loop-at : goal.invariant-loop-at
invariant-loop-at g l = record {
  front : Changes (g.D.Reads.log l.fn.folder) (g.D.Reads.log l.folder) (λ old new. HasFront (take l.at (behind_gate (plains l.deeds))) (now old) (now new));
  keeps : Changes (g.D.Reads.log l.fn.folder) (g.D.Reads.log l.folder) KeepsShut;
  within : l.at ≤ length (behind_gate (plains l.deeds));
  long : l.len ≡ length (behind_gate (plains l.deeds));
  room : 0 < length l.piece;
  later : g.D.Reads.faults l.fn.folder ≤ g.D.Reads.faults l.folder;
}

abbrev pub decreases-loop-at : goal.decreases-loop-at
decreases-loop-at g l = length (behind_gate (plains l.deeds)) - l.at
