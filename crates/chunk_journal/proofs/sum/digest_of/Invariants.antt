use Rattle.std.proofs.Common.{◌-◌, ◌≡◌, ◌≤◌, ◌∷◌, take, length}
use Rattle.sha2.specs.Hashers.{Holds256}
use Rattle.deeds.specs.Grammar.{behind_gate}
use Rattle.deeds.specs.Plain.{plains}
use Rattle.chunk_journal.proofs.sum.digest_of.Given as goal

abbrev pub invariant-loop-at : goal.invariant-loop-at
invariant-loop-at l = record {
  holds : Holds256 l.hasher (1 ∷ take l.at (behind_gate (plains l.deeds)));
  within : l.at ≤ length (behind_gate (plains l.deeds));
  long : l.len ≡ length (behind_gate (plains l.deeds));
}

abbrev pub decreases-loop-at : goal.decreases-loop-at
decreases-loop-at l = length (behind_gate (plains l.deeds)) - l.at
