use Rattle.std.proofs.Common.{◌≡◌, ◌+◌, ℕ, drop}
use Rattle.deeds.specs.Plain.{plains}
use Rattle.pending_files.specs.Pending.{file_of}
use Rattle.pending_files.specs.Kept.{IsIndexOf}
use Rattle.pending_files.proofs.places.index_of.Given as goal

abbrev pub invariant-loop-index : goal.invariant-loop-index
invariant-loop-index l = record {
  same : file_of l.path (plains (drop l.index l.deeds)) ≡ file_of l.path (plains l.deeds);
  found : (k : ℕ) → IsIndexOf l.path (plains (drop l.index l.deeds)) k → IsIndexOf l.path (plains l.deeds) (l.index + k);
}
