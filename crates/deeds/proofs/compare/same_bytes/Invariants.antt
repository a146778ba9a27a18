use Rattle.std.proofs.Common.{◌≡◌, ◌≤◌, ◌-◌, take}
use Rattle.outside.specs.Calls.{Told}
use Rattle.outside.specs.Images.{now}
use Rattle.deeds.specs.Deeds.{OfFiles}
use Rattle.deeds.proofs.compare.same_bytes.Given as goal

abbrev pub invariant-loop-at : goal.invariant-loop-at
invariant-loop-at g l = record {
  front : Told (g.F.Reads.log l.fn.folder) (λ log. OfFiles l.one l.other (λ a b. take l.at a ≡ take l.at b) (now log));
  log : g.F.Reads.log l.folder ≡ g.F.Reads.log l.fn.folder;
  within : l.at ≤ l.len;
  later : g.F.Reads.faults l.fn.folder ≤ g.F.Reads.faults l.folder;
}

abbrev pub decreases-loop-at : goal.decreases-loop-at
decreases-loop-at g l = l.len - l.at
