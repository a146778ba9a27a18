use Rattle.std.proofs.Common.{◌≤◌, length, take}
use Rattle.deeds.specs.Writing.{Passes}
use Rattle.deeds.specs.Plain.{plain_ranges}
use Rattle.deeds.specs.Grammar.{spelled_all, spelled_range}
use Rattle.deeds.proofs.writing.pass_ranges.Given as goal

abbrev pub invariant-loop-range : goal.invariant-loop-range
invariant-loop-range l = record {
  passes : Passes (spelled_all spelled_range (take l.range-index (plain_ranges l.ranges))) l.fn.window l.window l.fn.out l.out;
  within : l.window.used ≤ length l.out;
}
