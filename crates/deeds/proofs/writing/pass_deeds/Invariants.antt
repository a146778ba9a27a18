use Rattle.std.proofs.Common.{◌++◌, ◌≤◌, length, take}
use Rattle.std.specs.Int.{w32, to_be_bytes}
use Rattle.deeds.specs.Writing.{Passes}
use Rattle.deeds.specs.Plain.{plains}
use Rattle.deeds.specs.Grammar.{spelled_all, spelled_deed}
use Rattle.deeds.proofs.writing.pass_deeds.Given as goal

abbrev pub invariant-loop-deed : goal.invariant-loop-deed
invariant-loop-deed l = record {
  passes : Passes (to_be_bytes w32 (length (plains l.deeds)) ++ spelled_all spelled_deed (take l.deed-index (plains l.deeds))) l.fn.window l.window l.fn.out l.out;
  within : l.window.used ≤ length l.out;
}
