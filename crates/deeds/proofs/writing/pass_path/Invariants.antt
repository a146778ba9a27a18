use Rattle.std.proofs.Common.{◌∷◌, ◌≤◌, length, take}
use Rattle.deeds.specs.Writing.{Passes}
use Rattle.deeds.specs.Grammar.{spelled_all, spelled_part}
use Rattle.deeds.proofs.writing.pass_path.Given as goal

abbrev pub invariant-loop-index : goal.invariant-loop-index
invariant-loop-index l = record {
  passes : Passes (length l.path ∷ spelled_all spelled_part (take l.index l.path)) l.fn.window l.window l.fn.out l.out;
  within : l.window.used ≤ length l.out;
}
