use Rattle.std.proofs.Common.{◌≡◌, ◌-◌, ◌++◌}
use Rattle.outside_mem.specs.Choices.{choices_of_each, all_choices}
use Rattle.outside_mem.proofs.images.choices_of.Given as goal

abbrev pub invariant-loop-back : goal.invariant-loop-back
invariant-loop-back l = l.choices.items ++ choices_of_each (l.since - l.back) ≡ all_choices l.since
