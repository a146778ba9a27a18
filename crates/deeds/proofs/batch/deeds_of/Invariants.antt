use Rattle.std.proofs.Common.{◌≡◌, ◌++◌, length}
use Rattle.std.specs.List.{AllByRecursion}
use Rattle.deeds.specs.Plain.{plains}
use Rattle.deeds.specs.Grammar.{spelled_deeds, IsDeed}
use Rattle.deeds.proofs.Fields.{IsBytes}
use Rattle.deeds.proofs.batch.deeds_of.Given as goal

abbrev pub invariant-loop : goal.invariant-loop
invariant-loop l = record {
  parts : l.bytes ≡ spelled_deeds (plains l.deeds.items) ++ l.rest;
  long : length (plains l.deeds.items) ≡ l.counter;
  good : AllByRecursion IsDeed (plains l.deeds.items);
  fits : IsBytes l.rest;
}
