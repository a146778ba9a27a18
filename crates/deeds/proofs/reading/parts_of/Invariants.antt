use Rattle.std.proofs.Common.{◌≡◌, ◌-◌, length}
use Rattle.std.specs.Prelude.{IsTrue}
use Rattle.vault_path.specs.Parts.{is_path}
use Rattle.deeds.specs.Reading.{items_at, part_at}
use Rattle.deeds.proofs.Loop.{with_front}
use Rattle.deeds.proofs.reading.parts_of.Given as goal

abbrev pub invariant-loop : goal.invariant-loop
invariant-loop l = record {
  read : with_front l.path (items_at part_at (l.count - l.counter) l.rest) ≡ items_at part_at l.count l.bytes;
  long : length l.path ≡ l.counter;
  good : IsTrue (is_path l.path);
}
