use Rattle.std.proofs.Common.{◌≡◌, ◌≤◌}
use Rattle.outside.specs.Calls.{Changes, Told}
use Rattle.deeds.specs.Plain.{plains}
use Rattle.chunk_journal.specs.Stages.{HasPlace, KeepsFront, KeepsItShut, headers_at}
use Rattle.chunk_journal.proofs.headers.write_headers.Given as goal

abbrev pub invariant-loop-deed : goal.invariant-loop-deed
invariant-loop-deed g l = record {
  front : Changes (g.D.Reads.log l.fn.folder) (g.D.Reads.log l.folder) (KeepsFront (headers_at (plains l.deeds)));
  shut : Changes (g.D.Reads.log l.fn.folder) (g.D.Reads.log l.folder) KeepsItShut;
  place : Told (g.D.Reads.log l.folder) (HasPlace l.at);
  behind : headers_at (plains l.deeds) ≤ l.at;
  within : l.used ≤ 4096;
  later : g.D.Reads.faults l.fn.folder ≤ g.D.Reads.faults l.folder;
}
