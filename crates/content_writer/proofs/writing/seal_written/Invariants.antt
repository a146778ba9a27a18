use Rattle.std.proofs.Common.{◌≡◌, ◌≤◌, ◌<◌}
use Rattle.outside.specs.Calls.{Extends}
use Rattle.outside.specs.Images.{disk_in}
use Rattle.content_writer.specs.Sealed.{AreFull, nonces_of}
use Rattle.content_writer.specs.Sealing.{writing_of, AreSealedTo}
use Rattle.content_writer.proofs.writing.seal_written.Given as goal

-- the chunks as far as they are sealed
abbrev pub invariant-loop-index : goal.invariant-loop-index
invariant-loop-index g l = record {
  sealed : AreSealedTo (writing_of (disk_in (g.R.Reads.log l.initial.folder)) l.path l.content l.write) l.index l.sealed;
  full : l.index < l.end → AreFull l.sealed;
  drawn : Extends (g.E.Entropy.drawn l.initial.entropy) (g.E.Entropy.drawn l.entropy) (nonces_of l.sealed);
  log : g.R.Reads.log l.folder ≡ g.R.Reads.log l.initial.folder;
  changes : g.R.Reads.changes l.folder ≡ g.R.Reads.changes l.initial.folder;
  later : g.R.Reads.faults l.initial.folder ≤ g.R.Reads.faults l.folder;
  entropy : g.E.Entropy.faults l.initial.entropy ≤ g.E.Entropy.faults l.entropy;
}
