use Rattle.std.proofs.Common.{◌∷◌, [], Option, subst}
use Rattle.outside.specs.Calls.{Changes}
use Rattle.outside.specs.Changes.{Write}
use Rattle.outside.specs.Disk.{Path}
use Rattle.outside.specs.Images.{Log, HasDone}
use Rattle.chunk_journal.specs.Journal.{journal_file}
use Rattle.journal_mending.proofs.Closing.{told_settles, told_written}
use Rattle.journal_mending.proofs.skipping.close.Goals as goal

pub returns-in_ok-settle-in-Some-File-clause-closed : goal.returns-in_ok-settle-in-Some-File-clause-closed
returns-in_ok-settle-in-Some-File-clause-closed g c =
    let log = g.F.Reads.log in
    told_written (log c.args.folder.now) (log c.write.new.self) (log c.settle.new.folder)
    (subst (λ (o : Option Log). Changes o (log c.write.new.self) (HasDone (Write journal_file 0 (0 ∷ [])))) c.in_ok-kind.ensures.log
    (subst (λ (p : Path). Changes (log c.kind.new.self) (log c.write.new.self) (HasDone (Write p 0 (0 ∷ [])))) c.journal_path-journal.ensures c.in_ok-write-in-Some-File.ensures.done))
    (told_settles (log c.write.new.self) (log c.settle.new.folder) c.in_ok-settle-in-Some-File.ensures.synced c.in_ok-settle-in-Some-File.ensures.steady)
