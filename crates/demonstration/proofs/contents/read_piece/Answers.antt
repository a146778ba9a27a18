use Rattle.std.proofs.Common.{List, ℕ}
use Rattle.std.proofs.lemmas.Result.{err_from_is_err_and}
use Rattle.outside.specs.Disk.{Disk}
use Rattle.outside.specs.Images.{disk_in}
use Rattle.file_chunks.specs.File.{content_of}
use Rattle.content_reader.specs.Reading.{IsFileOf}
use Rattle.demonstration.proofs.Slices.{read_errs-damaged, told_damaged}
use Rattle.demonstration.proofs.contents.read_piece.Goals as goal

pub returns-in_err-count-clause-damaged : goal.returns-in_err-count-clause-damaged
returns-in_err-count-clause-damaged g c = λ is.
    let p = err_from_is_err_and c.from_residual.result c.from_residual.ensures.1 in
    let file = c.args.file.now in
    let e = c.in_err-count.field-0.0 in
    told_damaged (disk_in (g.R.Reads.log c.args.folder.now)) (λ (d : Disk) (sealed : List ℕ). IsFileOf d file.path file.size sealed)
    (content_of c.args.keys.now) c.args.at 65536 (g.R.Reads.faults c.args.folder.now) (g.R.Reads.faults c.read.new.folder) e
    (read_errs-damaged c.from_residual.result e p.0 p.1 p.2 is) c.in_err-count.ensures.bytes
