use Rattle.std.proofs.Common.{Some, None, refl, arith}
use Rattle.std.proofs.lemmas.Result.{err_from_is_err_and}
use Rattle.outside.specs.Disk.{IsFile}
use Rattle.outside.specs.Images.{disk_in}
use Rattle.content_reader.proofs.ReadLemmas.{header_told, untold_fault}
use Rattle.content_reader.proofs.fetching.header_of.Goals as goal

pub returns-in_err-open_header-clause-opened : goal.returns-in_err-open_header-clause-opened
returns-in_err-open_header-clause-opened g c =
    let from = c.from_residual-in_err-open_header in
    let p = err_from_is_err_and from.result from.ensures.1 in
    rw (p.1, p.2) (header_told (disk_in (g.R.Reads.log c.args.folder.now)) c.args.path.now c.args.keys.now c.in_ok-count.count 68 c.read.new.out None refl c.read.auto.out (omega arith) c.in_ok-count.ensures.bytes c.in_err-open_header.ensures.damaged)

pub returns-clause-opened : goal.returns-clause-opened
returns-clause-opened g c =
    header_told (disk_in (g.R.Reads.log c.args.folder.now)) c.args.path.now c.args.keys.now c.in_ok-count.count 68 c.read.new.out (Some c.in_ok-open_header.field-0) refl c.read.auto.out (omega arith)
    c.in_ok-count.ensures.bytes c.in_ok-open_header.ensures.opened

pub returns-in_err-count-clause-device : goal.returns-in_err-count-clause-device
returns-in_err-count-clause-device g c = λ device.
    untold_fault (disk_in (g.R.Reads.log c.args.folder.now)) c.in_err-count.field-0.0 (g.R.Reads.faults c.args.folder.now) (g.R.Reads.faults c.read.new.self) (λ d. IsFile d c.args.path.now)
    c.in_err-count.ensures.cause c.in_err-count.ensures.unfit c.in_err-count.ensures.no_memory
