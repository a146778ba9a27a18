use Rattle.std.proofs.Common.{◌≡◌, ◌+◌, max, length, arith}
use Rattle.std.proofs.lemmas.Result.{err_from_is_err_and}
use Rattle.outside.specs.Images.{disk_in}
use Rattle.content_laws.specs.Rewriting.{sealed_size}
use Rattle.content_writer.specs.Sealing.{Writing, writing_of}
use Rattle.content_writer.proofs.Puttable.{is_written, is_puttable, is_lost}
use Rattle.content_writer.proofs.writer.ContentWriter.seal.Goals as goal

pub returns-in_err-seal_written-clause-damaged : goal.returns-in_err-seal_written-clause-damaged
returns-in_err-seal_written-clause-damaged g c =
    let w : Writing = writing_of (disk_in (g.R.Reads.log c.args.folder.now)) c.args.file.now.path c.args.content.now c.args.write.now in
    let p = err_from_is_err_and c.from_residual.result c.from_residual.ensures.1 in
    rw (p.1, p.2) (λ e. is_lost w (λ keys bytes. c.written_content.ensures.damaged keys w.head w.length bytes w.at w.input) (c.in_err-seal_written.ensures.damaged e))

pub returns-clause-written : goal.returns-clause-written
returns-clause-written g c =
    let w : Writing = writing_of (disk_in (g.R.Reads.log c.args.folder.now)) c.args.file.now.path c.args.content.now c.args.write.now in
    let size : c.max-self-inside.result ≡ max c.args.file.now.size (sealed_size (w.at + length w.input)) = omega (arith, c.max-self-inside.ensures, c.sealed_len.ensures) in
    is_written w c.seal_written.new.sealed c.in_ok-seal_written.ensures.sealed c.args.file.now.size c.min.result c.max-self-inside.result c.min.ensures size
    (λ keys bytes. c.written_content.ensures.content keys w.head w.length bytes w.at w.input) c.requires.some

pub returns-clause-puttable : goal.returns-clause-puttable
returns-clause-puttable g c =
    let w : Writing = writing_of (disk_in (g.R.Reads.log c.args.folder.now)) c.args.file.now.path c.args.content.now c.args.write.now in
    let size : c.max-self-inside.result ≡ max c.args.file.now.size (sealed_size (w.at + length w.input)) = omega (arith, c.max-self-inside.ensures, c.sealed_len.ensures) in
    is_puttable w c.seal_written.new.sealed c.in_ok-seal_written.ensures.sealed c.args.file.now.size c.min.result c.max-self-inside.result c.min.ensures size
    c.requires.some c.requires.sized (omega (arith, c.requires.near, c.requires.few)) c.max-self-inside.type_inv
