use Rattle.std.proofs.lemmas.Result.{on_ok_weaker}
use Rattle.outside.specs.Images.{disk_in}
use Rattle.outside.proofs.Told.{told_both}
use Rattle.content_writer.proofs.writer.ContentWriter.seal_write.Goals as goal

pub returns-clause-written : goal.returns-clause-written
returns-clause-written g c =
    on_ok_weaker c.seal.result (λ written. told_both (disk_in (g.R.Reads.log c.args.folder.now)) _ _ _ c.in_ok-content.ensures.opened (rw c.in_ok-content.ensures.log at written) (λ d opened written bytes is.
    written c.args.keys.now bytes (record { there = is.there; opened = opened bytes is }) is.long)) c.seal.ensures.written
