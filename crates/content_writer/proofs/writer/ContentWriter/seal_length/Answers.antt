use Rattle.std.proofs.Common.{[], sym, ◌∙◌}
use Rattle.std.proofs.lemmas.List.{append-nil}
use Rattle.std.proofs.lemmas.Result.{err_from_is_err_and, on_ok_weaker}
use Rattle.outside.specs.Images.{disk_in}
use Rattle.outside.proofs.Told.{told_both, unchanged}
use Rattle.file_chunks.specs.File.{content_of}
use Rattle.content_writer.proofs.Growth.{grown_by_last}
use Rattle.content_writer.proofs.writer.ContentWriter.seal_length.Goals as goal

pub returns-then-content-len-clause-resized : goal.returns-then-content-len-clause-resized
returns-then-content-len-clause-resized g c =
    on_ok_weaker c.seal.result (λ written. told_both (disk_in (g.R.Reads.log c.args.folder.now)) _ _ _ c.in_ok-content.ensures.opened (rw c.in_ok-content.ensures.log at written) (λ d opened written bytes is.
    let open_file = opened bytes is in
    let grown = c.resized_content.ensures.grown c.args.keys.now c.in_ok-content.content.header c.in_ok-content.content.length bytes c.args.len open_file c.if-content-len.true
    ∙ grown_by_last (content_of c.args.keys.now bytes) c.in_ok-content.content.length c.args.len (c.reads_are_slices.ensures.len c.args.keys.now bytes c.in_ok-content.content.length open_file.key open_file.sized)
    c.if-content-len.true in
    rw grown (written c.args.keys.now bytes (record { there = is.there; opened = open_file }) is.long))) c.seal.ensures.written

pub returns-then-content-len-clause-damaged : goal.returns-then-content-len-clause-damaged
returns-then-content-len-clause-damaged g c = λ e.
    told_both (disk_in (g.R.Reads.log c.args.folder.now)) _ _ _ c.in_ok-content.ensures.opened (rw c.in_ok-content.ensures.log at (c.seal.ensures.damaged e)) (λ d opened none bytes is.
    let open_file = opened bytes is in
    c.resized_content.ensures.grown c.args.keys.now c.in_ok-content.content.header c.in_ok-content.content.length bytes c.args.len open_file c.if-content-len.true
    ∙ grown_by_last (content_of c.args.keys.now bytes) c.in_ok-content.content.length c.args.len (c.reads_are_slices.ensures.len c.args.keys.now bytes c.in_ok-content.content.length open_file.key open_file.sized)
    c.if-content-len.true
    ∙ none c.args.keys.now bytes (record { there = is.there; opened = open_file }))

pub returns-in_err-seal_cut-clause-partly : goal.returns-in_err-seal_cut-clause-partly
returns-in_err-seal_cut-clause-partly g c =
    let p = err_from_is_err_and c.from_residual-in_err-seal_cut.result c.from_residual-in_err-seal_cut.ensures.1 in
    rw p.1 (unchanged _ _ _ c.in_err-seal_cut.ensures.unspent (λ x. ([], sym (append-nil x))))

pub returns-clause-resized : goal.returns-clause-resized
returns-clause-resized g c =
    told_both (disk_in (g.R.Reads.log c.args.folder.now)) _ _ _ c.in_ok-content.ensures.opened (rw c.in_ok-content.ensures.log at c.in_ok-seal_cut.ensures.cut) (λ d opened cut bytes is.
    rw c.sealed_len-self-inside.ensures (cut c.args.keys.now bytes (record { there = is.there; opened = opened bytes is })))
