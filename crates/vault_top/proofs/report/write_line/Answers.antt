use Rattle.std.proofs.lemmas.Result.{err_from_is_err_and, on_err_weaker}
use Rattle.vault_top.proofs.Written.{part_of_first, part_of_second, part_of_third}
use Rattle.vault_top.proofs.report.write_line.Goals as goal

pub returns-in_err-write_all-clause-part : goal.returns-in_err-write_all-clause-part
returns-in_err-write_all-clause-part g c =
    let p = err_from_is_err_and c.from_residual.result c.from_residual.ensures.1 in
    rw p.1 (part_of_first _ _ c.args.pieces.now.head.now c.args.pieces.now.detail.now (rw c.as_bytes.ensures.value at c.in_err-write_all.ensures.part))

pub returns-in_err-write_all-2-clause-part : goal.returns-in_err-write_all-2-clause-part
returns-in_err-write_all-2-clause-part g c =
    let p = err_from_is_err_and c.from_residual-in_err-write_all-2.result c.from_residual-in_err-write_all-2.ensures.1 in
    rw p.1 (part_of_second _ _ _ c.args.pieces.now.head.now c.args.pieces.now.detail.now (rw c.as_bytes.ensures.value at c.in_ok-write_all.ensures.whole)
    c.in_err-write_all-2.ensures.part)

pub returns-clause-part : goal.returns-clause-part
returns-clause-part g c =
    on_err_weaker c.write_all-3.result
    (λ part. part_of_third _ _ _ _ c.args.pieces.now.head.now c.args.pieces.now.detail.now (rw c.as_bytes.ensures.value at c.in_ok-write_all.ensures.whole)
    c.in_ok-write_all-2.ensures.whole part)
    c.write_all-3.ensures.part
