use Rattle.std.proofs.Common.{◌≡◌, length, arith}
use Rattle.std.proofs.lemmas.Result.{err_from_is_err_and}
use Rattle.file_chunks.proofs.Layouts.{header_damaged, header_read}
use Rattle.file_chunks.proofs.header.open_header.Goals as goal

pub returns-in_err-open_into-clause-damaged : goal.returns-in_err-open_into-clause-damaged
returns-in_err-open_into-clause-damaged c =
    let p = err_from_is_err_and c.from_residual.result c.from_residual.ensures.1 in
    rw p.1 (header_damaged c.args.keys.now _ c.args.bytes.now c.sealing_key.ensures c.in_err-open_into.ensures.damaged)

pub returns-clause-opened : goal.returns-clause-opened
returns-clause-opened c =
    let size : length c.open_into.new.out ≡ 40 = omega arith in
    rw c.new.ensures (header_read c.args.keys.now _ c.args.bytes.now c.open_into.new.out c.array_at.result c.array_at-2.result
    size c.sealing_key.ensures c.array_at.ensures c.array_at-2.ensures c.in_ok-open_into.ensures.opened)
