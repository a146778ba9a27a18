use Rattle.std.proofs.Common.{◌≡◌, ◌∙◌, length, None, arith}
use Rattle.std.proofs.lemmas.Result.{err_from_is_err_and}
use Rattle.ctrmac_chunks.proofs.Layouts.{header_opens_is, header_read}
use Rattle.ctrmac_chunks.proofs.header.open_header.Goals as goal

pub returns-in_err-open_into-clause-damaged : goal.returns-in_err-open_into-clause-damaged
returns-in_err-open_into-clause-damaged c =
    let p = err_from_is_err_and c.from_residual.result c.from_residual.ensures.1 in
    rw p.1 (header_opens_is c.args.keys.now _ _ c.args.bytes.now None c.encryption_lanes.ensures (c.bytes-mac.ensures ∙ c.mac_key.ensures) c.in_err-open_into.ensures.damaged)

pub returns-clause-opened : goal.returns-clause-opened
returns-clause-opened c =
    let size : length c.open_into.new.out ≡ 40 = omega arith in
    rw (c.new-2.ensures, c.new.ensures)
    (header_read c.args.keys.now _ c.bytes-mac.result c.args.bytes.now c.open_into.new.out c.array_at.result c.array_at-2.result
    size c.encryption_lanes.ensures (c.bytes-mac.ensures ∙ c.mac_key.ensures) c.array_at.ensures c.array_at-2.ensures c.in_ok-open_into.ensures.opened)
