use Rattle.std.proofs.Common.{◌≡◌, ◌∙◌, length, arith, replicate}
use Rattle.ctrmac_chunks.proofs.Layouts.{new_header_is, new_header_opens}
use Rattle.ctrmac_chunks.proofs.header.new_header.Goals as goal

pub returns-clause-bytes : goal.returns-clause-bytes
returns-clause-bytes g c =
    let size : length c.payload.result ≡ 40 = omega arith in
    rw (c.new-2.ensures, c.new.ensures)
    (new_header_is c.args.keys.now _ c.bytes-mac.result c.payload.result c.fill.new.out c.fill-2.new.out c.seal_into.new.out (replicate 88 0)
    (omega arith) size c.encryption_lanes.ensures (c.bytes-mac.ensures ∙ c.mac_key.ensures) c.payload.ensures c.seal_into.ensures.sealed)

pub returns-clause-opens : goal.returns-clause-opens
returns-clause-opens g c =
    let size : length c.payload.result ≡ 40 = omega arith in
    let long : length c.seal_into.new.out ≡ 88 = omega arith in
    rw (c.new-2.ensures, c.new.ensures)
    (new_header_opens c.args.keys.now _ c.bytes-mac.result c.payload.result c.fill.new.out c.fill-2.new.out c.seal_into.new.out
    long size c.encryption_lanes.ensures (c.bytes-mac.ensures ∙ c.mac_key.ensures) c.seal_into.ensures.nonce c.payload.ensures c.seal_into.ensures.opens)
