use Rattle.std.proofs.Common.{◌+◌, length, take, Some}
use Rattle.ctrmac_chunks.proofs.Layouts.{chunk_opens_is, sealed_chunk_is}
use Rattle.ctrmac_chunks.proofs.chunk.seal_chunk.Goals as goal

pub returns-clause-sealed : goal.returns-clause-sealed
returns-clause-sealed g c =
    sealed_chunk_is c.args.header.now c.args.index _ _ _ _ c.args.plaintext.now c.seal_into.new.out _ c.key.ensures c.mac_key.ensures c.bound_to-bound.ensures
    c.seal_into.ensures.nonce c.seal_into.ensures.sealed

pub returns-clause-opens : goal.returns-clause-opens
returns-clause-opens g c =
    chunk_opens_is c.args.header.now c.args.index _ _ _ (take (length c.args.plaintext.now + 48) c.seal_into.new.out) (Some c.args.plaintext.now)
    c.key.ensures c.mac_key.ensures c.bound_to-bound.ensures c.seal_into.ensures.opens
