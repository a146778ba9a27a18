use Rattle.std.proofs.Common.{length}
use Rattle.file_chunks.proofs.Envelopes.{opens_read}
use Rattle.file_chunks.proofs.envelope.open_into.Goals as goal

pub returns-in-Ok-clause-opened : goal.returns-in-Ok-clause-opened
returns-in-Ok-clause-opened g c =
    opens_read (g.K.GcmCipher.key c.args.key.now) c.args.ad.now c.args.sealed.now _ _ _ (length c.args.out.now) _ c.requires
    c.array_at-nonce.ensures c.copy_from_slice.ensures.after c.array_at-tag.ensures c.in-Ok.ensures.opened

pub returns-in-Err-clause-damaged : goal.returns-in-Err-clause-damaged
returns-in-Err-clause-damaged g c =
    opens_read (g.K.GcmCipher.key c.args.key.now) c.args.ad.now c.args.sealed.now _ _ _ (length c.args.out.now) _ c.requires
    c.array_at-nonce.ensures c.copy_from_slice.ensures.after c.array_at-tag.ensures c.in-Err.ensures.closed
