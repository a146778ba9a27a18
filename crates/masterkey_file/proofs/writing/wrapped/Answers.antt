use Rattle.std.proofs.Common.{arith}
use Rattle.aes_block.proofs.Schedules.{AreBytes-each}
use Rattle.masterkey_file.proofs.writing.wrapped.Goals as goal

pub returns-clause-opens : goal.returns-clause-opens
returns-clause-opens c =
    c.unwrapping_is_exact.ensures.undone c.args.kek.now c.args.key.now c.told-kek (AreBytes-each c.args.kek.now (λ i. omega (arith, c.fits-kek i)))
    c.told-key (AreBytes-each c.args.key.now (λ i. omega (arith, c.fits-key i)))
