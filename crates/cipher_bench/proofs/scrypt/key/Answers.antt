use Rattle.std.proofs.Common.{arith}
use Rattle.cipher_bench.proofs.scrypt.key.Goals as goal

pub returns-clause-derived : goal.returns-clause-derived
returns-clause-derived c = λ some. c.loop-repetition.invariant (omega arith)
