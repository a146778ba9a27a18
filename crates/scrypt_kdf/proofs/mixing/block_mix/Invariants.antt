use Rattle.scrypt_kdf.proofs.BlockMixing.{IsMixed}
use Rattle.scrypt_kdf.proofs.mixing.block_mix.Given as goal

abbrev pub invariant-loop-i : goal.invariant-loop-i
invariant-loop-i l = IsMixed l.r l.source l.x l.target l.i
