use Rattle.std.proofs.Common.{◌≡◌, ◌++◌, ◌-◌, ◌%◌, ◌^◌}
use Rattle.aes_block.specs.Bytes.{bytes_of}
use Rattle.scrypt_kdf.specs.Pbkdf2.{u_after, xored_us}
use Rattle.scrypt_kdf.proofs.derivation.block.Given as goal

abbrev pub invariant-loop-turn : goal.invariant-loop-turn
invariant-loop-turn l = record {
  u_is : l.u ≡ u_after l.password (l.salt ++ bytes_of 4 (l.fn.number % 2 ^ 32)) (l._turn - 1);
  xored_is : l.xored ≡ xored_us l.password (l.salt ++ bytes_of 4 (l.fn.number % 2 ^ 32)) (l._turn - 1);
}
