use Rattle.std.proofs.Common.{rules, arith}
use Rattle.scrypt_kdf.proofs.Parts.{scrypt-is}
use Rattle.scrypt_kdf.proofs.scrypt_derivation.derive.Goals as goal

pub returns-clause-derived : goal.returns-clause-derived
returns-clause-derived c =
    scrypt-is c.args.password.now c.args.salt.now c.pbkdf2.new.out c.mix_parts.new.parts _ c.args.cost c.args.r c.args.p _ _
    c.pbkdf2.ensures (omega (arith, c.in_ok-buffer.ensures.len)) (search rules) c.pbkdf2-2.ensures
