use Rattle.std.proofs.Common.{arith, rules}
use Rattle.scrypt_kdf.proofs.RoMixing.{chosen_row-is}
use Rattle.scrypt_kdf.proofs.mixing.chosen_row.Goals as goal

pub returns-clause-row : goal.returns-clause-row
returns-clause-row c =
    chosen_row-is c.args.cost c.args.r c.args.x.now (omega arith) (omega arith) c.requires.sizes.divides (omega arith) (search rules)
