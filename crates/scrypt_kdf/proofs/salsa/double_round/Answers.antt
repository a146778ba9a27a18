use Rattle.std.proofs.Common.{arith}
use Rattle.scrypt_kdf.proofs.Rounds.{double_round_of_sixteen}
use Rattle.scrypt_kdf.proofs.salsa.double_round.Goals as goal

pub returns : goal.returns
returns c =
    double_round_of_sixteen c.args.x (omega arith) (record {
      first = c.quarter.ensures;
      second = c.quarter-2.ensures;
      third = c.quarter-3.ensures;
      fourth = c.quarter-4.ensures;
      fifth = c.quarter-5.ensures;
      sixth = c.quarter-6.ensures;
      seventh = c.quarter-7.ensures;
      eighth = c.quarter-8.ensures;
    })
