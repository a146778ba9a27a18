use Rattle.scrypt_kdf.proofs.Costs.{AreSizes-from}
use Rattle.scrypt_kdf.proofs.scrypt_derivation.mix_parts.Goals as goal

pub mix_each-requires-clause-sizes : goal.mix_each-requires-clause-sizes
mix_each-requires-clause-sizes c = AreSizes-from c.args.cost c.args.r c.args.p c.requires.cost c.requires.large
