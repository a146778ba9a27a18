use Rattle.std.proofs.Common.{◌∙◌, ap}
use Rattle.scrypt_kdf.specs.Scrypt.{ro_mix}
use Rattle.scrypt_kdf.proofs.mixing.ro_mix.Goals as goal

pub returns : goal.returns
returns c = c.write_u32_into.ensures ∙ c.mix_words.ensures ∙ ap (ro_mix c.args.cost c.args.r) c.read_words.ensures
