use Rattle.vault_names.proofs.NumberLemmas.{digit_at}
use Rattle.vault_names.proofs.digits.five_bits.Goals as goal

pub returns : goal.returns
returns c =
    digit_at c.args.hash.now c.args.index c.group_number-number.result c.told-hash c.fits-hash c.requires c.group_number-number.ensures
