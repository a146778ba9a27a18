use Rattle.vault_top.proofs.NewVaults.{new_vault_is_bare}
use Rattle.vault_top.proofs.laws.a_new_vault_is_its_root.Goals as goal

pub returns : goal.returns
returns c = new_vault_is_bare
