use Rattle.std.proofs.Common.{◌∙◌}
use Rattle.vault_keys.proofs.keys.VaultKeys.new.Goals as goal

pub returns-clause-enc : goal.returns-clause-enc
returns-clause-enc c = c.new-2.ensures ∙ c.new.ensures

pub returns-clause-mac : goal.returns-clause-mac
returns-clause-mac c = c.new-4.ensures ∙ c.new-3.ensures
