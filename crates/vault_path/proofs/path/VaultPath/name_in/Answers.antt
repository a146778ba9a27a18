use Rattle.std.proofs.Common.{arith}
use Rattle.std.proofs.lemmas.Grind.{common_steps}
use Rattle.vault_path.proofs.Joined.{front_same, front_other}
use Rattle.vault_path.proofs.path.VaultPath.name_in.Goals as goal

pub returns-then-eq : goal.returns-then-eq
returns-then-eq c = front_same _ _ c.in_ok-name.front.now _ (grind (arith, common_steps)) (cc)

pub returns-else-eq : goal.returns-else-eq
returns-else-eq c = λ name. front_other _ _ c.in_ok-name.front.now c.in_ok-name.name.now name (grind (arith, common_steps)) (cc)
