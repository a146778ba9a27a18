use Rattle.vault_top.proofs.Unchanged.{unchanged_by}
use Rattle.vault_top.proofs.laws.a_read_only_run_changes_nothing.Goals as goal

pub returns : goal.returns
returns g c = λ views span ending serving asked read_only reason. unchanged_by span serving asked read_only views ending reason
