use Rattle.std.proofs.Common.{Some}
use Rattle.vault_names.proofs.Opening.{opened_iff}
use Rattle.vault_names.proofs.sealed.opening_undoes_sealing.Goals as goal

pub returns : goal.returns
returns c = λ parent text name are.
    let law = c.opening_is_exact.ensures in
    opened_iff c.args.keys.now parent text name (law.bytes (Some parent)) (law.exact (Some parent)) are
