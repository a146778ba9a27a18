use Rattle.vault_config.proofs.Parts.{split_at_dot, pieces_of-no_dot}
use Rattle.vault_config.proofs.token.around_dot.Goals as goal

pub returns-in_err-dot : goal.returns-in_err-dot
returns-in_err-dot c = rw c.from_residual.ensures (pieces_of-no_dot c.args.bytes.now c.in_err-dot.ensures)

pub returns : goal.returns
returns c = split_at_dot c.args.bytes.now c.in_ok-dot.dot c.in_ok-dot.ensures
