use Rattle.std.proofs.Common.{◌==◌}
use Rattle.masterkey_file.proofs.Lines.{before_first-at, before_first-none}
use Rattle.masterkey_file.proofs.secret.first_line.Goals as goal

pub returns-in-Some : goal.returns-in-Some
returns-in-Some c = before_first-at (λ b. b == 10) c.args.bytes.now c.in-Some.end c.in-Some.ensures

pub returns-in-None : goal.returns-in-None
returns-in-None c = before_first-none (λ b. b == 10) c.args.bytes.now c.in-None.ensures
