use Rattle.std.proofs.Common.{◌≤◌, length, take, Some, None, arith, length-take}
use Rattle.std.specs.String.{string_bytes}
use Rattle.std.proofs.lemmas.Result.{err_from_is_err_and}
use Rattle.unlocking.proofs.Lines.{begun_line}
use Rattle.unlocking.proofs.Decoding.{same_error}
use Rattle.unlocking.proofs.Passwords.{told_password, told_long, bad_password}
use Rattle.unlocking.proofs.secret.read_password.Goals as goal

pub returns-in_err-count-clause-bad : goal.returns-in_err-count-clause-bad
returns-in_err-count-clause-bad g c =
    let p = err_from_is_err_and c.from_residual.result c.from_residual.ensures.1 in
    rw (p.1, p.2) (λ bad. told_long (g.S.Source.left c.args.secret.now) (c.in_err-count.ensures.long (same_error _ _ bad)))

pub returns-clause-password : goal.returns-clause-password
returns-clause-password g c =
    told_password (g.S.Source.left c.args.secret.now) (g.S.Source.left c.read_line.new.secret) (take c.in_ok-count.count c.read_line.new.line) (Some (string_bytes c.in_ok-password.field-0))
    c.in_ok-count.ensures.line c.in_ok-password.ensures.password

pub returns-in_err-password-clause-bad : goal.returns-in_err-password-clause-bad
returns-in_err-password-clause-bad g c =
    let p = err_from_is_err_and c.from_residual-in_err-password.result c.from_residual-in_err-password.ensures.1 in
    rw (p.1, p.2) (λ bad. told_password (g.S.Source.left c.args.secret.now) (g.S.Source.left c.read_line.new.secret) (take c.in_ok-count.count c.read_line.new.line) None
    c.in_ok-count.ensures.line (c.in_err-password.ensures.bad (bad_password _ bad)))

pub returns-in_err-password-clause-begun : goal.returns-in_err-password-clause-begun
returns-in_err-password-clause-begun g c =
    let line = take c.in_ok-count.count c.read_line.new.line in
    let few : length line ≤ 1024 = omega (arith, length-take c.in_ok-count.count c.read_line.new.line, c.in_ok-count.ensures.count) in
    begun_line (g.S.Source.left c.args.secret.now) (g.S.Source.left c.read_line.new.secret) 1024 line few c.in_ok-count.ensures.line

pub returns-clause-begun : goal.returns-clause-begun
returns-clause-begun g c =
    let line = take c.in_ok-count.count c.read_line.new.line in
    let few : length line ≤ 1024 = omega (arith, length-take c.in_ok-count.count c.read_line.new.line, c.in_ok-count.ensures.count) in
    begun_line (g.S.Source.left c.args.secret.now) (g.S.Source.left c.read_line.new.secret) 1024 line few c.in_ok-count.ensures.line
