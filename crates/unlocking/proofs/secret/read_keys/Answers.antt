use Rattle.std.proofs.Common.{◌≤◌, length, take, arith, length-take}
use Rattle.std.proofs.lemmas.Result.{err_from_is_err_and}
use Rattle.unlocking.proofs.Lines.{begun_line}
use Rattle.unlocking.proofs.Decoding.{told_too_long, same_error}
use Rattle.unlocking.proofs.secret.read_keys.Goals as goal

pub returns-in_err-count-clause-bad : goal.returns-in_err-count-clause-bad
returns-in_err-count-clause-bad g c =
    let p = err_from_is_err_and c.from_residual.result c.from_residual.ensures.1 in
    rw (p.1, p.2) (λ bad. told_too_long (g.S.Source.left c.args.secret.now) (c.in_err-count.ensures.long (same_error _ _ bad)))

pub returns-in-None-clause-begun : goal.returns-in-None-clause-begun
returns-in-None-clause-begun g c =
    let line = take c.in_ok-count.count c.read_line.new.line in
    let few : length line ≤ 128 = omega (arith, length-take c.in_ok-count.count c.read_line.new.line, c.in_ok-count.ensures.count) in
    begun_line (g.S.Source.left c.args.secret.now) (g.S.Source.left c.read_line.new.secret) 128 line few c.in_ok-count.ensures.line
