use Rattle.std.proofs.Common.{arith, ◌≤◌, length, take}
use Rattle.std.proofs.lemmas.Result.{err_from_is_err_and}
use Rattle.session_server.proofs.Stops.{bad_frame, stop_after}
use Rattle.session_server.proofs.frame.read_frame.Goals as goal
use Rattle.session_server.proofs.frame.read_frame.Goals.{then-size-lt-HEADER_LEN-via-then-size-lt-HEADER_LEN, then-size-lt-HEADER_LEN-via-else-size-lt-HEADER_LEN+then-size-limit}

pub returns-then-size-lt-HEADER_LEN-clause-stops : goal.returns-then-size-lt-HEADER_LEN-clause-stops
returns-then-size-lt-HEADER_LEN-clause-stops g c =
    let long : 4 ≤ length c.read_size.new.frame = omega (arith, c.read_size.auto.frame) in
    bad_frame c.args.session.now _ _ c.in_ok-size.size c.read_size.new.frame long c.in_ok-size.ensures.size
    (elim c.then-size-lt-HEADER_LEN.branch [
      | then-size-lt-HEADER_LEN-via-then-size-lt-HEADER_LEN w ↦ λ good. absurd (omega arith)
      | then-size-lt-HEADER_LEN-via-else-size-lt-HEADER_LEN+then-size-limit w ↦ λ good. absurd (omega (arith, w.limit.ensures.value, w.if-size-limit.true))
    ])
    c.in_ok-size.ensures.bytes

pub returns-in_err-read_rest-clause-stops : goal.returns-in_err-read_rest-clause-stops
returns-in_err-read_rest-clause-stops g c =
    let p = err_from_is_err_and c.from_residual-in_err-read_rest.result c.from_residual-in_err-read_rest.ensures.1 in
    rw (p.1, p.2)
    (stop_after (take 4 c.read_size.new.frame) c.args.session.now _ _ _ _ c.in_ok-size.ensures.bytes
    (c.in_err-read_rest.ensures.stops c.args.session.now (omega arith, omega (arith, c.limit.ensures.value, c.if-size-limit.false))))
