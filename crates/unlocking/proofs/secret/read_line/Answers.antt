use Rattle.std.proofs.Common.{◌≡◌, ℕ, ◌+◌, ◌<◌, length, subst, arith, ne_eqb}
use Rattle.std.proofs.lemmas.List.{length-set}
use Rattle.outside.specs.Calls.{Changes}
use Rattle.unlocking.specs.Secret.{TakesAtMost}
use Rattle.unlocking.proofs.Lines.{front_put, begun_more, begun_same}
use Rattle.unlocking.proofs.secret.read_line.Goals as goal

pub loop-byte-preserved : goal.loop-byte-preserved
loop-byte-preserved g c =
    let inv = c.loop-byte.invariant in
    let next = rw c.in-Ok-Some.field-0-is at c.in-Ok-Some.ensures.byte in
    let room : c.loop-byte.count < length c.loop-byte.line = omega (arith, inv.0, c.if-count-line.false) in (
      omega (arith, room, length-set c.loop-byte.line c.loop-byte.count c.in-Ok-Some.field-0-0),
      front_put _ _ _ c.loop-byte.count c.in-Ok-Some.field-0-0 c.loop-byte.line room (ne_eqb _ _ c.in-Ok-Some.field-0-0-test.1) inv.1 next,
      omega (arith, inv.2, c.in-Ok-Some.ensures.cause.later),
    )

pub returns-in-Ok-Some-clause-begun : goal.returns-in-Ok-Some-clause-begun
returns-in-Ok-Some-clause-begun g c =
    let inv = c.loop-byte.invariant in
    let next = rw c.in-Ok-Some.field-0-is at c.in-Ok-Some.ensures.byte in
    let same : length c.loop-byte.line ≡ length c.args.line.now = omega (arith, c.loop-byte.auto.line) in
    subst (λ (n : ℕ). Changes (g.S.Source.left c.args.secret.now) (g.S.Source.left c.next_byte.new.secret) (TakesAtMost (n + 1))) same
    (begun_more _ _ _ c.loop-byte.count c.in-Ok-Some.field-0-0 c.loop-byte.line inv.0 inv.1 next)

pub returns-in-Err-clause-begun : goal.returns-in-Err-clause-begun
returns-in-Err-clause-begun g c =
    let inv = c.loop-byte.invariant in
    let same : length c.loop-byte.line ≡ length c.args.line.now = omega (arith, c.loop-byte.auto.line) in
    subst (λ (n : ℕ). Changes (g.S.Source.left c.args.secret.now) (g.S.Source.left c.next_byte.new.secret) (TakesAtMost (n + 1))) same
    (begun_same _ _ _ c.loop-byte.count c.loop-byte.line inv.0 inv.1 c.in-Err.ensures.failed)
