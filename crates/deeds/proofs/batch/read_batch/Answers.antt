use Rattle.std.proofs.Common.{◌≡◌, ℕ, zero, suc, ◌<◌, eqb, false, length, sym, arith}
use Rattle.std.proofs.lemmas.Bool.{eqb-true}
use Rattle.deeds.specs.Plain.{plains}
use Rattle.deeds.proofs.BatchBytes.{short_bad, left_bad, whole_read}
use Rattle.deeds.proofs.batch.read_batch.Goals as goal

absurd_or_more : (n : ℕ) → false ≡ eqb n 0 → 0 < n
absurd_or_more zero e = absurd cc
absurd_or_more (suc n) e = omega arith

pub returns-in-Err-Bad-clause-bad : goal.returns-in-Err-Bad-clause-bad
returns-in-Err-Bad-clause-bad c = short_bad c.args.bytes.now (rw c.in-Err-Bad.field-0-is at c.in-Err-Bad.ensures)

pub returns-then-not-is_empty-clause-bad : goal.returns-then-not-is_empty-clause-bad
returns-then-not-is_empty-clause-bad c =
    let f = c.in_ok-deeds.ensures.found in
    let rest = c.in_ok-deeds.rest.now in
    let left : 0 < length rest = absurd_or_more (length rest) (c.if-not-is_empty.ensures) in
    left_bad c.args.bytes.now c.in-Ok.found.0 c.in-Ok.found.1.now rest (plains c.in_ok-deeds.deeds.items) c.in-Ok.ensures f.0 f.1 f.2 left

pub returns-clause-found : goal.returns-clause-found
returns-clause-found c =
    let f = c.in_ok-deeds.ensures.found in
    let rest = c.in_ok-deeds.rest.now in
    whole_read c.args.bytes.now c.in-Ok.found.0 c.in-Ok.found.1.now rest (plains c.in_ok-deeds.deeds.items) (λ i. omega (arith, c.type_inv.bytes i)) c.in-Ok.ensures f.0 f.1 f.2 (eqb-true _ _ (sym c.if-not-is_empty.ensures)) (omega arith)
