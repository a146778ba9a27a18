use Rattle.std.proofs.Common.{◌≡◌, ℕ, ◌-◌, true, length, take, drop, replicate, nat_lt, Some, None, ap, sym, refl, ◌∙◌, arith, length-take}
use Rattle.std.proofs.lemmas.Grind.{common_steps}
use Rattle.file_chunks.specs.Chunk.{chunk_opens}
use Rattle.std.proofs.lemmas.List.{take_at, drop_at, length-take-le}
use Rattle.std.proofs.lemmas.Result.{err_from_is_err_and}
use Rattle.file_chunks.proofs.Layouts.{chunk_opens_is}
use Rattle.file_chunks.proofs.chunk.open_chunk.Goals as goal

-- No chunk is that short.
pub returns-then-sealed-lt-SEALING_LENGTH-clause-damaged : goal.returns-then-sealed-lt-SEALING_LENGTH-clause-damaged
unfolding chunk_opens
returns-then-sealed-lt-SEALING_LENGTH-clause-damaged c =
    let short : nat_lt (length c.args.sealed.now) 28 ≡ true = grind (arith, common_steps, c.if-sealed-lt-SEALING_LENGTH.true) in
    rw short refl

pub returns-in_err-open_into-clause-damaged : goal.returns-in_err-open_into-clause-damaged
returns-in_err-open_into-clause-damaged c =
    let p = err_from_is_err_and c.from_residual.result c.from_residual.ensures.1 in
    rw p.1 (chunk_opens_is c.args.header.now c.args.index _ _ c.args.sealed.now None c.key.ensures c.associated_data-ad.ensures c.in_err-open_into.ensures.damaged)

pub returns-clause-opened : goal.returns-clause-opened
returns-clause-opened c =
    let opened = c.open_into.new.out in
    let n : length opened ≡ length c.args.sealed.now - 28 = omega (arith, length-take (length c.args.sealed.now - 28) c.args.out.now) in
    chunk_opens_is c.args.header.now c.args.index _ _ c.args.sealed.now (Some opened) c.key.ensures c.associated_data-ad.ensures c.in_ok-open_into.ensures.opened
    ∙ ap Some (sym (take_at opened (drop (length c.args.sealed.now - 28) c.args.out.now) _ n))

pub returns-clause-rest : goal.returns-clause-rest
returns-clause-rest c = drop_at c.open_into.new.out _ _ (omega (arith, length-take (length c.args.sealed.now - 28) c.args.out.now))

pub returns-in_err-open_into-clause-rest : goal.returns-in_err-open_into-clause-rest
returns-in_err-open_into-clause-rest c = drop_at c.open_into.new.out _ _ (omega (arith, length-take (length c.args.sealed.now - 28) c.args.out.now))

pub returns-in_err-open_into-clause-zeros : goal.returns-in_err-open_into-clause-zeros
returns-in_err-open_into-clause-zeros c =
    let p = err_from_is_err_and c.from_residual.result c.from_residual.ensures.1 in
    let front = take (length c.args.sealed.now - 28) c.args.out.now in
    let size : length front ≡ length c.args.sealed.now - 28 = length-take-le (length c.args.sealed.now - 28) c.args.out.now (omega arith) in
    rw p.1 (take_at c.open_into.new.out _ _ (c.open_into.auto.out ∙ size) ∙ c.in_err-open_into.ensures.zeros ∙ ap (λ (n : ℕ). replicate n 0) size)

pub returns-then-sealed-lt-SEALING_LENGTH-clause-zeros : goal.returns-then-sealed-lt-SEALING_LENGTH-clause-zeros
returns-then-sealed-lt-SEALING_LENGTH-clause-zeros c =
    let none : length c.args.sealed.now - 28 ≡ 0 = omega arith in
    rw none refl
