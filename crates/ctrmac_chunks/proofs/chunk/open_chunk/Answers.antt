use Rattle.std.proofs.Common.{◌≡◌, ◌-◌, true, length, drop, nat_lt, Some, None, ap, sym, refl, ◌∙◌, arith, length-take}
use Rattle.std.proofs.lemmas.Grind.{common_steps}
use Rattle.std.proofs.lemmas.List.{take_at}
use Rattle.std.proofs.lemmas.Result.{err_from_is_err_and}
use Rattle.ctrmac_chunks.specs.Chunk.{chunk_opens}
use Rattle.ctrmac_chunks.proofs.Layouts.{chunk_opens_is}
use Rattle.ctrmac_chunks.proofs.chunk.open_chunk.Goals as goal

-- No chunk is that short.
pub returns-then-sealed-lt-SEALING_LENGTH-clause-damaged : goal.returns-then-sealed-lt-SEALING_LENGTH-clause-damaged
unfolding chunk_opens
returns-then-sealed-lt-SEALING_LENGTH-clause-damaged c =
    let short : nat_lt (length c.args.sealed.now) 48 ≡ true = grind (arith, common_steps, c.if-sealed-lt-SEALING_LENGTH.true) in
    rw short refl

pub returns-in_err-open_into-clause-damaged : goal.returns-in_err-open_into-clause-damaged
returns-in_err-open_into-clause-damaged c =
    let p = err_from_is_err_and c.from_residual.result c.from_residual.ensures.1 in
    rw p.1 (chunk_opens_is c.args.header.now c.args.index _ _ _ c.args.sealed.now None c.key.ensures c.mac_key.ensures c.bound_to-bound.ensures c.in_err-open_into.ensures.damaged)

pub returns-clause-opened : goal.returns-clause-opened
returns-clause-opened c =
    let opened = c.open_into.new.out in
    let n : length opened ≡ length c.args.sealed.now - 48 = omega (arith, length-take (length c.args.sealed.now - 48) c.args.out.now) in
    chunk_opens_is c.args.header.now c.args.index _ _ _ c.args.sealed.now (Some opened) c.key.ensures c.mac_key.ensures c.bound_to-bound.ensures c.in_ok-open_into.ensures.opened
    ∙ ap Some (sym (take_at opened (drop (length c.args.sealed.now - 48) c.args.out.now) _ n))
