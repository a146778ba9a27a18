use Rattle.std.proofs.Common.{◌≡◌, ◌+◌, ◌*◌, ◌/◌, length, refl, take, arith}
use Rattle.aes_block.specs.Aes.{state_after}
use Rattle.aes_block.proofs.StateLemmas.{state_after-more, aes-is}
use Rattle.model_contents.proofs.cipher.aes.Goals as goal

pub loop-round-init : goal.loop-round-init
unfolding state_after
loop-round-init c = c.add_round_key-state.ensures

pub loop-round-preserved : goal.loop-round-preserved
loop-round-preserved c =
    let schedule = take (16 * (length c.args.key.now / 4 + 6 + 1)) c.key_schedule-schedule.result in
    let next = state_after-more schedule c.args.block c.loop-round.state c.loop-round.round (omega arith) c.loop-round.invariant in
    cc

pub returns : goal.returns
returns c =
    let rounds = length c.args.key.now / 4 + 6 in
    let at_end : c.loop-round.round ≡ rounds = omega arith in
    let last = aes-is c.args.key.now (take (16 * (rounds + 1)) c.key_schedule-schedule.result) c.args.block rounds c.key_schedule-schedule.ensures refl in
    cc
