use Rattle.std.proofs.Common.{◌+◌, ◌*◌, ◌/◌, ◌∙◌, length, arith}
use Rattle.std.proofs.lemmas.Slice.{take-put_mid}
use Rattle.aes_block.proofs.KeyLemmas.{expanded_key-more}
use Rattle.model_contents.proofs.CipherSchedules.{schedule-begun, schedule-done}
use Rattle.model_contents.proofs.cipher.key_schedule.Goals as goal

pub loop-i-init : goal.loop-i-init
loop-i-init c = schedule-begun c.args.key.now _ _ c.requires c.copy_from_slice.ensures.after

pub loop-i-preserved : goal.loop-i-preserved
loop-i-preserved c =
    let s = c.loop-i.schedule in
    let i = c.loop-i.i in
    let key = c.args.key.now in
    take-put_mid (4 * i) _ s _ (4 * (i + 1)) (omega arith) (omega arith)
    ∙ expanded_key-more key s _ _ _ _ (length key / 4) i (omega arith) (omega arith) (omega arith) c.loop-i.invariant
    c.word.ensures c.word-in-loop-i.ensures c.schedule_step-step.ensures (c.copy_from_slice-in-loop-i.ensures.after ∙ c.xored-next.ensures)

pub returns : goal.returns
returns c = schedule-done c.args.key.now c.loop-i.schedule c.loop-i.i (omega arith) c.loop-i.invariant
