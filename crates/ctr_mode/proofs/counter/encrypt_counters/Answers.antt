use Rattle.std.proofs.Common.{ℕ, ◌+◌, ◌%◌, ◌^◌, ◌<◌, List, [], length, get_or, ap, ◌∙◌, arith}
use Rattle.std.proofs.lemmas.List.{get_or-map}
use Rattle.aes_block.proofs.BlockNumbers.{to_be_bytes_block}
use Rattle.ctr_mode.specs.Counter.{counter_block}
use Rattle.ctr_mode.proofs.Counters.{set_next}
use Rattle.ctr_mode.proofs.counter.encrypt_counters.Goals as goal

pub loop-j-preserved : goal.loop-j-preserved
loop-j-preserved g c =
    set_next c.loop-j.masks c.loop-j.j c.to_be_bytes.result (counter_block c.args.first) (omega (arith, c.loop-j.auto.masks, c.loop-j-test.true))
    (c.to_be_bytes.ensures ∙ to_be_bytes_block ((c.args.first + c.loop-j.j) % 2 ^ 128)) c.loop-j.invariant

pub returns : goal.returns
returns g c = λ j within.
    let cipher = g.K.BlockKey.cipher c.args.key.now in
    let inside : j < length c.loop-j.masks = omega (arith, c.encrypt_blocks.auto.blocks) in
    ap (λ (masks : List (List ℕ)). get_or masks j []) c.encrypt_blocks.ensures ∙ get_or-map cipher c.loop-j.masks j [] [] inside
    ∙ ap cipher (c.loop-j.invariant j (omega (arith, c.loop-j.auto.masks, c.loop-j-test.false)))
