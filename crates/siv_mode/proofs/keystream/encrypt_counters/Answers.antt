use Rattle.std.proofs.Common.{ℕ, ◌+◌, ◌%◌, ◌^◌, ◌<◌, List, [], length, get_or, ap, ◌∙◌, arith}
use Rattle.std.proofs.lemmas.List.{get_or-map}
use Rattle.aes_block.specs.Bytes.{bytes_of}
use Rattle.aes_block.proofs.BlockNumbers.{to_be_bytes_block}
use Rattle.siv_mode.proofs.Counters.{set_next}
use Rattle.siv_mode.proofs.keystream.encrypt_counters.Goals as goal

pub loop-j-preserved : goal.loop-j-preserved
loop-j-preserved g c =
    let counter = λ (i : ℕ). (c.args.first + i) % 2 ^ 128 in
    set_next c.loop-j.masks c.loop-j.j c.to_be_bytes.result (λ (i : ℕ). bytes_of 16 (counter i)) (omega (arith, c.loop-j.auto.masks, c.loop-j-test.true))
    (c.to_be_bytes.ensures ∙ to_be_bytes_block (counter c.loop-j.j)) c.loop-j.invariant

pub returns : goal.returns
returns g c = λ j within.
    let cipher = g.K.BlockKey.cipher c.args.key.now in
    let inside : j < length c.loop-j.masks = omega (arith, c.encrypt_blocks.auto.blocks) in
    ap (λ (masks : List (List ℕ)). get_or masks j []) c.encrypt_blocks.ensures ∙ get_or-map cipher c.loop-j.masks j [] [] inside
    ∙ ap cipher (c.loop-j.invariant j (omega (arith, c.loop-j.auto.masks, c.loop-j-test.false)))
