use Rattle.std.proofs.Common.{map, bit_xor, ap, sym, ◌∙◌}
use Rattle.std.proofs.lemmas.Simd.{map-map}
use Rattle.aes_kernels.specs.Nibbles.{based}
use Rattle.aes_kernels.proofs.LaneKeys.{formed-first, formed-last, formed-other}
use Rattle.aes_kernels.proofs.key.formed.Goals as goal

pub returns-then-round-eq0 : goal.returns-then-round-eq0
returns-then-round-eq0 c = c.based.ensures ∙ sym (formed-first c.args.round c.args.key c.if-round-eq0.true)

pub returns-then-round-eq14 : goal.returns-then-round-eq14
returns-then-round-eq14 c = c.flipped-flipped.ensures ∙ sym (formed-last c.args.round c.args.key c.if-round-eq14.true)

pub returns : goal.returns
returns c =
    c.based-2.ensures ∙ ap (map based) c.flipped-flipped.ensures ∙ map-map based (λ b. bit_xor b 0x63) c.args.key
    ∙ sym (formed-other c.args.round c.args.key c.if-round-eq0.false c.if-round-eq14.false)
