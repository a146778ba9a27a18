use Rattle.std.proofs.Common.{◌≡◌, ℕ, List, ap, ◌∙◌, arith}
use Rattle.aes_block.specs.Bytes.{xor_bytes}
use Rattle.siv_mode.specs.Cmac.{zero_block, doubled}
use Rattle.siv_mode.proofs.Chains.{cmac_from_whole, cmac_from_part}
use Rattle.siv_mode.proofs.mac.RunningMac.finish.Goals as goal
use Rattle.siv_mode.proofs.mac.RunningMac.finish.Goals.{then-self-eq16, else-self-eq16}

pub returns : goal.returns
returns g c = λ text h.
    let cipher = g.K.BlockKey.cipher c.args.key.now in
    let subkey : c.double-last.result ≡ doubled (cipher zero_block) = c.double-last.ensures ∙ ap doubled c.encrypt.ensures in
    let tag = c.encrypt-2.ensures ∙ ap cipher c.xor_onto-2.ensures in
    let tag_of = λ (last : List ℕ). cipher (xor_bytes c.args.self.chain last) in
    elim c.if-self-eq16.branch [
      | then-self-eq16 w ↦ (let last = w.last-is ∙ w.xor_onto.ensures ∙ ap (λ k. xor_bytes k c.args.self.block) subkey in
          tag ∙ ap tag_of last ∙ cmac_from_whole cipher _ _ text _ h c.args.self.whole w.if-self-eq16.true)
      | else-self-eq16 w ↦ (let twice = w.double-last-else-self-eq16.ensures ∙ ap doubled subkey in
          let last = w.last-is ∙ w.xor_onto-else-self-eq16.ensures ∙ (λ i. xor_bytes (twice i) (w.pad.ensures i)) in
          tag ∙ ap tag_of last ∙ cmac_from_part cipher _ _ text _ h c.args.self.whole (omega arith))
    ]
