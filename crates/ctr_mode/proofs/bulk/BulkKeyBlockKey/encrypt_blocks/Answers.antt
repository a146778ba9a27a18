use Rattle.std.proofs.Common.{◌≡◌, ℕ, ◌-◌, ◌*◌, ◌/◌, List, ◌++◌, length, map, take, drop, ap, subst, ◌∙◌, arith}
use Rattle.aes_block.specs.Aes.{aes}
use Rattle.aes_kernels.specs.Circuit.{AreRoundKeys}
use Rattle.aes_kernels.proofs.Groups.{eight_more}
use Rattle.ctr_mode.proofs.Blocks.{rest_done}
use Rattle.ctr_mode.proofs.bulk.BulkKeyBlockKey.encrypt_blocks.Goals as goal

pub loop-i-preserved : goal.loop-i-preserved
loop-i-preserved c =
    let keys : AreRoundKeys c.args.self.now c.self.inside.planes.value = subst (λ (key : List ℕ). AreRoundKeys key c.self.inside.planes.value) c.self.view_is c.self.invariant in
    eight_more (aes c.args.self.now) c.args.blocks.now c.loop-i.blocks c.encrypted_eight-made.result c.loop-i.i (omega arith) (omega arith) c.loop-i.invariant
    (c.encrypted_eight-made.ensures c.args.self.now keys)

pub returns : goal.returns
returns c =
    let cipher : List ℕ → List ℕ = aes c.args.self.now in
    let blocks : List (List ℕ) = c.args.blocks.now in
    let now : List (List ℕ) = c.loop-i.blocks in
    let at : ℕ = 8 * (length c.args.blocks.now / 8) in
    let left : List (List ℕ) = take (length now - at) (drop at now) in
    let end : c.loop-i.i ≡ length c.args.blocks.now / 8 = omega arith in
    rest_done cipher blocks now c.encrypt_blocks.new.blocks at _ (omega arith) (omega arith)
    (subst (λ (n : ℕ). now ≡ map cipher (take (8 * n) blocks) ++ drop (8 * n) blocks) end c.loop-i.invariant)
    (c.encrypt_blocks.ensures ∙ ap (λ (key : List ℕ). map (aes key) left) c.self.view_is)
