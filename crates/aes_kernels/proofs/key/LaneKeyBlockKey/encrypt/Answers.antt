use Rattle.std.proofs.Common.{◌≡◌, ℕ, ◌-◌, map, ap, subst, ◌∙◌, arith}
use Rattle.aes_kernels.specs.Nibbles.{AreRoundKeys, IsKey, based, last_round_of, round_of}
use Rattle.aes_kernels.proofs.LaneKeys.{after, first-is, last-is, next-is}
use Rattle.aes_kernels.proofs.key.LaneKeyBlockKey.encrypt.Goals as goal

pub loop-r-init : goal.loop-r-init
loop-r-init c =
    let key : IsKey c.args.self.now = subst IsKey c.self.view_is c.self.invariant.0 in
    let keys : AreRoundKeys c.args.self.now c.self.inside.round_keys = subst (λ k. AreRoundKeys k c.self.inside.round_keys) c.self.view_is c.self.invariant.1 in
    c.first_round-x.ensures ∙ first-is c.args.self.now _ c.args.block.now key c.is_block.ensures (keys 0 (omega arith))

pub loop-r-preserved : goal.loop-r-preserved
loop-r-preserved c =
    let key : IsKey c.args.self.now = subst IsKey c.self.view_is c.self.invariant.0 in
    let keys : AreRoundKeys c.args.self.now c.self.inside.round_keys = subst (λ k. AreRoundKeys k c.self.inside.round_keys) c.self.view_is c.self.invariant.1 in
    c.round-next.ensures ∙ ap (round_of _) c.loop-r.invariant
    ∙ next-is c.args.self.now _ c.args.block.now c.loop-r.r key c.is_block.ensures (omega arith) c.loop-r-test.true (keys c.loop-r.r (omega arith))

pub returns : goal.returns
returns c =
    let key : IsKey c.args.self.now = subst IsKey c.self.view_is c.self.invariant.0 in
    let keys : AreRoundKeys c.args.self.now c.self.inside.round_keys = subst (λ k. AreRoundKeys k c.self.inside.round_keys) c.self.view_is c.self.invariant.1 in
    let end : c.loop-r.r ≡ 14 = omega arith in
    c.last_round.ensures ∙ ap (last_round_of _) (c.loop-r.invariant ∙ ap (λ (n : ℕ). map based (after c.args.self.now (n - 1) c.args.block.now)) end)
    ∙ last-is c.args.self.now _ c.args.block.now key c.is_block.ensures (keys 14 (omega arith))
