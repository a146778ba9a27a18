use Rattle.std.proofs.Common.{◌≡◌, ◌*◌, ◌+◌, ◌-◌, ℕ, ap, take, drop, ◌∙◌, arith}
use Rattle.aes_block.proofs.schedule.round_key.Goals as goal

pub returns : goal.returns
returns c =
    let size : 16 * c.args.round + 16 - 16 * c.args.round ≡ 16 = omega arith in
    c.copy_from_slice.ensures.after ∙ ap (λ (n : ℕ). take n (drop (16 * c.args.round) c.args.schedule.now)) size
