use Rattle.std.proofs.Common.{◌≡◌, ◌<◌, ℕ, [], get_or, length}
use Rattle.aes_block.specs.Aes.{key_schedule, round_key}
use Rattle.aes_kernels.specs.Nibbles.{formed}
use Rattle.aes_kernels.proofs.key.LaneKey.new.Given as goal

-- the first round keys are made
abbrev pub invariant-loop-round : goal.invariant-loop-round
invariant-loop-round l = (length l.round_keys ≡ 15) × ((r : ℕ) → r < l.round → get_or l.round_keys r [] ≡ formed r (round_key (key_schedule l.key) r))
