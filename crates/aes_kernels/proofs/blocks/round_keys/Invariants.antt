use Rattle.std.proofs.Common.{◌≡◌, ◌<◌, ℕ, [], length, get_or}
use Rattle.aes_block.specs.Aes.{key_schedule, round_key}
use Rattle.aes_kernels.specs.Circuit.{AreKeyPlanes}
use Rattle.aes_kernels.proofs.blocks.round_keys.Given as goal

-- the first round keys' planes are made
abbrev pub invariant-loop-r : goal.invariant-loop-r
invariant-loop-r l = (length l.keys ≡ 15) × ((k : ℕ) → k < l.r → (length (round_key (key_schedule l.key) k) ≡ 16) × AreKeyPlanes l.key k (get_or l.keys k []))
