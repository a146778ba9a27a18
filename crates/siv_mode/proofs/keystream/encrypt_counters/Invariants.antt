use Rattle.std.proofs.Common.{◌≡◌, ℕ, ◌+◌, ◌<◌, ◌%◌, ◌^◌, [], get_or}
use Rattle.aes_block.specs.Bytes.{bytes_of}
use Rattle.siv_mode.proofs.keystream.encrypt_counters.Given as goal

-- the first counters are set
abbrev pub invariant-loop-j : goal.invariant-loop-j
invariant-loop-j g l = (k : ℕ) → k < l.j → get_or l.masks k [] ≡ bytes_of 16 ((l.first + k) % 2 ^ 128)
