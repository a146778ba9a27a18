use Rattle.std.proofs.Common.{◌≡◌, ℕ, ◌<◌, [], get_or}
use Rattle.ctr_mode.specs.Counter.{counter_block}
use Rattle.ctr_mode.proofs.counter.encrypt_counters.Given as goal

-- the first counters are set
abbrev pub invariant-loop-j : goal.invariant-loop-j
invariant-loop-j g l = (k : ℕ) → k < l.j → get_or l.masks k [] ≡ counter_block l.first k
