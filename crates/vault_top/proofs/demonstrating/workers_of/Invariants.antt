use Rattle.std.proofs.Common.{◌≡◌, map}
use Rattle.std.specs.List.{range_with_len}
use Rattle.vault_top.specs.Demonstrated.{worker_of}
use Rattle.vault_top.proofs.demonstrating.workers_of.Given as goal

-- the workers of the clients before this one
abbrev pub invariant-loop-client : goal.invariant-loop-client
invariant-loop-client l = record { made : l.workers.items ≡ map (worker_of l.scripts.seed l.scripts.requests) (range_with_len 0 l.client) }
