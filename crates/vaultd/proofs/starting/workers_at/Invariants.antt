use Rattle.std.proofs.Common.{◌≡◌}
use Rattle.std.specs.Prelude.{vec_len}
use Rattle.std.specs.List.{AllByRecursion}
use Rattle.vaultd.proofs.starting.workers_at.Given as goal

abbrev pub invariant-loop : goal.invariant-loop
invariant-loop g l = record {
  count : vec_len l.workers ≡ l.counter;
  listening : AllByRecursion (λ worker. (worker.listener.faults ≡ 0) × (worker.listener.socket.now ≡ l.socket)) l.workers.items;
}
