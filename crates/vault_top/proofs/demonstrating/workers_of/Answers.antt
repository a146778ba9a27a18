use Rattle.std.proofs.Common.{◌∙◌, ◌≡◌, ◌++◌, ℕ, [], ◌∷◌, List, map, sym, ap, arith}
use Rattle.std.specs.List.{range_with_len}
use Rattle.std.proofs.lemmas.List.FromFn.{map-range_with_len_more}
use Rattle.outside_mem.specs.Links.{Links}
use Rattle.outside_mem.specs.Words.{Drawing}
use Rattle.shared_tree.specs.declared.workers.Worker.{Worker}
use Rattle.vault_top.specs.Demonstrated.{worker_of}
use Rattle.vault_top.proofs.demonstrating.workers_of.Goals as goal

pub loop-client-preserved : goal.loop-client-preserved
loop-client-preserved c =
    let client = c.loop-client.client in
    let worker = worker_of c.args.scripts.seed c.args.scripts.requests in
    let next : record { listener = c.in_ok-listener.listener; entropy = c.worker_entropy-entropy.result; clock = c.new-clock.result } ≡ worker client = λ i. record {
      listener = c.in_ok-listener.ensures i;
      entropy = c.worker_entropy-entropy.ensures i;
      clock = c.new-clock.ensures i;
    }
    in
    record {
      made = c.in_ok-push.ensures.items
          ∙ ap (λ (workers : List (Worker Links Drawing ℕ)). workers ++ record { listener = c.in_ok-listener.listener; entropy = c.worker_entropy-entropy.result; clock = c.new-clock.result } ∷ []) c.loop-client.invariant.made
          ∙ ap (λ (w : Worker Links Drawing ℕ). map worker (range_with_len 0 client) ++ w ∷ []) next
          ∙ sym (map-range_with_len_more worker 0 client client (omega arith));
    }
