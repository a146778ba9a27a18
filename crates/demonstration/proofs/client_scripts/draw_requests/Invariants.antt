use Rattle.std.proofs.Common.{◌≡◌, ◌+◌, ◌++◌}
use Rattle.demonstration.proofs.Drawn.{drawn_bytes, generator_at}
use Rattle.demonstration.proofs.client_scripts.draw_requests.Given as goal

abbrev pub invariant-loop : goal.invariant-loop
invariant-loop l = record {
  sent : l.out.items ≡ l.initial.out.items ++ drawn_bytes l.seed l.client l.counter;
  place : l.words ≡ generator_at l.seed (1 + l.client) l.counter;
}
