use Rattle.std.proofs.Common.{[], false, refl}
use Rattle.session_tests.proofs.Beginnings.{since_nothing}
use Rattle.session_tests.proofs.rounds.serve.Goals as goal

pub serve_all-requires-clause-right : goal.serve_all-requires-clause-right
serve_all-requires-clause-right g c κs within = record {
  rows = record { nodes = []; next = 0; named_twice = false };
  origin = record { folder_faults = 0; entropy_faults = λ j. 0; moment = 0 };
  begins = λ j. refl;
  right = refl;
}

pub serve_all-requires-clause-since : goal.serve_all-requires-clause-since
serve_all-requires-clause-since g c κs within = λ rows origin none. since_nothing _ origin 0 c.in_ok-workers.workers.items none
