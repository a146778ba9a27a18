use Rattle.std.proofs.Common.{arith}
use Rattle.session_server.proofs.Sharing.{all_served, counts_of, few_of, have_served}
use Rattle.session_server.proofs.workers.run_workers.Goals as goal

pub all_counts-requires : goal.all_counts-requires
all_counts-requires g c =
    let all = all_served _ _ _ _ _ _ _ _ c.serve_crews.ensures.same c.serve_crews.ensures.served in
    let few = few_of _ _ _ _ _ _ _ _ all.0 all.1 in
    let most = c.ranges.sessions.fits in
    record { few = (all.0, counts_of _ _ _ _ _ _ 0 _ _ all.0 all.1, omega arith) }

pub returns : goal.returns
returns g c =
    let all = all_served _ _ _ _ _ _ _ _ c.serve_crews.ensures.same c.serve_crews.ensures.served in record {
      served = have_served _ _ _ _ _ _ _ _ all.0 c.all_counts.result all.1 (c.all_counts.ensures.counted all.0 (counts_of _ _ _ _ _ _ 0 _ _ all.0 all.1)) c.all_counts.ensures.none c.all_counts.ensures.some;
    }
