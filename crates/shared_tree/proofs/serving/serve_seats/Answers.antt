use Rattle.std.proofs.Common.{arith}
use Rattle.shared_tree.proofs.Crews.{crews_pairs}
use Rattle.shared_tree.proofs.serving.serve_seats.Goals as goal

pub dismiss-requires-clause-room : goal.dismiss-requires-clause-room
dismiss-requires-clause-room g c =
    let pairs = crews_pairs _ _ _ c.hire.ensures.hired in
    let seats = pairs.0 in
    let workers = pairs.1 in
    let same = c.run_all-counts.ensures.same in
    let caps = c.hire.ensures.room.0 in
    let caps' = c.hire.ensures.room.1 in
    let ok = c.args.seats.ok in
    let ok' = c.args.workers.now.ok in
    let new = c.run_all-counts.new.crews.ok in (omega arith, omega arith)
