use Rattle.std.proofs.Common.{arith, length, sym, ap, subst, ◌∙◌}
use Rattle.std.specs.Prelude.{All}
use Rattle.turn_lock.specs.Seats.{IsIdle}
use Rattle.turn_lock.proofs.SeatLists.{new_seats_idle, length-new_seats}
use Rattle.shared_tree.proofs.Joining.{new_here, ready_of_new, worked_pairs, worked_idle, joined_of, stands_new}
use Rattle.shared_tree.proofs.serving.serve_all.Goals as goal

pub serve_seats-requires-clause-here : goal.serve_seats-requires-clause-here
serve_seats-requires-clause-here g c κs within = new_here c.in_ok-shared.shared.id 0 _ c.in_ok-shared.seats.items c.in_ok-shared.ensures.ok.1

pub serve_seats-requires-clause-ready : goal.serve_seats-requires-clause-ready
serve_seats-requires-clause-ready g c κs within =
    ready_of_new g.B.Start.is g.E.Entropy.faults c.in_ok-shared.shared.id _ c.in_ok-shared.seats.items c.args.workers.now.items c.in_ok-shared.ensures.ok.1 (let len = c.len.ensures in let ok = c.args.workers.now.ok in omega arith) c.requires.since

pub close-requires-clause-all : goal.close-requires-clause-all
close-requires-clause-all g c =
    let pairs = worked_pairs _ _ _ _ _ _ _ _ _ _ _ _ _ c.in-Ok.ensures.ok in
    let count = pairs.0 in
    let made = c.in_ok-shared.ensures.ok.0 in
    let some = c.requires.some in
    let len = c.len.ensures in
    let ok = c.args.workers.now.ok in
    let ok' = c.in-Ok.field-0.seats.ok in (omega arith, omega arith)

pub close-requires-clause-idle : goal.close-requires-clause-idle
close-requires-clause-idle g c = worked_idle _ _ _ _ _ _ _ _ _ _ _ _ _ c.in_ok-shared.shared.id _ c.in_ok-shared.ensures.ok.1 c.in-Ok.ensures.ok

pub close-requires-in-Err-clause-all : goal.close-requires-in-Err-clause-all
close-requires-in-Err-clause-all g c =
    let same = ap length c.in-Err.ensures.err.0 in
    let many = length-new_seats c.in_ok-shared.shared.id 0 _ c.in_ok-shared.seats.items c.in_ok-shared.ensures.ok.1 in
    let made = c.in_ok-shared.ensures.ok.0 in
    let some = c.requires.some in
    let len = c.len.ensures in
    let ok = c.args.workers.now.ok in
    let ok' = c.in-Err.seats.ok in (omega arith, omega arith)

pub close-requires-in-Err-clause-idle : goal.close-requires-in-Err-clause-idle
close-requires-in-Err-clause-idle g c =
    subst (All (IsIdle c.in_ok-shared.shared.id)) (sym (c.in-Err.ensures.err.0 ∙ c.in_ok-shared.ensures.ok.1)) (new_seats_idle c.in_ok-shared.shared.id 0 _)

pub returns-in-Ok-clause-joined : goal.returns-in-Ok-clause-joined
returns-in-Ok-clause-joined g c =
    joined_of _ _ _ _ _ _ _ _ _ _ _ _ _ g.T.SharedTree.stands c.in_ok-shared.shared.id _ c.close.result c.in_ok-shared.ensures.ok.1 c.in-Ok.ensures.ok c.close.ensures

pub returns-in-Err-clause-err : goal.returns-in-Err-clause-err
returns-in-Err-clause-err g c = (
  c.in-Err.ensures.err.1,
  stands_new g.B.Start.is g.T.SharedTree.stands c.in_ok-shared.shared.id _ c.close-in-Err.result c.in-Err.seats.items (c.in-Err.ensures.err.0 ∙ c.in_ok-shared.ensures.ok.1) c.close-in-Err.ensures,
)
