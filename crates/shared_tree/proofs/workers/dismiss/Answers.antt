use Rattle.std.proofs.Common.{arith, ◌≡◌, [], ◌∷◌, ◌++◌, length, refl, sym, ap, ◌∙◌, length-append, append-nil}
use Rattle.shared_tree.proofs.Crews.{behind, ready_more, ready_none, dismissed_more, dismissed_none}
use Rattle.shared_tree.proofs.workers.dismiss.Goals as goal

pub loop-crew-init : goal.loop-crew-init
loop-crew-init g c =
    let s = ap length c.requires.none.0 in
    let w = ap length c.requires.none.1 in
    let r = c.requires.room in record {
      room = (omega arith, omega arith);
      ready = ready_none g.B.Start.is g.E.Entropy.faults c.args.seats.now.items c.args.workers.now.items c.requires.none.0 c.requires.none.1;
      dismissed = ([], sym (append-nil _), dismissed_none c.args.seats.now.items c.args.workers.now.items c.requires.none.0 c.requires.none.1);
    }

pub loop-crew-preserved : goal.loop-crew-preserved
loop-crew-preserved g c =
    let inv = c.loop-crew.invariant in
    let crew = c.in-Some.crew in
    let is : c.loop-crew.crews.items ≡ c.pop.new.self.items ++ crew ∷ [] = c.in-Some.ensures.items in
    let less = ap length is ∙ length-append c.pop.new.self.items (crew ∷ []) in
    let more = ap length c.push_reserved.ensures.items ∙ length-append c.loop-crew.seats.items _ in
    let more' = ap length c.push_reserved-in-Some.ensures.items ∙ length-append c.loop-crew.workers.items _ in
    let room = inv.room.0 in
    let room' = inv.room.1 in
    let cap = c.push_reserved.ensures.capacity in
    let cap' = c.push_reserved-in-Some.ensures.capacity in record {
      room = (omega arith, omega arith);
      ready = ready_more g.B.Start.is g.E.Entropy.faults _ _ _ _ c.leave-seat.result.0 _ c.push_reserved.ensures.items c.push_reserved-in-Some.ensures.items
          (record { rests = c.leave-seat.ensures.idle.rests; goes = c.leave-seat.ensures.goes }) inv.ready;
      dismissed = (
        crew ∷ inv.dismissed.0,
        behind _ _ _ _ crew inv.dismissed.1 is,
        dismissed_more _ _ _ _ _ c.leave-seat.result.0 _ crew c.push_reserved.ensures.items c.push_reserved-in-Some.ensures.items (record { listener = refl; object = c.leave-seat.ensures.client; clock = refl }) inv.dismissed.2,
      );
    }
