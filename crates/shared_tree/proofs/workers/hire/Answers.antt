use Rattle.std.proofs.Common.{arith, ◌≡◌, [], ◌∷◌, ◌++◌, length, reverse, refl, sym, ap, subst, ◌∙◌, length-append, append-nil}
use Rattle.std.specs.List.{AllByRecursion}
use Rattle.shared_tree.specs.Workers.{AreCrewsOf}
use Rattle.shared_tree.proofs.Crews.{all_last, behind, ready_of_last, hired_more}
use Rattle.shared_tree.proofs.workers.hire.Goals as goal

pub loop-seat-init : goal.loop-seat-init
loop-seat-init g c =
    let none = ap length c.requires.none in
    let room = c.requires.room in record {
      here = c.requires.here;
      ready = c.requires.ready;
      room = omega arith;
      caps = (refl, refl);
      hired = record {
        gone_seats = [];
        gone_workers = [];
        seats_are = sym (append-nil _);
        workers_are = sym (append-nil _);
        crews_are = subst (λ l. AreCrewsOf [] [] (reverse l)) (sym c.requires.none) tt;
      };
    }

pub loop-seat-preserved : goal.loop-seat-preserved
loop-seat-preserved g c =
    let inv = c.loop-seat.invariant in
    let seat = c.in-Some.seat in
    let worker = c.in-Some-pop.worker in
    let seats : c.loop-seat.seats.items ≡ c.pop.new.self.items ++ seat ∷ [] = c.in-Some.ensures.items in
    let workers : c.loop-seat.workers.items ≡ c.pop-in-Some.new.self.items ++ worker ∷ [] = c.in-Some-pop.ensures.items in
    let last = ready_of_last g.B.Start.is g.E.Entropy.faults _ _ _ _ seat worker seats workers inv.ready in
    let here = all_last _ c.pop.new.self.items seat (subst (AllByRecursion _) seats inv.here) in
    let count = ap length workers ∙ length-append c.pop-in-Some.new.self.items (worker ∷ []) in
    let more = ap length c.push_reserved.ensures.items ∙ length-append c.loop-seat.crews.items (c.new-crew.result ∷ []) in
    let room = inv.room in
    let cap = c.push_reserved.ensures.capacity in
    let hired = inv.hired in record {
      here = here.0;
      ready = last.0;
      room = omega arith;
      caps = (c.pop.ensures.capacity ∙ inv.caps.0, c.pop-in-Some.ensures.capacity ∙ inv.caps.1);
      hired = record {
        gone_seats = seat ∷ hired.gone_seats;
        gone_workers = worker ∷ hired.gone_workers;
        seats_are = behind _ _ _ _ seat hired.seats_are seats;
        workers_are = behind _ _ _ _ worker hired.workers_are workers;
        crews_are = hired_more hired.gone_seats hired.gone_workers _ _ seat worker c.new-crew.result c.push_reserved.ensures.items (record { listener = c.new-crew.ensures.listener; object = c.new-crew.ensures.object ∙ c.new-client.ensures; clock = c.new-crew.ensures.clock }) hired.crews_are;
      };
    }

pub new-client-requires-clause-idle : goal.new-client-requires-clause-idle
new-client-requires-clause-idle g c =
    let last = ready_of_last g.B.Start.is g.E.Entropy.faults _ _ _ _ c.in-Some.seat c.in-Some-pop.worker c.in-Some.ensures.items c.in-Some-pop.ensures.items c.loop-seat.invariant.ready in
    record { here = (all_last _ c.pop.new.self.items c.in-Some.seat (subst (AllByRecursion _) c.in-Some.ensures.items c.loop-seat.invariant.here)).1; rests = last.1.rests }

pub new-client-requires-clause-goes : goal.new-client-requires-clause-goes
new-client-requires-clause-goes g c =
    (ready_of_last g.B.Start.is g.E.Entropy.faults _ _ _ _ c.in-Some.seat c.in-Some-pop.worker c.in-Some.ensures.items c.in-Some-pop.ensures.items c.loop-seat.invariant.ready).1.goes
