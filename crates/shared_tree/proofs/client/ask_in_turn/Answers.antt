use Rattle.std.proofs.Common.{◌≤◌, List, Some, refl, sym, ap, subst, arith}
use Rattle.outside.specs.Views.{EntropyView, entropy_in}
use Rattle.tree_model.specs.Asked.{Asked, plain_request, plain_reply, asked_of}
use Rattle.tree_model.specs.History.{Made}
use Rattle.turn_lock.specs.declared.history.Ended.{Ended}
use Rattle.turn_lock.specs.SeatView.{SeatView}
use Rattle.shared_tree.specs.Turns.{StandsFor}
use Rattle.shared_tree.specs.Trees.{IsMadeOf}
use Rattle.shared_tree.proofs.Histories.{goes_on_with, stands_more}
use Rattle.shared_tree.proofs.Turning.{in_turn, entry_of_turn, goes_after_turn}
use Rattle.shared_tree.proofs.client.ask_in_turn.Goals as goal

pub end-requires-clause-right : goal.end-requires-clause-right
end-requires-clause-right g c =
    let view : g.row.E.Denot → EntropyView = entropy_in g.E.Entropy in
    let asked : Asked = asked_of (plain_request c.args.request.now) c.args.now (plain_reply c.serve-reply.result) c.serve-reply.new.buffer in
    let old : SeatView Made = c.args.seat.now in
    let during : SeatView Made = c.take.new.seat in
    let t = in_turn c.in_ok-turn.ensures.turn in
    let is : StandsFor g.B.Start.is g.T.SharedTree.stands c.value_mut.result.now.tree during.seen =
    subst (λ x. StandsFor g.B.Start.is g.T.SharedTree.stands x.tree during.seen) (sym c.value_mut.ensures.value) t.right
    in
    let one = stands_more g.B.Start.is g.T.SharedTree.stands g.T.SharedTree.draws c.value_mut.result.now.tree c.serve-reply.new.self asked (view c.args.entropy.now) (view c.serve-reply.new.entropy) during.seen during.number
    c.serve-reply.ensures.entry is (goes_on_with g.B.Start.is old during (g.E.Entropy.faults c.args.entropy.now) (g.E.Entropy.faults c.args.entropy.now) t.number t.own (omega arith) c.requires.goes)
    in record {
      entry = Some one.made;
      told = (
        one.made,
        refl,
        subst (λ (p : g.row.E.Denot × g.row.E.Denot). IsMadeOf g.T.SharedTree.draws asked (view p.0) (view p.1) one.made) (λ i. (sym c.of-before.ensures i, sym c.of.ensures i)) one.is,
      );
      right = one.right;
    }

pub returns-clause-goes : goal.returns-clause-goes
returns-clause-goes g c =
    let told = c.end.ensures.told in
    let t = in_turn c.in_ok-turn.ensures.turn in
    let high = subst (λ (e : g.row.E.Denot). told.0.entropy.after ≤ g.E.Entropy.faults e) c.of.ensures told.2.source.high in
    goes_after_turn g.B.Start.is (g.E.Entropy.faults c.serve-reply.new.entropy) t told.1 high c.end.ensures.after

pub returns-clause-entry : goal.returns-clause-entry
returns-clause-entry g c =
    let view : g.row.E.Denot → EntropyView = entropy_in g.E.Entropy in
    let asked : Asked = asked_of (plain_request c.args.request.now) c.args.now (plain_reply c.serve-reply.result) c.serve-reply.new.buffer in
    let told = c.end.ensures.told in
    let t = in_turn c.in_ok-turn.ensures.turn in
    let is : IsMadeOf g.T.SharedTree.draws asked (view c.args.entropy.now) (view c.serve-reply.new.entropy) told.0 =
    subst (λ (p : g.row.E.Denot × g.row.E.Denot). IsMadeOf g.T.SharedTree.draws asked (view p.0) (view p.1) told.0) (λ i. (c.of-before.ensures i, c.of.ensures i)) told.2
    in
    entry_of_turn t c.requires.idle.rests told.1 is c.end.ensures.after c.serve-reply.ensures.faults

pub returns-clause-right : goal.returns-clause-right
returns-clause-right g c = (
  c.serve-reply.new.self,
  subst (λ (l : List (Ended Made)). StandsFor g.B.Start.is g.T.SharedTree.stands c.serve-reply.new.self l) (sym (ap (λ (s : SeatView Made). s.seen) c.end.ensures.after)) c.end.ensures.right,
)
