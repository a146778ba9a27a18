use Rattle.std.proofs.Common.{arith, ◌≡◌, length, [], ◌∷◌, sym, ap, subst, ◌∙◌}
use Rattle.turn_lock.specs.declared.rule.View.{View}
use Rattle.turn_lock.specs.SeatView.{SeatView}
use Rattle.turn_lock.specs.Views.{joined, witness}
use Rattle.turn_lock.proofs.SeatLists.{AreGathered, gathered_none, gathered_more, gathered_all, idle_front, seat_rests, seat_numbered, seat_at_lock, none_left}
use Rattle.turn_lock.proofs.turnstile.Turnstile.gather.Goals as goal

pub loop-seat-init : goal.loop-seat-init
loop-seat-init g c =
    let z = c.args.self.now.table.shared.table_id in
    let token = c.into_token-token.result in
    let seat = c.into_token-token.ensures in
    let idle = idle_front z c.pop.new.self.items c.in-Some.last c.args.seats.items c.in-Some.ensures.items c.requires.idle in
    let lock : token.table_id ≡ z = sym (ap (λ (s : SeatView g.row.V-Entry.Denot). s.lock) seat.view) ∙ idle.1.here in
    let copy : c.copy_of-all.result.me.0 ≡ witness token.me.0 = ap (λ m. m.0) c.copy_of-all.ensures.copy.1 in
    let now : c.join.new.all.me.0 ≡ joined c.copy_of-all.result.me.0 token.me.0 = ap (λ m. m.0) c.join.ensures.joined ∙ ap (λ m. joined c.copy_of-all.result.me.0 m.0) c.copy_of-all.ensures.same.2 in record {
      lock = c.join.ensures.same.0 ∙ (c.copy_of-all.ensures.copy.0 ∙ lock);
      rests = c.join.ensures.rests;
      nameless = ap (λ (v : View g.row.V-Entry.Denot). v.number) (now ∙ ap (λ (v : View g.row.V-Entry.Denot). joined v token.me.0) copy);
      idle = idle.0;
      knows = (
        token.me.0 ∷ [],
        gathered_more z c.args.seats.items c.args.seats.items c.pop.new.self.items c.in-Some.last c.copy_of-all.result.me.0 c.join.new.all.me.0 token.me.0 [] (gathered_none z c.args.seats.items c.copy_of-all.result.me.0 token.me.0 copy)
            c.in-Some.ensures.items (seat_at_lock z token.table_id c.in-Some.last token.me.0 seat.view lock) seat.seat.1.one_part (seat_numbered token.me c.in-Some.last.number seat.seat.0 seat.seat.1) now,
      );
    }

pub join-requires-in-Some-pop-clause-rests : goal.join-requires-in-Some-pop-clause-rests
join-requires-in-Some-pop-clause-rests g c =
    let z = c.args.self.now.table.shared.table_id in
    let inv = c.loop-seat.invariant in
    let token = c.into_token.result in
    let seat = c.into_token.ensures in
    let idle = idle_front z c.pop-in-loop-seat.new.self.items c.in-Some-pop.seat c.loop-seat.seats.items c.in-Some-pop.ensures.items inv.idle in
    (inv.rests, seat_rests token.me c.in-Some-pop.seat.number seat.seat.0 seat.seat.1 (sym (ap (λ (s : SeatView g.row.V-Entry.Denot). s.in_turn) seat.view) ∙ idle.1.rests))

pub loop-seat-preserved : goal.loop-seat-preserved
loop-seat-preserved g c =
    let z = c.args.self.now.table.shared.table_id in
    let inv = c.loop-seat.invariant in
    let token = c.into_token.result in
    let seat = c.into_token.ensures in
    let idle = idle_front z c.pop-in-loop-seat.new.self.items c.in-Some-pop.seat c.loop-seat.seats.items c.in-Some-pop.ensures.items inv.idle in
    let lock : token.table_id ≡ z = sym (ap (λ (s : SeatView g.row.V-Entry.Denot). s.lock) seat.view) ∙ idle.1.here in
    let now : c.join-in-Some-pop.new.all.me.0 ≡ joined c.loop-seat.all.me.0 token.me.0 = ap (λ m. m.0) c.join-in-Some-pop.ensures.joined in record {
      lock = c.join-in-Some-pop.ensures.same.0 ∙ inv.lock;
      rests = c.join-in-Some-pop.ensures.rests;
      nameless = ap (λ (v : View g.row.V-Entry.Denot). v.number) now ∙ inv.nameless;
      idle = idle.0;
      knows = (
        token.me.0 ∷ inv.knows.0,
        gathered_more z c.args.seats.items c.loop-seat.seats.items c.pop-in-loop-seat.new.self.items c.in-Some-pop.seat c.loop-seat.all.me.0 c.join-in-Some-pop.new.all.me.0 token.me.0 inv.knows.0 inv.knows.1
            c.in-Some-pop.ensures.items (seat_at_lock z token.table_id c.in-Some-pop.seat token.me.0 seat.view lock) seat.seat.1.one_part (seat_numbered token.me c.in-Some-pop.seat.number seat.seat.0 seat.seat.1) now,
      );
    }

pub returns-clause-all : goal.returns-clause-all
returns-clause-all g c =
    let z = c.args.self.now.table.shared.table_id in
    let inv = c.loop-seat.invariant in
    let gone : c.loop-seat.seats.items ≡ [] = none_left c.loop-seat.seats.items (let none = c.in_default-pop.ensures.cases.0 in omega arith) in
    let count : c.args.self.now.table.shared.key ≡ length c.args.seats.items = (let ok = c.args.seats.ok in let all = c.requires.all.1 in omega arith) in
    let knows = subst (λ l. AreGathered z c.args.seats.items l c.loop-seat.all.me.0 inv.knows.0) gone inv.knows.1 in
    let all = gathered_all z c.args.self.now.table.shared.key c.args.seats.items c.loop-seat.all.me.0 inv.knows.0 knows count inv.rests.past in
    (inv.knows.0, all.0, all.1)
