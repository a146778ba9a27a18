use Rattle.std.proofs.Common.{arith, ◌≡◌, ℕ, suc, ◌+◌, ◌∷◌, [], ◌++◌, ap, sym, refl, ◌∙◌}
use Rattle.turn_lock.specs.Views.{maker}
use Rattle.turn_lock.specs.Seats.{new_seat, new_seats}
use Rattle.turn_lock.proofs.SeatLists.{new_seats_snoc, length-new_seats}
use Rattle.turn_lock.proofs.turnstile.Turnstile.fill.Goals as goal

pub loop-made-init : goal.loop-made-init
loop-made-init g c = record {
  lock = refl;
  makes = c.requires.makes.2;
  count = 0;
  made = refl;
  new = c.requires.room.0;
  room = c.requires.room.1;
}

pub another-token-requires-clause-own : goal.another-token-requires-clause-own
another-token-requires-clause-own g c = c.loop-made.invariant.lock ∙ c.requires.own

pub another-token-requires-clause-some_left : goal.another-token-requires-clause-some_left
another-token-requires-clause-some_left g c =
    let given : c.loop-made.first.me.0.given ≡ c.loop-made.made = ap (λ m. m.0.given) c.loop-made.invariant.makes in
    let low = c.loop-made-test.true in
    let some_made = c.loop-made.auto.made in
    let key = c.requires.makes.1 in (omega arith, omega arith)

pub another-token-requires-clause-makes : goal.another-token-requires-clause-makes
another-token-requires-clause-makes g c =
    let given : c.loop-made.first.me.0.given ≡ c.loop-made.made = ap (λ m. m.0.given) c.loop-made.invariant.makes in
    c.loop-made.invariant.makes ∙ (λ i. (maker (c.requires.makes.1 i) (sym given i), []))

pub unreachable-requires : goal.unreachable-requires
unreachable-requires g c =
    let inv = c.loop-made.invariant in
    let made = inv.made in
    let count = length-new_seats c.args.first.table_id 1 inv.count c.loop-made.all.items inv.new in
    let full = c.in_default.ensures.full in
    let room = inv.room in
    let low = c.loop-made-test.true in omega arith

pub loop-made-preserved : goal.loop-made-preserved
loop-made-preserved g c =
    let inv = c.loop-made.invariant in
    let z = c.args.first.table_id in
    let given : c.loop-made.first.me.0.given ≡ c.loop-made.made = ap (λ m. m.0.given) inv.makes in
    let is = inv.made in
    let made : c.loop-made.made ≡ 1 + inv.count = omega arith in
    let lock = c.another-token.ensures.made.0 ∙ inv.lock in
    let seat : c.new.result ≡ new_seat {E = g.row.V-Entry.Denot} z (1 + inv.count) = c.new.ensures ∙ (λ i. new_seat (lock i) (made i)) in
    let room = inv.room in
    let grows = c.push.ensures.capacity in record {
      lock = c.another-token.ensures.same.0 ∙ inv.lock;
      makes = c.another-token.ensures.counted ∙ (λ i. (maker (sym c.requires.makes.1 i) (given i + 1), []));
      count = suc inv.count;
      made = omega arith;
      new = c.in-Ok.ensures.items ∙ ((λ i. inv.new i ++ seat i ∷ []) ∙ sym (new_seats_snoc z 1 inv.count));
      room = omega arith;
    }

pub unreachable-requires-in_default-insert : goal.unreachable-requires-in_default-insert
unreachable-requires-in_default-insert g c =
    let inv = c.loop-made.invariant in
    let made = inv.made in
    let count = length-new_seats c.args.first.table_id 1 inv.count c.loop-made.all.items inv.new in
    let full = c.in_default-insert.ensures.full in
    let room = inv.room in
    let far = c.loop-made.auto.made-end in
    let some_seat = c.requires.makes.0 in omega arith

pub returns : goal.returns
returns g c =
    let inv = c.loop-made.invariant in
    let z = c.args.first.table_id in
    let made = inv.made in
    let far = c.loop-made.auto.made-end in
    let near = c.loop-made-test.false in
    let some_seat = c.requires.makes.0 in
    let all : suc inv.count ≡ c.args.seats = omega arith in
    let first : c.new-2.result ≡ new_seat {E = g.row.V-Entry.Denot} z 0 = c.new-2.ensures ∙ ap (λ t. new_seat t 0) inv.lock in
    c.in-Ok-insert.ensures.items ∙ ((λ i. first i ∷ inv.new i) ∙ ap (λ (n : ℕ). new_seats {E = g.row.V-Entry.Denot} z 0 n) all)
