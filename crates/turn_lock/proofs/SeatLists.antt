-- Lists of seats, and of what their tokens know.
use Rattle.std.proofs.Common.{◌≡◌, ℕ, zero, suc, ◌+◌, ◌<◌, ◌≤◌, false, List, [], ◌∷◌, ◌++◌, map, length, get_or, min, Option, Some, ap, sym, refl, ◌∙◌, subst, arith, append_assoc, append-nil}
use Rattle.std.specs.List.{All}
use Rattle.std.proofs.lemmas.List.Elements.{All-nil, All-cons, All-map, All-pop}
use Rattle.std.proofs.lemmas.List.Sums.{sum_by-cons}
use mathlib.Core.Option.{some, some-ne-none, some-injective}
use lib.ListN.{get_elem?, length-map}
use Rattle.atomic_table.specs.Seated.{TableId}
use Rattle.turn_lock.specs.Limits.{turn_limit}
use Rattle.turn_lock.specs.declared.history.Ended.{Ended}
use Rattle.turn_lock.specs.declared.rule.View.{View}
use Rattle.turn_lock.specs.SeatView.{SeatView}
use Rattle.turn_lock.specs.Views.{Sat, number_or, number_of, witness, joined, gathered, seat_view, held_slots, IsSeat}
use Rattle.turn_lock.specs.Rule.{total, drawn_of}
use Rattle.turn_lock.specs.Steps.{IsResting, IsAll, AreViews, IsEnd}
use Rattle.turn_lock.specs.Seats.{new_seat, new_seats, IsIdle, IsPartOf, IsWhole, tickets_of}

-- an element by its place, in two forms
there : {A : Type 0} (l : List A) (k : ℕ) (d : A) → k < length l → get_elem? l k ≡ some (get_or l k d)
there [] k d h = absurd (omega arith)
there (x ∷ xs) zero d h = refl
there (x ∷ xs) (suc k) d h = there xs k d (omega arith)

place : {A : Type 0} (l : List A) (k : ℕ) (a d : A) → get_elem? l k ≡ some a → (k < length l) × (get_or l k d ≡ a)
place [] k a d e = absurd (some-ne-none a (sym e))
place (x ∷ xs) zero a d e = (omega arith, some-injective x a e)
place (x ∷ xs) (suc k) a d e = let h = place xs k a d e in let l = h.0 in (omega arith, h.1)

-- a list without length is empty
pub none_left : {A : Type 0} (xs : List A) → length xs ≡ 0 → xs ≡ []
none_left [] e = refl
none_left (x ∷ xs) e = absurd (omega arith)

module _ {E : Type 0} where
  -- one more seat comes last
  pub new_seats_snoc : (z : TableId) (n count : ℕ) → new_seats {E = E} z n (suc count) ≡ new_seats z n count ++ new_seat z (n + count) ∷ []
  new_seats_snoc z n zero = ap (λ (k : ℕ). new_seat z k ∷ []) (omega arith)
  new_seats_snoc z n (suc count) =
      let here : (n + 1) + count ≡ n + suc count = omega arith in
      ap (λ (l : List (SeatView E)). new_seat z n ∷ l) (new_seats_snoc z (n + 1) count ∙ ap (λ (k : ℕ). new_seats z (n + 1) count ++ new_seat z k ∷ []) here)

  -- there are so many of them
  pub length-new_seats : (z : TableId) (n count : ℕ) (l : List (SeatView E)) → l ≡ new_seats z n count → length l ≡ count
  length-new_seats z n zero l is = ap length is
  length-new_seats z n (suc count) l is = ap length is ∙ ap suc (length-new_seats z (n + 1) count (new_seats z (n + 1) count) refl)

  -- new seats are in no turn
  pub new_seats_idle : (z : TableId) (n count : ℕ) → All (IsIdle {E = E} z) (new_seats z n count)
  new_seats_idle z n zero = All-nil (IsIdle z)
  new_seats_idle z n (suc count) = All-cons (IsIdle z) (new_seat z n) (new_seats z (n + 1) count) (record { here = refl; rests = refl }) (new_seats_idle z (n + 1) count)

  -- of seats that are in no turn, the last is, and the others are
  pub idle_front : (z : TableId) (rest : List (SeatView E)) (s : SeatView E) (all : List (SeatView E)) → all ≡ rest ++ s ∷ [] → All (IsIdle z) all → All (IsIdle z) rest × IsIdle z s
  idle_front z rest s all is idle = All-pop (IsIdle z) all rest (Some s) is idle

  -- a seat of this lock, by its token
  pub seat_at_lock : (z table : TableId) (s : SeatView E) (t : View E) → s ≡ seat_view table t → table ≡ z → s ≡ seat_view z t
  seat_at_lock z table s t is lock = is ∙ ap (λ (y : TableId). seat_view y t) lock

  -- these tokens were gathered by one, from the last of these seats on; the rest is to come
  pub record AreGathered (z : TableId) (all rest : List (SeatView E)) (v : View E) (ws : List (View E)) : Type 0 where
    pub first : View E
    pub split : all ≡ rest ++ map (seat_view z) ws
    pub gathers : v ≡ gathered (witness first) ws
    pub one_each : All (λ (w : View E). w.parts ≡ 1) ws
    pub numbered : All (λ (w : View E). w.number ≡ Some (number_of w)) ws

  -- at first none was gathered
  pub gathered_none : (z : TableId) (all : List (SeatView E)) (v u : View E) → v ≡ witness u → AreGathered z all all v []
  gathered_none z all v u is = record {
    first = u;
    split = sym (append-nil all);
    gathers = is;
    one_each = All-nil (λ (w : View E). w.parts ≡ 1);
    numbered = All-nil (λ (w : View E). w.number ≡ Some (number_of w));
  }

  -- the last of the rest is gathered
  pub gathered_more : (z : TableId) (all old rest : List (SeatView E)) (s : SeatView E) (v v' t : View E) (ws : List (View E)) → AreGathered z all old v ws → old ≡ rest ++ s ∷ [] → s ≡ seat_view z t
      → t.parts ≡ 1 → t.number ≡ Some (number_of t) → v' ≡ joined v t → AreGathered z all rest v' (t ∷ ws)
  gathered_more z all old rest s v v' t ws h popped seat part number is = record {
    first = h.first;
    split = h.split ∙ (ap (λ (l : List (SeatView E)). l ++ map (seat_view z) ws) (popped ∙ ap (λ (x : SeatView E). rest ++ x ∷ []) seat) ∙ append_assoc rest (seat_view z t ∷ []) (map (seat_view z) ws));
    gathers = is ∙ ap (λ (x : View E). joined x t) h.gathers;
    one_each = All-cons (λ (w : View E). w.parts ≡ 1) t ws part h.one_each;
    numbered = All-cons (λ (w : View E). w.number ≡ Some (number_of w)) t ws number h.numbered;
  }

  -- once none is to come, all were gathered
  pub gathered_all : (z : TableId) (seats : ℕ) (all : List (SeatView E)) (v : View E) (ws : List (View E)) → AreGathered z all [] v ws → seats ≡ length all → ((t : ℕ) → v.ticket ≡ Some t → turn_limit ≤ t)
      → AreViews z all ws × IsAll seats v ws
  gathered_all z seats all v ws h count past = (
    record { same = h.split; numbered = h.numbered },
    record {
      first = h.first;
      gathers = h.gathers;
      count = count ∙ (ap length h.split ∙ length-map ws (seat_view z));
      one_each = λ k w e. let p = place ws k w w e in ap (λ (x : View E). x.parts) (sym p.1) ∙ h.one_each k w p.0;
      past = past;
    },
  )

  tickets-total : (z : TableId) (ws : List (View E)) → tickets_of (map (seat_view z) ws) ≡ total drawn_of ws
  tickets-total z [] = refl
  tickets-total z (w ∷ ws) = let h = tickets-total z ws in sum_by-cons (λ (s : SeatView E). s.drawn) (seat_view z w) (map (seat_view z) ws) ∙ ap (λ (n : ℕ). w.drawn + n) h

  -- what is known of the tokens, said of the seats
  pub whole_of : {S : Type 0} (stands : S → List (Ended E) → Type 0) (value : S) (z : TableId) (seats : List (SeatView E)) (ws : List (View E)) → AreViews z seats ws → IsEnd stands value ws → IsWhole stands value seats
  whole_of stands value z seats ws views end =
      let sum : total drawn_of ws ≡ tickets_of seats = sym (tickets-total z ws) ∙ ap tickets_of (sym views.same) in
      let count : length ws ≡ length seats = sym (length-map ws (seat_view z)) ∙ ap length (sym views.same) in record {
        history = end.history;
        right = end.right;
        parts = subst (λ (l : List (SeatView E)). All (IsPartOf end.history (tickets_of seats)) l) (sym views.same)
            (All-map (IsPartOf end.history (tickets_of seats)) (seat_view z) ws
            (λ k d lt. let w = get_or ws k d in let at = there ws k d lt in record {
              follows = record { starts = end.starts k w at; own = end.owns k w at (number_of w) (views.numbered k d lt) };
              ticket = λ t has. subst (λ (n : ℕ). t < n) sum (end.tickets k t w at has);
            }));
        no_others = λ n past. end.no_others n (omega arith);
        counted = subst (λ (n : ℕ). length end.history ≡ min n turn_limit) sum end.counted;
      }

module _ {S E : Type 0} where
  -- a seat in no turn has a token that rests
  pub seat_rests : (me : Sat S E) (number : ℕ) (late : Option ℕ) → IsSeat me number late → me.0.took ≡ false → IsResting me
  seat_rests me number late is free = record { slots = is.slots ∙ ap held_slots free; free = free; past = λ t e. is.past t (sym (is.idle free) ∙ e) }

  -- the token of a seat has its number
  pub seat_numbered : (me : Sat S E) (number : ℕ) (late : Option ℕ) → IsSeat me number late → me.0.number ≡ Some (number_of me.0)
  seat_numbered me number late is = is.numbered ∙ sym (ap (λ (o : Option ℕ). Some (number_or o)) is.numbered)
