-- A seat in its turn, and after it.
use Rattle.std.proofs.Common.{◌≡◌, ℕ, ◌+◌, ◌≤◌, false, List, [], ◌∷◌, ◌++◌, Option, Some, None, sym, ap, subst, ◌∙◌, arith}
use Rattle.atomic_table.specs.Seated.{TableId}
use Rattle.outside.specs.Views.{EntropyView}
use Rattle.tree_model.specs.Asked.{Asked}
use Rattle.tree_model.specs.Rows.{Rows}
use Rattle.tree_model.specs.History.{Made, Origin}
use Rattle.turn_lock.specs.declared.history.Ended.{Ended}
use Rattle.turn_lock.specs.SeatView.{SeatView}
use Rattle.turn_lock.specs.Turns.{StartsWith, turns_by}
use Rattle.turn_lock.specs.Seats.{IsIdle, Learns, TakesTurn, with_turn}
use Rattle.turn_lock.proofs.TurnLists.{turns_by-others}
use Rattle.shared_tree.specs.Trees.{IsMadeOf}
use Rattle.shared_tree.specs.Clients.{client_of, GoesOn, HasEntry}
use Rattle.shared_tree.proofs.Histories.{made_by-none, goes_on_with, goes_on_after}

-- a turn that was taken, by what the seat has seen then
pub record InTurn {S : Type 0} (stands : S → List (Ended Made) → Type 0) (old new : SeatView Made) (value : S) : Type 0 where
  pub number : new.number ≡ old.number
  pub lock : new.lock ≡ old.lock
  pub drawn : new.drawn ≡ old.drawn + 1
  pub in_time : old.ticket ≡ None
  pub starts : StartsWith new.seen old.seen
  pub own : turns_by old.number new.seen ≡ turns_by old.number old.seen
  pub right : stands value new.seen

pub in_turn : {S : Type 0} {stands : S → List (Ended Made) → Type 0} {old new : SeatView Made} {value : S} → TakesTurn stands old new value → InTurn stands old new value
in_turn {stands = stands} {old = old} {new = new} {value = value} took =
    let seen : new.seen ≡ took.history = ap (λ (s : SeatView Made). s.seen) took.after in record {
      number = ap (λ (s : SeatView Made). s.number) took.after;
      lock = ap (λ (s : SeatView Made). s.lock) took.after;
      drawn = ap (λ (s : SeatView Made). s.drawn) took.after;
      in_time = took.in_time;
      starts = (took.follows.starts.0, seen ∙ took.follows.starts.1);
      own = ap (turns_by old.number) seen ∙ took.follows.own;
      right = subst (stands value) (sym seen) took.right;
    }

-- a turn that ended with an entry, of a seat that was idle before it
pub entry_of_turn : {S E : Type 0} {stands : S → List (Ended Made) → Type 0} {draws : Option (List ℕ) → Option (List ℕ) → Made → Type 0} {view : E → EntropyView} {old during new : SeatView Made} {value : S} {entropy entropy' : E} {asked : Asked}
    {entry : Option Made} {made : Made} → InTurn stands old during value → old.in_turn ≡ false → entry ≡ Some made → IsMadeOf draws asked (view entropy) (view entropy') made
    → new ≡ record during { ticket = None; in_turn = false; seen = with_turn during entry } → (view entropy).faults ≤ (view entropy').faults
    → HasEntry draws view (client_of old entropy) (client_of new entropy') asked
entry_of_turn {old = old} {during = during} {new = new} {made = made} t idle is one after later =
    let drew : new.drawn ≡ during.drawn = ap (λ (s : SeatView Made). s.drawn) after in
    let drawn = t.drawn in
    let lock : new.lock ≡ old.lock = ap (λ (s : SeatView Made). s.lock) after ∙ t.lock in
    let number : new.number ≡ old.number = ap (λ (s : SeatView Made). s.number) after ∙ t.number in
    let ticket : new.ticket ≡ old.ticket = ap (λ (s : SeatView Made). s.ticket) after ∙ sym t.in_time in
    let in_turn : new.in_turn ≡ old.in_turn = ap (λ (s : SeatView Made). s.in_turn) after ∙ sym idle in record {
      made = made;
      is = one;
      between = t.starts.0;
      seen = ap (λ (s : SeatView Made). s.seen) after ∙ (λ i. t.starts.1 i ++ record { by = t.number i; entry = is i } ∷ []);
      others = made_by-none old.number t.starts.0 (turns_by-others old.number old.seen t.starts.0 (ap (turns_by old.number) (sym t.starts.1) ∙ t.own));
      seat = λ i. record { lock = lock i; number = number i; ticket = ticket i; in_turn = in_turn i; drawn = new.drawn; seen = new.seen };
      tickets = omega arith;
      in_time = t.in_time;
      faults = later;
    }

-- its caller's random source goes on
pub goes_after_turn : {S : Type 0} (start : Rows → Origin → Type 0) {stands : S → List (Ended Made) → Type 0} {old during new : SeatView Made} {value : S} (faults : ℕ) {entry : Option Made} {made : Made}
    → InTurn stands old during value → entry ≡ Some made → made.entropy.after ≤ faults → new ≡ record during { ticket = None; in_turn = false; seen = with_turn during entry } → GoesOn start new faults
goes_after_turn start {during = during} {new = new} faults {made = made} t is high after =
    goes_on_after start during new during.seen made faults (ap (λ (s : SeatView Made). s.number) after)
    (ap (λ (s : SeatView Made). s.seen) after ∙ (λ i. during.seen ++ record { by = during.number; entry = is i } ∷ [])) high

-- a seat that has met another
pub met : (start : Rows → Origin → Type 0) (lock : TableId) (old new : SeatView Made) (history : List (Ended Made)) (faults : ℕ) → IsIdle lock old × GoesOn start old faults → Learns old new history
    → IsIdle lock new × GoesOn start new faults
met start lock old new history faults idle learns = (
  record { here = ap (λ (s : SeatView Made). s.lock) learns.after ∙ idle.0.here; rests = ap (λ (s : SeatView Made). s.in_turn) learns.after ∙ idle.0.rests },
  goes_on_with start old new faults faults (ap (λ (s : SeatView Made). s.number) learns.after) (ap (λ (s : SeatView Made). turns_by old.number s.seen) learns.after ∙ learns.follows.own) (omega arith) idle.1,
)
