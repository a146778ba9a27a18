-- What turns at a counter do.
use Rattle.std.specs.Prelude.{◌≡◌, ℕ, ◌+◌, List, [], ◌∷◌, ◌++◌, Option, Some, None}
use Rattle.turn_lock.specs.declared.history.Ended.{Ended}
use Rattle.turn_lock.specs.SeatView.{SeatView}
use Rattle.turn_lock.specs.Turns.{turns_by}
use Rattle.turn_lock.specs.Seats.{Follows}

module _ {E : Type 0} where
  abbrev pub entry_count : Option E → ℕ
  entry_count None = 0
  entry_count (Some e) = 1

  -- how many of these turns made an entry
  abbrev pub entries : List (Ended E) → ℕ
  entries [] = 0
  entries (t ∷ ts) = entry_count t.entry + entries ts

  -- One turn more of the seat, with an entry. As many entries were made before as the number says.
  pub record AddsOne (old new : SeatView E) (number : ℕ) : Type 0 where
    pub before : List (Ended E)
    pub entry : E
    pub follows : Follows old before
    pub count : number ≡ entries before
    pub after : new ≡ record old { drawn = old.drawn + 1; seen = before ++ record { by = old.number; entry = Some entry } ∷ [] }

  -- the same without an entry
  pub record Looks (old new : SeatView E) (number : ℕ) : Type 0 where
    pub before : List (Ended E)
    pub follows : Follows old before
    pub count : number ≡ entries before
    pub after : new ≡ record old { drawn = old.drawn + 1; seen = before ++ record { by = old.number; entry = None } ∷ [] }

  -- a list that has, of this seat's number, the turns that the seat had seen and one more, with an entry
  pub record HasOneMore (seat : SeatView E) (history : List (Ended E)) : Type 0 where
    pub entry : E
    pub turns : turns_by seat.number history ≡ turns_by seat.number seat.seen ++ record { by = seat.number; entry = Some entry } ∷ []
