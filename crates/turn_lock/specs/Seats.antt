-- What the calls of a lock promise, over seats as contracts see them.
use Rattle.std.specs.Prelude.{◌≡◌, ◌⊎◌, ℕ, zero, suc, ◌+◌, ◌<◌, ◌≤◌, min, true, false, List, [], ◌∷◌, ◌++◌, length, Option, Some, None, All, sum_by}
use Rattle.atomic_table.specs.Seated.{TableId}
use Rattle.turn_lock.specs.Limits.{turn_limit}
use Rattle.turn_lock.specs.declared.history.Ended.{Ended}
use Rattle.turn_lock.specs.SeatView.{SeatView}
use Rattle.turn_lock.specs.Turns.{StartsWith, turns_by}

module _ {E : Type 0} where
  -- a seat that has done nothing
  abbrev pub new_seat : TableId → ℕ → SeatView E
  new_seat lock n = record { lock = lock; number = n; ticket = None; in_turn = false; drawn = 0; seen = [] }

  -- so many of them, numbered from n on in order
  abbrev pub new_seats : TableId → ℕ → ℕ → List (SeatView E)
  new_seats lock n zero = []
  new_seats lock n (suc count) = new_seat lock n ∷ new_seats lock (n + 1) count

  -- of this lock, and in no turn
  pub record IsIdle (lock : TableId) (seat : SeatView E) : Type 0 where
    pub here : seat.lock ≡ lock
    pub rests : seat.in_turn ≡ false

  -- What was seen goes on to be this list, in which no turn of the seat's own is new.
  pub record Follows (seat : SeatView E) (history : List (Ended E)) : Type 0 where
    pub starts : StartsWith history seat.seen
    pub own : turns_by seat.number history ≡ turns_by seat.number seat.seen

  -- the turns that were seen, and one more of this seat
  abbrev pub with_turn : SeatView E → Option E → List (Ended E)
  with_turn seat entry = seat.seen ++ record { by = seat.number; entry = entry } ∷ []

  -- No turn: the ticket is past the last one. It was drawn just now, or before, and then nothing changes.
  pub record IsSpent (old new : SeatView E) (ticket : ℕ) : Type 0 where
    pub past : turn_limit ≤ ticket
    pub after : ((old.ticket ≡ Some ticket) × (new ≡ old)) ⊎ ((old.ticket ≡ None) × (new ≡ record old { ticket = Some ticket; drawn = old.drawn + 1 }))

  -- a seat of which no more was changed than that it has seen these turns
  pub record Learns (old new : SeatView E) (history : List (Ended E)) : Type 0 where
    pub after : new ≡ record old { seen = history }
    pub follows : Follows old history

  -- how many tickets these seats drew
  abbrev pub tickets_of : List (SeatView E) → ℕ
  tickets_of = sum_by (λ (s : SeatView E). s.drawn)

  -- the seat saw the beginning of this history and all turns of its own, and its ticket is one of so many that were drawn
  pub record IsPartOf (history : List (Ended E)) (tickets : ℕ) (seat : SeatView E) : Type 0 where
    pub follows : Follows seat history
    pub ticket : (t : ℕ) → seat.ticket ≡ Some t → t < tickets

  module _ {S : Type 0} (stands : S → List (Ended E) → Type 0) where
    -- A turn: as many ended before as the ticket says. All of them are seen now, and the value stands for them.
    pub record TakesTurn (old new : SeatView E) (value : S) : Type 0 where
      pub history : List (Ended E)
      pub in_time : old.ticket ≡ None
      pub early : length history < turn_limit
      pub after : new ≡ record old { ticket = Some (length history); in_turn = true; drawn = old.drawn + 1; seen = history }
      pub follows : Follows old history
      pub right : stands value history

    -- with some entry that is named, or with none, the value stands for what was seen and this turn
    pub record MayEnd (tells : Option E → Type 0) (seat : SeatView E) (value : S) : Type 0 where
      pub entry : Option E
      pub told : tells entry
      pub right : stands value (with_turn seat entry)

    -- the turn ended with such an entry, and is seen
    pub record EndsTurn (tells : Option E → Type 0) (old new : SeatView E) (value : S) : Type 0 where
      pub entry : Option E
      pub told : tells entry
      pub after : new ≡ record old { ticket = None; in_turn = false; seen = with_turn old entry }
      pub right : stands value (with_turn old entry)

    -- The value stands for one history, of which each seat saw a part. It has a turn for each ticket below the limit, and every turn is
    -- one of these seats'.
    pub record IsWhole (value : S) (seats : List (SeatView E)) : Type 0 where
      pub history : List (Ended E)
      pub right : stands value history
      pub parts : All (IsPartOf history (tickets_of seats)) seats
      pub no_others : (n : ℕ) → length seats ≤ n → turns_by n history ≡ []
      pub counted : length history ≡ min (tickets_of seats) turn_limit
