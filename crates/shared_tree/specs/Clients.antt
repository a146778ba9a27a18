-- A client as clauses see it, what a request adds to what it has seen, and what it has asked since a time.
use Rattle.std.specs.Prelude.{◌≡◌, ◌⊎◌, ℕ, ◌+◌, ◌*◌, ◌≤◌, List, [], ◌∷◌, ◌++◌, length, map, Option, Some, None}
use Rattle.outside.specs.Views.{EntropyView}
use Rattle.tree_model.specs.Asked.{Asked, entered}
use Rattle.tree_model.specs.Rows.{Rows}
use Rattle.tree_model.specs.History.{Made, Entry, Origin, entries_of, tally_of}
use Rattle.turn_lock.specs.Limits.{turn_limit}
use Rattle.turn_lock.specs.declared.history.Ended.{Ended}
use Rattle.turn_lock.specs.SeatView.{SeatView}
use Rattle.turn_lock.specs.Seats.{IsSpent}
use Rattle.shared_tree.specs.Limits.{most_tickets}
use Rattle.shared_tree.specs.Turns.{entries_in, StandsFor}
use Rattle.shared_tree.specs.Trees.{IsDrawnFor, IsMadeOf}

-- its seat, with the turns that it has seen, and its random source
pub record ClientView (E : Type 0) : Type 0 where
  pub seat : SeatView Made
  pub entropy : E

abbrev pub client_of : {E : Type 0} → SeatView Made → E → ClientView E
client_of seat entropy = record { seat = seat; entropy = entropy }

-- what the seat's caller made in these turns, in order
abbrev pub made_by : ℕ → List (Ended Made) → List Made
made_by number turns = map (λ entry. entry.made) (entries_of number (entries_in turns))

-- a random source with so many faults can go on after what the seat has seen, from wherever the history may have begun
abbrev pub GoesOn : (Rows → Origin → Type 0) → SeatView Made → ℕ → Type 0
GoesOn start seat faults =
    (rows : Rows) (origin : Origin) → start rows origin → (tally_of origin (entries_in seat.seen)).entropy_faults seat.number ≤ faults

-- a tree stood for these turns
abbrev pub IsServed : {T : Type 0} → (Rows → Origin → Type 0) → (T → Rows → Origin → List Entry → Type 0) → List (Ended Made) → Type 0
IsServed {T} start stands turns = (tree : T) × StandsFor start stands tree turns

-- A request has its entry: the client has seen what it had seen, turns of which none made an entry of its own, and the turn that made this
-- one. It drew few tickets for it, and has none left.
pub record HasEntry {E : Type 0} (draws : Option (List ℕ) → Option (List ℕ) → Made → Type 0) (view : E → EntropyView) (old new : ClientView E) (asked : Asked) : Type 0 where
  pub made : Made
  pub is : IsMadeOf draws asked (view old.entropy) (view new.entropy) made
  pub between : List (Ended Made)
  pub seen : new.seat.seen ≡ (old.seat.seen ++ between) ++ record { by = old.seat.number; entry = Some made } ∷ []
  pub others : made_by old.seat.number between ≡ []
  pub seat : new.seat ≡ record old.seat { drawn = new.seat.drawn; seen = new.seat.seen }
  pub tickets : new.seat.drawn ≤ old.seat.drawn + most_tickets
  pub in_time : old.seat.ticket ≡ None
  pub faults : (view old.entropy).faults ≤ (view new.entropy).faults

-- A request has none: its caller's ticket is past the last turn. Nothing more was seen, and nothing drawn.
pub record HasNoTurn {E : Type 0} (old new : ClientView E) (ticket : ℕ) : Type 0 where
  pub spent : IsSpent old.seat new.seat ticket
  pub entropy : new.entropy ≡ old.entropy

-- ---- many requests

-- what a random source gave for this, and Rest of its view after that
pub record FirstDrawn (draws : Option (List ℕ) → Option (List ℕ) → Made → Type 0) (before : EntropyView) (made : Made) (Rest : EntropyView → Type 0) : Type 0 where
  pub next : EntropyView
  pub source : IsDrawnFor draws before next made
  pub faults : before.faults ≤ next.faults
  pub rest : Rest next

-- a random source went from one view to another as these were made, one after the other
abbrev pub AreDrawnFor : (Option (List ℕ) → Option (List ℕ) → Made → Type 0) → EntropyView → EntropyView → List Made → Type 0
AreDrawnFor draws before after [] = after ≡ before
AreDrawnFor draws before after (made ∷ others) = FirstDrawn draws before made (λ next. AreDrawnFor draws next after others)

-- the seat's ticket is past the last turn
pub record IsLate (seat : SeatView Made) : Type 0 where
  pub ticket : ℕ
  pub has : seat.ticket ≡ Some ticket
  pub past : turn_limit ≤ ticket

-- What a client has asked since a time: it has seen turns since, in which its own entries are, in order, what was asked, but for requests
-- for which no turn was left; and its random source gave what was drawn for them. It drew few tickets for each request.
pub record HasAsked {E : Type 0} (draws : Option (List ℕ) → Option (List ℕ) → Made → Type 0) (view : E → EntropyView) (start now : ClientView E) (asked : List Asked) : Type 0 where
  pub lock : now.seat.lock ≡ start.seat.lock
  pub number : now.seat.number ≡ start.seat.number
  pub more : List (Ended Made)
  pub seen : now.seat.seen ≡ start.seat.seen ++ more
  pub own : map (λ made. made.asked) (made_by start.seat.number more) ≡ entered asked
  pub drawn : AreDrawnFor draws (view start.entropy) (view now.entropy) (made_by start.seat.number more)
  pub tickets : now.seat.drawn ≤ start.seat.drawn + most_tickets * length asked
  pub in_time : (entered asked ≡ asked) ⊎ IsLate now.seat
