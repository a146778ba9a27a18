-- What a token of a lock knows, as plain data, and how steps change it.
use Rattle.std.specs.Prelude.{◌≡◌, ℕ, ◌+◌, ◌-◌, ◌≤◌, Bool, true, false, if◌then◌else◌, ltb, List, [], ◌∷◌, ◌++◌, Option, Some, None}
use Rattle.atomic_table.specs.Seated.{TableId}
use Rattle.atomic_table.specs.Table.{Me}
use Rattle.turn_lock.specs.Limits.{turn_limit}
use Rattle.turn_lock.specs.declared.history.Ended.{Ended}
use Rattle.turn_lock.specs.declared.rule.Met.{Met}
use Rattle.turn_lock.specs.declared.rule.View.{View}
use Rattle.turn_lock.specs.SeatView.{SeatView}
use Rattle.turn_lock.specs.Turns.{turns_by, longer}

abbrev pub number_or : Option ℕ → ℕ
number_or None = 0
number_or (Some n) = n

-- the greater of two tickets, if any
abbrev pub later : Option ℕ → Option ℕ → Option ℕ
later None t = t
later (Some s) None = Some s
later (Some s) (Some t) = if ltb s t then (Some t) else (Some s)

-- whether this ticket has no turn
abbrev pub is_late : Option ℕ → Bool
is_late None = false
is_late (Some t) = if ltb t turn_limit then false else true

-- how many turns are still to come for this ticket
abbrev pub has_turn : Option ℕ → ℕ
has_turn None = 0
has_turn (Some t) = if ltb t turn_limit then 1 else 0

-- a token: its view, and the slots that it holds
abbrev pub Sat : Type 0 → Type 0 → Type 0
Sat S E = Me (Option S) (View E)

-- the slots that a token holds: in a turn, slot 0, from which the value was moved out
abbrev pub held_slots : {S : Type 0} → Bool → List (ℕ × Option S)
held_slots true = (0, None) ∷ []
held_slots false = []

module _ {E : Type 0} where
  abbrev pub number_of : View E → ℕ
  number_of v = number_or v.number

  -- a turn of this token that ended with such an entry
  abbrev pub ended_by : View E → Option E → Ended E
  ended_by v e = record { by = number_of v; entry = e }

  -- at the start: number 0, which has the rights to all numbers
  abbrev pub first_view : ℕ → View E
  first_view seats = record { number = Some 0; given = 1; parts = seats; ticket = None; drawn = 0; took = false; seen = []; mine = []; met = [] }

  -- number 0, after it made one more
  abbrev pub made_one : View E → View E
  made_one v = record v { given = v.given + 1; parts = v.parts - 1 }

  -- the one that it makes, with the next number
  abbrev pub newcomer : View E → View E
  newcomer v = record { number = Some v.given; given = 0; parts = 1; ticket = None; drawn = 0; took = false; seen = v.seen; mine = []; met = [] }

  -- number 0, once it made all numbers below `made`
  abbrev pub maker : ℕ → ℕ → View E
  maker seats made = record { number = Some 0; given = made; parts = (seats + 1) - made; ticket = None; drawn = 0; took = false; seen = []; mine = []; met = [] }

  -- a token of this number that has done nothing
  abbrev pub fresh : ℕ → View E
  fresh n = record { number = Some n; given = 0; parts = 1; ticket = None; drawn = 0; took = false; seen = []; mine = []; met = [] }

  -- one that has seen as much, and can do nothing
  abbrev pub witness : View E → View E
  witness v = record { number = None; given = 0; parts = 0; ticket = None; drawn = 0; took = false; seen = v.seen; mine = []; met = [] }

  -- one that was joined into another
  abbrev pub spent_view : View E
  spent_view = record { number = None; given = 0; parts = 0; ticket = None; drawn = 0; took = false; seen = []; mine = []; met = [] }

  abbrev pub meeting : Option ℕ → List (Ended E) → Met E
  meeting n xs = record { by = n; seen = xs }

  -- what two tokens know, as the first has it after a join
  abbrev pub joined : View E → View E → View E
  joined v w = record {
    number = v.number;
    given = v.given;
    parts = v.parts + w.parts;
    ticket = later v.ticket w.ticket;
    drawn = v.drawn + w.drawn;
    took = v.took;
    seen = longer v.seen w.seen;
    mine = v.mine;
    met = meeting None v.seen ∷ (meeting w.number w.seen ∷ (v.met ++ w.met));
  }

  -- the same for a list of tokens, joined from the last to the first
  abbrev pub gathered : View E → List (View E) → View E
  gathered c [] = c
  gathered c (w ∷ ws) = joined (gathered c ws) w

  abbrev pub forgot : View E → View E
  forgot v = record v { met = [] }

  -- it has seen this list, and nothing else changes
  abbrev pub saw : View E → List (Ended E) → View E
  saw v history = record v { seen = history; met = [] }

  abbrev pub with_ticket : ℕ → View E → View E
  with_ticket t v = record v { ticket = Some t; drawn = v.drawn + 1 }

  abbrev pub in_turn : View E → List (Ended E) → View E
  in_turn v history = record v { took = true; seen = history }

  abbrev pub after_turn : View E → List (Ended E) → View E
  after_turn v history = record v { took = false; ticket = None; seen = history; mine = turns_by (number_of v) history }

  -- a seat as contracts see it
  abbrev pub seat_view : TableId → View E → SeatView E
  seat_view lock v = record { lock = lock; number = number_of v; ticket = v.ticket; in_turn = v.took; drawn = v.drawn; seen = v.seen }

  -- what holds of every seat
  pub record IsSeat {S : Type 0} (me : Sat S E) (number : ℕ) (late : Option ℕ) : Type 0 where
    pub numbered : me.0.number ≡ Some number
    pub one_part : me.0.parts ≡ 1
    pub own : me.0.mine ≡ turns_by number me.0.seen
    pub slots : me.1 ≡ held_slots me.0.took
    pub idle : me.0.took ≡ false → me.0.ticket ≡ late
    pub turn : me.0.took ≡ true → late ≡ None
    pub past : (t : ℕ) → late ≡ Some t → turn_limit ≤ t
