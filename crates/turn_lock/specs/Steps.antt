-- What each step shows, and what is done with a token between its steps.
use Rattle.std.specs.Prelude.{◌≡◌, ◌≢◌, ℕ, ◌<◌, ◌≤◌, min, true, false, List, [], ◌∷◌, ◌++◌, length, map, Option, Some, None, All}
use mathlib.Core.Option.{some}
use lib.ListN.{get_elem?}
use Rattle.atomic_table.specs.Seated.{TableId}
use Rattle.atomic_table.specs.Table.{Step}
use Rattle.turn_lock.specs.Limits.{turn_limit}
use Rattle.turn_lock.specs.declared.history.Ended.{Ended}
use Rattle.turn_lock.specs.declared.rule.Met.{Met}
use Rattle.turn_lock.specs.declared.rule.View.{View}
use Rattle.turn_lock.specs.SeatView.{SeatView}
use Rattle.turn_lock.specs.Turns.{StartsWith, turns_by}
use Rattle.turn_lock.specs.Views.{Sat, number_of, seat_view, ended_by, witness, gathered, with_ticket, in_turn, after_turn, forgot}
use Rattle.turn_lock.specs.Rule.{Owns, total, drawn_of}

module _ {S E : Type 0} where
  -- in no turn, and waiting for none
  pub record IsResting (me : Sat S E) : Type 0 where
    pub slots : me.1 ≡ []
    pub free : me.0.took ≡ false
    pub past : (t : ℕ) → me.0.ticket ≡ Some t → turn_limit ≤ t

  -- it may draw a ticket
  pub record MayDraw (me : Sat S E) : Type 0 where
    pub free : me.0.took ≡ false
    pub unspent : me.0.ticket ≡ None
    pub entitled : 0 < me.0.parts
    pub numbered : (n : ℕ) × (me.0.number ≡ Some n)

  -- a ticket was drawn
  abbrev pub drew : Step (Option S) → Sat S E → ℕ → Sat S E → Type 0
  drew st me found me' = me' ≡ (with_ticket found me.0, me.1)

  -- it has a ticket, whose turn it waits for
  pub record Waits (me : Sat S E) (ticket : ℕ) : Type 0 where
    pub slots : me.1 ≡ []
    pub free : me.0.took ≡ false
    pub has : me.0.ticket ≡ Some ticket
    pub early : ticket < turn_limit

  -- its turn has come: all turns so far were seen, and slot 0 was taken, with a value that stands for them
  pub record Enters (stands : S → List (Ended E) → Type 0) (me me' : Sat S E) (ticket : ℕ) : Type 0 where
    pub history : List (Ended E)
    pub value : S
    pub after : me' ≡ (in_turn me.0 history, (0, Some value) ∷ me.1)
    pub starts : StartsWith history me.0.seen
    pub count : length history ≡ ticket
    pub owns : Owns history me.0.number me.0.seen
    pub right : stands value history

  -- the same, once the value was moved out of the slot
  pub record Entered (stands : S → List (Ended E) → Type 0) (me me' : Sat S E) (ticket : ℕ) (value : S) : Type 0 where
    pub history : List (Ended E)
    pub after : me' ≡ (in_turn me.0 history, (0, None) ∷ [])
    pub starts : StartsWith history me.0.seen
    pub count : length history ≡ ticket
    pub owns : Owns history me.0.number me.0.seen
    pub right : stands value history

  -- if the ticket was found, its turn has come; else nothing changed
  abbrev pub looked : (S → List (Ended E) → Type 0) → Step (Option S) → Sat S E → ℕ → Sat S E → Type 0
  looked stands st me found me' = (me.0.ticket ≡ Some found → Enters stands me me' found) × (me.0.ticket ≢ Some found → me' ≡ me)

  -- it has the slot, from which the value was moved out
  pub record IsOut (me : Sat S E) : Type 0 where
    pub took : me.0.took ≡ true
    pub slot : me.1 ≡ (0, None) ∷ []

  -- with some entry that is named, or with none, the value stands for what was seen and this turn
  pub record MayGive (stands : S → List (Ended E) → Type 0) (told : Option E → Type 0) (v : View E) (value : S) : Type 0 where
    pub entry : Option E
    pub is : told entry
    pub right : stands value (v.seen ++ ended_by v entry ∷ [])

  -- the turn ended with such an entry
  pub record Gave (stands : S → List (Ended E) → Type 0) (told : Option E → Type 0) (v : View E) (value : S) (me' : Sat S E) : Type 0 where
    pub entry : Option E
    pub is : told entry
    pub after : me' ≡ (after_turn v (v.seen ++ ended_by v entry ∷ []), [])
    pub right : stands value (v.seen ++ ended_by v entry ∷ [])

  -- the same of the step, which gives the slot back
  abbrev pub gave : (S → List (Ended E) → Type 0) → (Option E → Type 0) → Step (Option S) → Sat S E → ℕ → Sat S E → Type 0
  gave stands told st me found me' = (value : S) → me.1 ≡ (0, Some value) ∷ [] → Gave stands told me.0 value me'

  -- each list that was met begins what is seen, which has no turn more of its own number
  abbrev pub learned : Step (Option S) → Sat S E → ℕ → Sat S E → Type 0
  learned st me found me' = (me' ≡ (forgot me.0, me.1)) × ((k : ℕ) (m : Met E) → get_elem? me.0.met k ≡ some m → StartsWith me.0.seen m.seen)
      × ((n : ℕ) → me.0.number ≡ Some n → turns_by n me.0.seen ≡ me.0.mine)

module _ {E : Type 0} where
  -- a token that gathered all that the tokens with these views knew, one for each seat
  pub record IsAll (seats : ℕ) (v : View E) (ws : List (View E)) : Type 0 where
    pub first : View E
    pub gathers : v ≡ gathered (witness first) ws
    pub count : seats ≡ length ws
    pub one_each : (k : ℕ) (w : View E) → get_elem? ws k ≡ some w → w.parts ≡ 1
    pub past : (t : ℕ) → v.ticket ≡ Some t → turn_limit ≤ t

  -- these views are those of the tokens of these seats
  pub record AreViews (lock : TableId) (seats : List (SeatView E)) (ws : List (View E)) : Type 0 where
    pub same : seats ≡ map (seat_view lock) ws
    pub numbered : All (λ (w : View E). w.number ≡ Some (number_of w)) ws

  -- what is known of the value then
  pub record IsEnd {S : Type 0} (stands : S → List (Ended E) → Type 0) (value : S) (ws : List (View E)) : Type 0 where
    pub history : List (Ended E)
    pub right : stands value history
    pub starts : (k : ℕ) (w : View E) → get_elem? ws k ≡ some w → StartsWith history w.seen
    pub owns : (k : ℕ) (w : View E) → get_elem? ws k ≡ some w → Owns history w.number w.seen
    pub tickets : (k t : ℕ) (w : View E) → get_elem? ws k ≡ some w → w.ticket ≡ Some t → t < total drawn_of ws
    pub no_others : (n : ℕ) → length ws ≤ n → turns_by n history ≡ []
    pub counted : length history ≡ min (total drawn_of ws) turn_limit
