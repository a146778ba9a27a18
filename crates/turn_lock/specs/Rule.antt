-- The rule of a lock.
-- Word 0 counts the tickets that were drawn, word 1 the turns that ended. Slot 0 has the value, unless a token took it for its turn.
use Rattle.std.specs.Prelude.{◌≡◌, ◌≢◌, ◌⊎◌, ℕ, ◌+◌, ◌<◌, ◌≤◌, true, false, if◌then◌else◌, min, List, [], ◌∷◌, length, Option, Some, slice_index}
use mathlib.Core.Option.{some}
use mathlib.Core.Option as maybe
use lib.ListN.{get_elem?}
use Rattle.atomic_table.specs.Table.{State}
use Rattle.turn_lock.specs.Limits.{turn_limit}
use Rattle.turn_lock.specs.declared.history.Ended.{Ended}
use Rattle.turn_lock.specs.declared.rule.Met.{Met}
use Rattle.turn_lock.specs.declared.rule.View.{View}
use Rattle.turn_lock.specs.Turns.{StartsWith, turns_by}
use Rattle.turn_lock.specs.Views.{is_late, has_turn}

module _ {E : Type 0} where
  -- a number's turns are all in this list
  abbrev pub Owns : List (Ended E) → Option ℕ → List (Ended E) → Type 0
  Owns log by seen = (n : ℕ) → by ≡ Some n → turns_by n log ≡ turns_by n seen

  abbrev pub total : (View E → ℕ) → List (View E) → ℕ
  total f [] = 0
  total f (v ∷ vs) = f v + total f vs

  abbrev pub parts_of : View E → ℕ
  parts_of v = v.parts

  abbrev pub drawn_of : View E → ℕ
  drawn_of v = v.drawn

  -- its right to draw, which a late ticket ends
  abbrev pub unspent_of : View E → ℕ
  unspent_of v = if is_late v.ticket then 0 else v.parts

  abbrev pub turns_of : View E → ℕ
  turns_of v = has_turn v.ticket

  -- what a view says is so, if these are the turns that ended, and the number of tickets drawn
  pub record Fits (log : List (Ended E)) (tickets : ℕ) (v : View E) : Type 0 where
    pub starts : StartsWith log v.seen
    pub owns : Owns log v.number v.seen
    pub met : (k : ℕ) (m : Met E) → get_elem? v.met k ≡ some m → StartsWith log m.seen × Owns log m.by m.seen × (length m.seen ≤ length v.seen)
    pub drew : (t : ℕ) → v.ticket ≡ Some t → (t < tickets) × (t < turn_limit → length log ≤ t) × (0 < v.parts) × (t < turn_limit → (n : ℕ) × (v.number ≡ Some n))
    pub took : v.took ≡ true → (v.ticket ≡ Some (length log)) × (length log < turn_limit) × (v.seen ≡ log)
    pub idle : v.parts ≡ 0 → v.drawn ≡ 0
    pub mine : (n : ℕ) → v.number ≡ Some n → turns_by n v.seen ≡ v.mine

  abbrev pub Distinct : List (View E) → Type 0
  Distinct vs = (i j t : ℕ) (v w : View E) → get_elem? vs i ≡ some v → get_elem? vs j ≡ some w → v.ticket ≡ Some t → w.ticket ≡ Some t → t < turn_limit → i ≡ j

  -- a number is one view's, and no view has met it
  abbrev pub Numbered : ℕ → List (View E) → Type 0
  Numbered next vs = ((i n : ℕ) (v : View E) → get_elem? vs i ≡ some v → v.number ≡ Some n → (n < next) × (n ≡ 0 → v.given ≡ next))
      × ((i j n : ℕ) (v w : View E) → get_elem? vs i ≡ some v → get_elem? vs j ≡ some w → v.number ≡ Some n → w.number ≡ Some n → i ≡ j)
      × ((i j k n : ℕ) (v w : View E) (m : Met E) → get_elem? vs i ≡ some v → get_elem? vs j ≡ some w → get_elem? w.met k ≡ some m → v.number ≡ Some n → m.by ≢ Some n)
      × ((j k n : ℕ) (w : View E) (m : Met E) → get_elem? vs j ≡ some w → get_elem? w.met k ≡ some m → m.by ≡ Some n → n < next)

  -- the maker of seats has a part for each number that it did not give
  abbrev pub Making : ℕ → List (View E) → Type 0
  Making seats vs = (i : ℕ) (v : View E) → get_elem? vs i ≡ some v → v.number ≡ Some 0 → v.given + v.parts ≡ seats + 1

  module _ {S : Type 0} (stands : S → List (Ended E) → Type 0) where
    -- the value is in its slot, or with the view whose ticket's turn it is
    abbrev pub Placed : List (Ended E) → List (maybe.Option (Option S)) → List (View E) → Type 0
    Placed log homes vs = ((i : ℕ) × (v : View E) × (get_elem? vs i ≡ some v) × (v.took ≡ true)) ⊎
        (((y : S) × (get_elem? homes 0 ≡ some (some (Some y))) × stands y log) × ((i : ℕ) (v : View E) → get_elem? vs i ≡ some v → v.took ≡ false))

    pub record Kept (seats : ℕ) (s : State (Option S) (View E)) : Type 0 where
      pub log : List (Ended E)
      pub next : ℕ
      pub few : seats < turn_limit
      pub low : next ≤ seats
      pub making : Making seats s.views
      pub wide : length s.words ≡ 2
      pub strangers : (n : ℕ) → next ≤ n → turns_by n log ≡ []
      pub ended_is : slice_index s.words 1 ≡ length log
      pub each : (j : ℕ) (v : View E) → get_elem? s.views j ≡ some v → Fits log (slice_index s.words 0) v
      pub distinct : Distinct s.views
      pub numbered : Numbered next s.views
      pub parts : total parts_of s.views ≡ seats
      pub drawn : total drawn_of s.views ≡ slice_index s.words 0
      pub bounded : slice_index s.words 0 + total unspent_of s.views ≤ turn_limit + seats
      pub waiting : total turns_of s.views + length log ≡ min (slice_index s.words 0) turn_limit
      pub placed : Placed log s.homes s.views
