-- Counts of entries.
use Rattle.std.proofs.Common.{◌≡◌, ℕ, ◌+◌, ◌≤◌, Bool, true, eqb, if◌then◌else◌, List, [], ◌∷◌, ◌++◌, length, Option, Some, None, arith, ◌∙◌, ap, sym}
use Rattle.std.proofs.lemmas.Bool.Decides.{nat_tests}
use Rattle.turn_lock.specs.declared.history.Ended.{Ended}
use Rattle.turn_lock.specs.SeatView.{SeatView}
use Rattle.turn_lock.specs.Turns.{turns_by}
use Rattle.turn_lock.specs.Seats.{Follows}
use Rattle.turn_lock.proofs.TurnLists.{turns_by-append}
use Rattle.turn_lock_tests.specs.Counting.{entry_count, entries, AddsOne, HasOneMore}

module _ {E : Type 0} where
  -- one more turn
  pub entries-append : (ts : List (Ended E)) (t : Ended E) → entries (ts ++ t ∷ []) ≡ entries ts + entry_count t.entry
  entries-append [] t = omega arith
  entries-append (x ∷ ts) t = let h = entries-append ts t in omega arith

  entry_count-one : (o : Option E) → entry_count o ≤ 1
  entry_count-one None = omega arith
  entry_count-one (Some e) = omega arith

  -- each turn makes at most one
  pub entries-length : (ts : List (Ended E)) → entries ts ≤ length ts
  entries-length [] = omega arith
  entries-length (t ∷ ts) = let a = entry_count-one t.entry in let h = entries-length ts in omega arith

  own_turn : (t : Ended E) → turns_by t.by (t ∷ []) ≡ t ∷ []
  own_turn t = let same : eqb t.by t.by ≡ true = grind (arith, nat_tests) in ap (λ (b : Bool). if b then (t ∷ []) else []) same

  -- a seat that added one, and then saw turns of others: the list that it saw has one turn more of its own
  pub one_more : (old mid : SeatView E) (number : ℕ) (history seen : List (Ended E)) → AddsOne old mid number → Follows mid history → seen ≡ history → HasOneMore old seen
  one_more old mid number history seen adds follows is =
      let n = old.number in
      let t : Ended E = record { by = n; entry = Some adds.entry } in
      let same : mid.number ≡ n = ap (λ (s : SeatView E). s.number) adds.after in
      let since : turns_by n history ≡ turns_by n mid.seen = ap (λ (k : ℕ). turns_by k history) (sym same) ∙ (follows.own ∙ ap (λ (k : ℕ). turns_by k mid.seen) same) in
      let mine : turns_by n mid.seen ≡ turns_by n (adds.before ++ t ∷ []) = ap (λ (s : SeatView E). turns_by n s.seen) adds.after in record {
        entry = adds.entry;
        turns = ap (turns_by n) is ∙ (since ∙ (mine ∙ (turns_by-append n adds.before (t ∷ []) ∙ (λ i. adds.follows.own i ++ own_turn t i))));
      }
