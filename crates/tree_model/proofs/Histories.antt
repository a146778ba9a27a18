-- Legal histories with one entry more.
use Rattle.std.proofs.Common.{◌≡◌, suc, ◌+◌, ◌≤◌, List, [], ◌∷◌, ◌++◌, length, IsNone, refl, arith}
use Rattle.tree_model.specs.Rows.{Rows}
use Rattle.tree_model.specs.History.{Entry, Tally, Origin, next, after, IsCaused, AreCaused, IsAnswered, AreAnswered, rows_then, rows_after, IsLegal, tally_at, tally_of}

-- the tally after one entry more
pub after_more : (tally : Tally) (history : List Entry) (entry : Entry) → after tally (history ++ entry ∷ []) ≡ next (after tally history) entry
after_more tally [] entry = refl
after_more tally (e ∷ history) entry = after_more (next tally e) history entry

-- the rows after one entry more
pub rows_after_more : (rows : Rows) (history : List Entry) (entry : Entry) → rows_after rows (history ++ entry ∷ []) ≡ rows_then (rows_after rows history) entry.made
rows_after_more rows [] entry = refl
rows_after_more rows (e ∷ history) entry = rows_after_more (rows_then rows e.made) history entry

-- an entry that may come next goes on after those that have their causes
pub caused_more : (tally : Tally) (history : List Entry) (entry : Entry) → AreCaused tally history → IsCaused (after tally history) entry → AreCaused tally (history ++ entry ∷ [])
caused_more tally [] entry are is = (is, tt)
caused_more tally (e ∷ history) entry are is = (are.0, caused_more (next tally e) history entry are.1 is)

-- and one that is answered in the rows so far after those that are
pub answered_more : (rows : Rows) (tally : Tally) (history : List Entry) (entry : Entry) → AreAnswered rows tally history
    → (IsNone (after tally history).stopped → IsAnswered (rows_after rows history) entry.made) → AreAnswered rows tally (history ++ entry ∷ [])
answered_more rows tally [] entry are is = (is, tt)
answered_more rows tally (e ∷ history) entry are is = (are.0, answered_more (rows_then rows e.made) (next tally e) history entry are.1 is)

-- a legal history with one entry more
pub legal_more : (rows : Rows) (origin : Origin) (history : List Entry) (entry : Entry) → IsLegal rows origin history → IsCaused (tally_of origin history) entry
    → (IsNone (tally_of origin history).stopped → IsAnswered (rows_after rows history) entry.made) → IsLegal rows origin (history ++ entry ∷ [])
legal_more rows origin history entry legal caused answered = record {
  caused = caused_more (tally_at origin) history entry legal.caused caused;
  answered = answered_more rows (tally_at origin) history entry legal.answered answered;
}

-- a tally counts its entries
pub after_count : (tally : Tally) (history : List Entry) → (after tally history).count ≡ tally.count + length history
after_count tally [] = omega arith
after_count tally (e ∷ history) = omega (arith, after_count (next tally e) history)

-- no entry is more stable than there are entries
pub after_stable : (tally : Tally) (history : List Entry) → tally.stable ≤ tally.count → AreCaused tally history → (after tally history).stable ≤ tally.count + length history
after_stable tally [] within are = omega (arith, within)
after_stable tally (e ∷ history) within are =
    let more : (after (next tally e) history).stable ≤ suc tally.count + length history = after_stable (next tally e) history are.0.stable_within are.1 in
    omega (arith, more)
