-- A history with one entry more.
use Rattle.std.proofs.Common.{◌≡◌, ℕ, zero, suc, ◌≤◌, List, [], ◌∷◌, ◌++◌, length, Some, IsNone, refl, sym, ap, subst, ◌∙◌, arith, length-append}
use Rattle.tree_model.specs.Rows.{Rows}
use Rattle.tree_model.specs.History.{Entry, Tally, Origin, entry_at, rows_at, rows_after, rows_then, after, next, tally_of, IsCaused, IsAnswered, IsLegal}
use Rattle.tree_model.proofs.Histories.{legal_more}

-- ---- entries by number

pub at_more : {C : Type 0} (history : List Entry) (e : Entry) (i : ℕ) (x : Entry) → entry_at (history ++ e ∷ []) i ≡ Some x
    → (entry_at history i ≡ Some x → C) → (i ≡ length history → e ≡ x → C) → C
at_more [] e zero x is old last = last refl (cc)
at_more [] e (suc i) x is old last = absurd (cc)
at_more (y ∷ history) e zero x is old last = old is
at_more (y ∷ history) e (suc i) x is old last = at_more history e i x is old (λ at same. last (omega arith) same)

pub at_last : (history : List Entry) (e : Entry) → entry_at (history ++ e ∷ []) (length history) ≡ Some e
at_last [] e = refl
at_last (y ∷ history) e = at_last history e

pub at_kept : (history : List Entry) (e : Entry) (i : ℕ) (x : Entry) → entry_at history i ≡ Some x → entry_at (history ++ e ∷ []) i ≡ Some x
at_kept [] e i x is = absurd (cc)
at_kept (y ∷ history) e zero x is = is
at_kept (y ∷ history) e (suc i) x is = at_kept history e i x is

pub at_within : (history : List Entry) (i : ℕ) (x : Entry) → entry_at history i ≡ Some x → suc i ≤ length history
at_within [] i x is = absurd (cc)
at_within (y ∷ history) zero x is = omega arith
at_within (y ∷ history) (suc i) x is = omega (arith, at_within history i x is)

pub longer : (history : List Entry) (e : Entry) → length (history ++ e ∷ []) ≡ suc (length history)
longer history e = omega (arith, length-append history (e ∷ []))

-- ---- rows

pub rows_more : (rows : Rows) (history : List Entry) (e : Entry) (k : ℕ) → k ≤ length history → rows_at rows (history ++ e ∷ []) k ≡ rows_at rows history k
rows_more rows [] e zero le = refl
rows_more rows [] e (suc k) le = absurd (omega arith)
rows_more rows (y ∷ history) e zero le = refl
rows_more rows (y ∷ history) e (suc k) le = rows_more (rows_then rows y.made) history e k (omega arith)

pub rows_last : (rows : Rows) (history : List Entry) (e : Entry) → rows_at rows (history ++ e ∷ []) (suc (length history)) ≡ rows_then (rows_at rows history (length history)) e.made
rows_last rows [] e = refl
rows_last rows (y ∷ history) e = rows_last (rows_then rows y.made) history e

pub rows_end : (rows : Rows) (history : List Entry) (e : Entry) → rows_at rows (history ++ e ∷ []) (length (history ++ e ∷ [])) ≡ rows_then (rows_at rows history (length history)) e.made
rows_end rows history e = ap (λ (k : ℕ). rows_at rows (history ++ e ∷ []) k) (longer history e) ∙ rows_last rows history e

-- the rows after all entries
pub rows_all : (rows : Rows) (history : List Entry) → rows_after rows history ≡ rows_at rows history (length history)
rows_all rows [] = refl
rows_all rows (y ∷ history) = rows_all (rows_then rows y.made) history

-- ---- what the last entry has is below any bound of all

pub tally_stable : (tally : Tally) (history : List Entry) (k : ℕ) → tally.stable ≤ k → ((i : ℕ) (x : Entry) → entry_at history i ≡ Some x → x.made.stable ≤ k) → (after tally history).stable ≤ k
tally_stable tally [] k le all = le
tally_stable tally (y ∷ history) k le all = tally_stable (next tally y) history k (all zero y refl) (λ i x is. all (suc i) x is)

pub tally_moment : (tally : Tally) (history : List Entry) (m : ℕ) → tally.moment ≤ m → ((i : ℕ) (x : Entry) → entry_at history i ≡ Some x → x.made.moment ≤ m) → (after tally history).moment ≤ m
tally_moment tally [] m le all = le
tally_moment tally (y ∷ history) m le all = tally_moment (next tally y) history m (all zero y refl) (λ i x is. all (suc i) x is)

-- ---- legal histories

pub continues : (rows : Rows) (origin : Origin) (history : List Entry) (e : Entry) → IsLegal rows origin history → IsCaused (tally_of origin history) e
    → (IsNone (tally_of origin history).stopped → IsAnswered (rows_at rows history (length history)) e.made) → IsLegal rows origin (history ++ e ∷ [])
continues rows origin history e legal caused answered =
    legal_more rows origin history e legal caused (λ running. subst (λ (r : Rows). IsAnswered r e.made) (sym (rows_all rows history)) (answered running))
