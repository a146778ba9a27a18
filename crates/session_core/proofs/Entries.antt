-- What is found in a list of entries, and what an edit of the list does to it.
use Rattle.std.proofs.Common.{◌≡◌, ℕ, zero, suc, ◌<◌, eqb, ◌≢◌, [], ◌∷◌, length, get_or, set, if◌then◌else◌, Option, Some, None, refl, arith}
use Rattle.std.specs.List.{insert, remove}
use Rattle.std.proofs.lemmas.Bool.Decides.{nat_tests}
use Rattle.session_core.specs.State.{Fid}
use Rattle.session_core.specs.Entries.{Entries, nothing, fid_at, IsAt}

-- what the first entry of a fid has
abbrev pub found : Entries → ℕ → Option Fid
found [] k = None
found ((f, fid) ∷ rest) k = if eqb f k then Some fid else found rest k

-- no entry before an index has the fid
abbrev pub NoneBefore : Entries → ℕ → ℕ → Type 0
NoneBefore l k i = (j : ℕ) → j < i → fid_at l j ≢ k

none_before_tail : (x : ℕ × Fid) (l : Entries) (k i : ℕ) → NoneBefore (x ∷ l) k (suc i) → NoneBefore l k i
none_before_tail x l k i none j lt = none (suc j) (omega arith)

is_at_tail : (x : ℕ × Fid) (l : Entries) (k i : ℕ) → IsAt (x ∷ l) k (suc i) → IsAt l k i
is_at_tail x l k i is_at = record { in_range = omega (arith, is_at.in_range); is = is_at.is }

-- a fid that no entry has is not found
pub found_absent : (l : Entries) (k : ℕ) → NoneBefore l k (length l) → found l k ≡ None
found_absent [] k none = refl
found_absent (x ∷ l) k none = grind (arith, nat_tests, none 0 (omega arith), found_absent l k (none_before_tail x l k _ none))

-- the first entry that has it gives what it has
pub found_present : (l : Entries) (k i : ℕ) → IsAt l k i → NoneBefore l k i → found l k ≡ Some (get_or l i nothing).1
found_present [] k i is_at none = absurd (omega (arith, is_at.in_range))
found_present (x ∷ l) k zero is_at none = grind (arith, nat_tests, is_at.is)
found_present (x ∷ l) k (suc i) is_at none =
    grind (arith, nat_tests, none 0 (omega arith), found_present l k i (is_at_tail x l k i is_at) (none_before_tail x l k i none))

-- writing over it changes that fid alone
pub found_set : (l : Entries) (k : ℕ) (v : Fid) (i : ℕ) → IsAt l k i → NoneBefore l k i → (q : ℕ) → found (set l i (k, v)) q ≡ (if eqb k q then Some v else found l q)
found_set [] k v i is_at none q = absurd (omega (arith, is_at.in_range))
found_set (x ∷ l) k v zero is_at none q = grind (arith, nat_tests, is_at.is)
found_set (x ∷ l) k v (suc i) is_at none q =
    grind (arith, nat_tests, none 0 (omega arith), found_set l k v i (is_at_tail x l k i is_at) (none_before_tail x l k i none) q)

-- so does a new entry before any that has it
pub found-insert : (l : Entries) (k : ℕ) (v : Fid) (i : ℕ) → NoneBefore l k i → (q : ℕ) → found (insert l i (k, v)) q ≡ (if eqb k q then Some v else found l q)
found-insert l k v zero none q = refl
found-insert [] k v (suc i) none q = refl
found-insert (x ∷ l) k v (suc i) none q = grind (arith, nat_tests, none 0 (omega arith), found-insert l k v i (none_before_tail x l k i none) q)

-- taking the one entry that has it leaves the others
pub found-remove : (l : Entries) (k i : ℕ) → IsAt l k i → ((j : ℕ) → j < length l → j ≢ i → fid_at l j ≢ k) → (q : ℕ) → found (remove l i) q ≡ (if eqb k q then None else found l q)
found-remove [] k i is_at others q = absurd (omega (arith, is_at.in_range))
found-remove (x ∷ l) k zero is_at others q =
    let rest : found l k ≡ None = found_absent l k (λ j lt. others (suc j) (omega arith) (λ same. omega (arith, same))) in
    grind (arith, nat_tests, is_at.is, rest)
found-remove (x ∷ l) k (suc i) is_at others q =
    grind (
      arith,
      nat_tests,
      others 0 (omega arith) (λ same. omega (arith, same)),
      found-remove l k i (is_at_tail x l k i is_at) (λ j lt ne. others (suc j) (omega arith) (λ same. ne (omega (arith, same)))) q,
    )
