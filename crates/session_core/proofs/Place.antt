-- What a search finds among sorted entries, and what an edit at that index does.
use Rattle.std.proofs.Common.{◌≡◌, ℕ, ◌+◌, ◌-◌, ◌<◌, ◌≤◌, ◌≢◌, [], length, set, Result, Ok, Err, IfOk, IfErr, sym, ap, subst, arith, inl, inr}
use Rattle.std.specs.List.{insert, remove}
use Rattle.std.specs.List.Sorted.{IsSearchInRange, IsBinarySearchResult, IsNonDecreasingBy}
use Rattle.std.specs.Ordering.{nat_cmp, ordering_index}
use Rattle.std.proofs.lemmas.Cmp.{ranked}
use Rattle.std.proofs.lemmas.List.Sorted.{IsNonDecreasingBy-from_default}
use Rattle.std.proofs.lemmas.List.Edits.{length-insert, length-remove, get_or-remove_below, get_or-remove_above, get_or-insert_below, get_or-insert_at, get_or-insert_above}
use Rattle.std.proofs.lemmas.Bool.{cases_lt}
use Rattle.std.proofs.lemmas.Bool.Decides.{nat_tests}
use Rattle.std.proofs.lemmas.Grind.{common_steps}
use Rattle.session_core.specs.State.{Fid}
use Rattle.session_core.specs.Entries.{Entries, nothing, fid_at, IsStrictlySorted, IsAt, IsGapFor}
use Rattle.session_core.proofs.Entries.{NoneBefore}

module _ (l : Entries) (sorted : IsStrictlySorted l) (k : ℕ) where
  -- the comparisons with k rise along the list, as a binary search asks
  comparisons_rise : IsNonDecreasingBy (λ entry. ordering_index (nat_cmp entry.0 k)) l
  comparisons_rise = IsNonDecreasingBy-from_default (λ entry. ordering_index (nat_cmp entry.0 k)) l nothing (λ i j le in_range.
      let fids_rise : fid_at l i ≤ fid_at l j = grind (arith, sorted i j, λ (same : i ≡ j). ap (fid_at l) same) in
      grind (arith, nat_tests))

  -- a binary search ends at the fid, or at the gap for it
  pub searched : (r : Result ℕ ℕ) → IsSearchInRange r (length l) → IsBinarySearchResult (λ entry. nat_cmp entry.0 k) l r → record { found : IfOk r (IsAt l k); absent : IfErr r (IsGapFor l k) }
  searched (Ok at) in_range equal = record { found = record { in_range = in_range; is = ranked _ k _ (sym (equal nothing)) }; absent = tt }
  searched (Err at) in_range parted = record {
    found = tt;
    absent = record {
      in_range = in_range;
      smaller_before = λ j lt. ranked _ k _ (sym ((parted comparisons_rise).0 j nothing (omega arith) lt));
      greater_after = λ j le lt. ranked _ k _ (sym ((parted comparisons_rise).1 j nothing le lt));
    };
  }

module _ (l : Entries) (sorted : IsStrictlySorted l) (k at : ℕ) (is_at : IsAt l k at) where
  -- the fids before the index are smaller
  pub none_before_at : NoneBefore l k at
  none_before_at j lt same = omega (arith, sorted j at lt is_at.in_range, is_at.is)

  -- no other entry has the fid
  pub none_beside : (j : ℕ) → j < length l → j ≢ at → fid_at l j ≢ k
  none_beside j lt ne same = grind (arith, sorted j at, sorted at j, is_at.in_range, is_at.is, lt, ne, same)

  -- writing over it keeps the order
  pub sorted_set : (v : Fid) → IsStrictlySorted (set l at (k, v))
  sorted_set v i j lt in_range = grind (arith, common_steps, sorted i j, sorted i at, sorted at j, is_at.in_range, is_at.is)

module _ (l : Entries) (k at : ℕ) (gap : IsGapFor l k at) where
  -- no entry has a fid that has a gap
  pub none_in_gap : NoneBefore l k (length l)
  none_in_gap j lt same = grind (arith, gap.smaller_before j, gap.greater_after j)

  pub none_before_gap : NoneBefore l k at
  none_before_gap j lt same = omega (arith, gap.smaller_before j lt)

  -- a new entry in the gap keeps the order
  pub sorted_insert : (v : Fid) → IsStrictlySorted l → IsStrictlySorted (insert l at (k, v))
  sorted_insert v sorted i j lt in_range =
      let new = insert l at (k, v) in
      let fid = λ (x : ℕ × Fid). x.0 in
      let length_new = length-insert l at (k, v) gap.in_range in
      let fid_below : (i : ℕ) → i < at → fid_at new i ≡ fid_at l i = λ i below. ap fid (get_or-insert_below l at (k, v) nothing i below gap.in_range) in
      let fid_here : (i : ℕ) → i ≡ at → fid_at new i ≡ k = λ i here. rw here (ap fid (get_or-insert_at l at (k, v) nothing gap.in_range)) in
      let fid_above : (i : ℕ) → at < i → fid_at new i ≡ fid_at l (i - 1) =
      λ i above. subst (λ q. fid_at new q ≡ fid_at l (i - 1)) {x = i - 1 + 1} (omega arith) (ap fid (get_or-insert_above l at (k, v) nothing (i - 1) (omega arith) gap.in_range))
      in
      grind (arith, fid_below i, fid_here i, fid_above i, fid_below j, fid_here j, fid_above j, sorted i j, sorted i (j - 1), sorted (i - 1) (j - 1), gap.smaller_before i, gap.greater_after (j - 1))

-- taking an entry keeps the order
pub sorted_remove : (l : Entries) (at : ℕ) → at < length l → IsStrictlySorted l → IsStrictlySorted (remove l at)
sorted_remove l at in_range sorted i j lt inside =
    let fid = λ (x : ℕ × Fid). x.0 in
    let length_new = length-remove l at in_range in
    let below : (i : ℕ) → i < at → fid_at (remove l at) i ≡ fid_at l i = λ i lt. ap fid (get_or-remove_below l at nothing i lt in_range) in
    let above : (i : ℕ) → at ≤ i → fid_at (remove l at) i ≡ fid_at l (i + 1) = λ i le. ap fid (get_or-remove_above l at nothing i le in_range) in
    elim (cases_lt i at) [
      | inl low ↦ elim (cases_lt j at) [
        | inl lower ↦ rw (below i low, below j lower) (sorted i j lt (omega arith))
        | inr high ↦ rw (below i low, above j high) (sorted i (j + 1) (omega arith) (omega arith))
      ]
      | inr high ↦ let higher : at ≤ j = omega arith in rw (above i high, above j higher) (sorted (i + 1) (j + 1) (omega arith) (omega arith))
    ]

pub sorted_nil : IsStrictlySorted []
sorted_nil i j lt inside = absurd (omega arith)
