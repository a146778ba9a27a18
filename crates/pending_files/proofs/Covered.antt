-- Windows that ranges cover: what was in them before doesn't show.
use Rattle.std.proofs.Common.{◌≡◌, ⊎_elim, inl, inr, ℕ, zero, suc, ◌+◌, ◌-◌, ◌≤◌, ◌<◌, List, [], ◌∷◌, length, get_or, take, drop, refl, sym, ap, subst, ◌∙◌, arith, length-take}
use Rattle.std.proofs.lemmas.Bool.{cases_lt}
use Rattle.std.proofs.lemmas.List.{get_or-take}
use Rattle.outside.specs.Changes.{overwritten}
use Rattle.deeds.specs.declared.writes.Range.{Range}
use Rattle.deeds.specs.Reshape.{Ranges, written, CanWrite, IsOutside, IsUncovered}
use Rattle.deeds.specs.Plain.{plain_ranges}
use Rattle.deeds.proofs.Overwritten.{long_over, get_before, get_behind, get_inside}
use Rattle.pending_files.specs.Later.{Shows}

-- what no range has, one of them doesn't have
pub outside_item : (s : List Range) (k i : ℕ) (x : Range) (rest : List Range) → drop k s ≡ x ∷ rest → IsUncovered (plain_ranges s) i → IsOutside (x.at, x.bytes.items) i
outside_item [] zero i x rest e un = absurd cc
outside_item [] (suc k) i x rest e un = absurd cc
outside_item (y ∷ s) zero i x rest e un = (subst (λ (l : List Range). IsUncovered (plain_ranges l) i) e un).0
outside_item (y ∷ s) (suc k) i x rest e un = outside_item s k i x rest e un.1

same_long : (a b : List ℕ) (place : ℕ) (bytes : List ℕ) → length a ≡ length b → place ≤ length a → length (overwritten a place bytes) ≡ length (overwritten b place bytes)
same_long a b place bytes same le = omega (arith, same, le, long_over a place bytes le, long_over b place bytes (omega (arith, same, le)))

can_same : (rs : Ranges) (a b : List ℕ) → length a ≡ length b → CanWrite rs a → CanWrite rs b
can_same [] a b same can = tt
can_same (r ∷ rs) a b same can = (omega (arith, same, can.0), can_same rs (overwritten a r.0 r.1) (overwritten b r.0 r.1) (same_long a b r.0 r.1 same can.0) can.1)

long_same : (rs : Ranges) (a b : List ℕ) → length a ≡ length b → CanWrite rs a → length (written rs a) ≡ length (written rs b)
long_same [] a b same can = same
long_same (r ∷ rs) a b same can = long_same rs (overwritten a r.0 r.1) (overwritten b r.0 r.1) (same_long a b r.0 r.1 same can.0) can.1

-- where two files are the same, or a range has the place, they are the same once the ranges are written
same_written : (rs : Ranges) (a b : List ℕ) (i : ℕ) → length a ≡ length b → CanWrite rs a → (IsUncovered rs i → get_or a i 0 ≡ get_or b i 0) → get_or (written rs a) i 0 ≡ get_or (written rs b) i 0
same_written [] a b i same can else_same = else_same tt
same_written (r ∷ rs) a b i same can else_same =
    let le : r.0 ≤ length b = omega (arith, same, can.0) in
    same_written rs (overwritten a r.0 r.1) (overwritten b r.0 r.1) i (same_long a b r.0 r.1 same can.0) can.1 (λ un.
    ⊎_elim
    (λ (below : i < r.0). get_before a r.0 r.1 i can.0 below ∙ else_same (inl below, un) ∙ sym (get_before b r.0 r.1 i le below))
    (λ (from : r.0 ≤ i).
    ⊎_elim
    (λ (to : i < r.0 + length r.1). get_inside a r.0 r.1 i can.0 from to ∙ sym (get_inside b r.0 r.1 i le from to))
    (λ (behind : r.0 + length r.1 ≤ i). get_behind a r.0 r.1 i can.0 behind ∙ else_same (inr behind, un) ∙ sym (get_behind b r.0 r.1 i le behind))
    (cases_lt i (r.0 + length r.1)))
    (cases_lt i r.0))

-- whatever a window holds, some file as long as this one shows it
any_shown : (was window : List ℕ) (at : ℕ) → (like : List ℕ) × (length like ≡ length was) × Shows at like window
any_shown was window at =
    ⊎_elim
    (λ (past : length was < at). (was, refl, λ i lt within. absurd (omega (arith, past, within))))
    (λ (le : at ≤ length was).
    let piece = take (length was - at) window in
    let piece_long = length-take (length was - at) window in
    let like = overwritten was at piece in
    let long : length like ≡ length was = omega (arith, long_over was at piece le, piece_long, le) in (
      like,
      long,
      λ i lt within.
          let here : i < length was - at = omega (arith, within, long) in
          sym (get_inside was at piece (at + i) le (omega arith) (omega (arith, piece_long, here, lt))
          ∙ ap (λ (k : ℕ). get_or piece k 0) (omega arith) ∙ get_or-take (length was - at) window i 0 here),
    ))
    (cases_lt (length was) at)

-- what shows a file as written wherever the window showed the file before, shows it whatever was in the window, if ranges cover that
pub covered_shows : (rs : Ranges) (was window new : List ℕ) (at : ℕ) → CanWrite rs was → length new ≡ length window → ((i : ℕ) → at ≤ i → i < at + length window → IsUncovered rs i → ⊥)
    → ((like : List ℕ) → CanWrite rs like → Shows at like window → Shows at (written rs like) new) → Shows at (written rs was) new
covered_shows rs was window new at can long covered shown i lt within =
    let like = any_shown was window at in
    let same : length was ≡ length like.0 = sym like.1 in
    shown like.0 (can_same rs was like.0 same can) like.2 i lt (omega (arith, within, long_same rs was like.0 same can))
    ∙ sym (same_written rs was like.0 (at + i) same can (λ un. absurd (covered (at + i) (omega arith) (omega (arith, lt, long)) un)))
