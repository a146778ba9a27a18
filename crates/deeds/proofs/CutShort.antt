-- Reshapings that can't be made to their end: the writes before the call that can't be made, on the bytes alone.
use Rattle.std.proofs.Common.{◌≡◌, ℕ, ◌≤◌, List, [], ◌∷◌, ◌++◌, length, take, refl, sym, ap, subst, ◌∙◌, inl, inr, arith}
use Rattle.outside.specs.Changes.{overwritten}
use Rattle.deeds.specs.Reshape.{Ranges, written, CanWrite, EndWithin, IsReshaping}
use Rattle.deeds.specs.Applying.{StopsBehind}
use Rattle.deeds.proofs.Overwritten.{long_over}
use Rattle.deeds.proofs.Reshape.{reshapes_again}

-- ---- the ranges that are written

pub stops_can : (len : ℕ) (rs : Ranges) (b : List ℕ) (made : Ranges) → StopsBehind len rs b made → CanWrite made b
stops_can len [] b made stops = subst (λ (m : Ranges). CanWrite m b) (sym stops.1) tt
stops_can len (r ∷ rs) b made (inl stops) = subst (λ (m : Ranges). CanWrite m b) (sym stops.1) tt
stops_can len (r ∷ rs) b made (inr more) = subst (λ (m : Ranges). CanWrite m b) (sym more.3) (more.0, stops_can len rs (overwritten b r.0 r.1) more.1 more.2)

-- the whole can't be made
pub stops_cannot : (len : ℕ) (rs : Ranges) (b : List ℕ) (made : Ranges) → StopsBehind len rs b made → CanWrite rs b → len ≤ length (written rs b) → ⊥
stops_cannot len [] b made stops can long = omega (arith, stops.0)
stops_cannot len (r ∷ rs) b made (inl stops) can long = omega (arith, stops.0, can.0)
stops_cannot len (r ∷ rs) b made (inr more) can long = stops_cannot len rs (overwritten b r.0 r.1) more.1 more.2 can.1 long

-- there is one way to stop
pub stops_one : (len : ℕ) (rs : Ranges) (b : List ℕ) (made other : Ranges) → StopsBehind len rs b made → StopsBehind len rs b other → made ≡ other
stops_one len [] b made other one two = one.1 ∙ sym two.1
stops_one len (r ∷ rs) b made other (inl one) (inl two) = one.1 ∙ sym two.1
stops_one len (r ∷ rs) b made other (inl one) (inr two) = absurd (omega (arith, one.0, two.0))
stops_one len (r ∷ rs) b made other (inr one) (inl two) = absurd (omega (arith, one.0, two.0))
stops_one len (r ∷ rs) b made other (inr one) (inr two) = one.3 ∙ ap (λ (m : Ranges). r ∷ m) (stops_one len rs (overwritten b r.0 r.1) one.1 two.1 one.2 two.2) ∙ sym two.3

-- the same happens to other bytes that are as long once the ranges are written
pub stops_like : (len : ℕ) (rs : Ranges) (b c : List ℕ) (made : Ranges) → StopsBehind len rs b made → CanWrite made c → length (written made c) ≡ length (written made b) → StopsBehind len rs c made
stops_like len [] b c made stops can long =
    let same : length c ≡ length b = subst (λ (m : Ranges). length (written m c) ≡ length (written m b)) stops.1 long in
    (omega (arith, stops.0, same), stops.1)
stops_like len (r ∷ rs) b c made (inl stops) can long =
    let same : length c ≡ length b = subst (λ (m : Ranges). length (written m c) ≡ length (written m b)) stops.1 long in
    inl (omega (arith, stops.0, same), stops.1)
stops_like len (r ∷ rs) b c made (inr more) can long =
    let can' = subst (λ (m : Ranges). CanWrite m c) more.3 can in
    let long' = subst (λ (m : Ranges). length (written m c) ≡ length (written m b)) more.3 long in
    inr (can'.0, more.1, stops_like len rs (overwritten b r.0 r.1) (overwritten c r.0 r.1) more.1 more.2 can'.1 long', more.3)

-- ---- lengths

pub no_shorter : (rs : Ranges) (b : List ℕ) → CanWrite rs b → length b ≤ length (written rs b)
no_shorter [] b can = omega arith
no_shorter (r ∷ rs) b can = omega (arith, no_shorter rs (overwritten b r.0 r.1) can.1, long_over b r.0 r.1 can.0)

-- each range ends within the length that they leave
pub ends_within : (len : ℕ) (rs : Ranges) (b : List ℕ) → CanWrite rs b → length (written rs b) ≤ len → EndWithin len rs
ends_within len [] b can long = tt
ends_within len (r ∷ rs) b can long = (
  omega (arith, no_shorter rs (overwritten b r.0 r.1) can.1, long_over b r.0 r.1 can.0, long),
  ends_within len rs (overwritten b r.0 r.1) can.1 long,
)

no_longer : (len : ℕ) (rs : Ranges) (b : List ℕ) → CanWrite rs b → EndWithin len rs → length b ≤ len → length (written rs b) ≤ len
no_longer len [] b can within short = short
no_longer len (r ∷ rs) b can within short = no_longer len rs (overwritten b r.0 r.1) can.1 within.1 (omega (arith, long_over b r.0 r.1 can.0, within.0, short))

-- ---- again, on bytes on the way

pub record IsCutAgain (len : ℕ) (rs : Ranges) (was now : List ℕ) (made : Ranges) : Type 0 where
  pub stops : StopsBehind len rs now made
  pub long : length (written made now) ≡ length (written made was)

pub cut_again : (len : ℕ) (rs : Ranges) (was now : List ℕ) (made : Ranges) → StopsBehind len rs was made → IsReshaping (length (written made was)) made was now → IsCutAgain len rs was now made
cut_again len rs was now made stops way =
    let n = length (written made was) in
    let can = stops_can len rs was made stops in
    let within = ends_within n made was can (omega arith) in
    let again = reshapes_again n made was now (take n (written made was)) within (record { can = can; long = omega arith; is = refl }) way in
    let most : length (written made now) ≤ n = no_longer n made now again.can within (omega (arith, way.no_longer, no_shorter made was can)) in
    let long : length (written made now) ≡ n = omega (arith, again.long, most) in
    record { stops = stops_like len rs was now made stops again.can long; long = long }

-- ---- one range more

pub written_more : (front rs : Ranges) (b : List ℕ) → written (front ++ rs) b ≡ written rs (written front b)
written_more [] rs b = refl
written_more (r ∷ front) rs b = written_more front rs (overwritten b r.0 r.1)

pub can_more : (front rs : Ranges) (b : List ℕ) → CanWrite front b → CanWrite rs (written front b) → CanWrite (front ++ rs) b
can_more [] rs b can more = more
can_more (r ∷ front) rs b can more = (can.0, can_more front rs (overwritten b r.0 r.1) can.1 more)

-- what is written goes on from a front that can be
pub stops_after : (len : ℕ) (front rs : Ranges) (b : List ℕ) (made : Ranges) → CanWrite front b → StopsBehind len (front ++ rs) b made
    → (rest : Ranges) × StopsBehind len rs (written front b) rest × (made ≡ front ++ rest)
stops_after len [] rs b made can stops = (made, stops, refl)
stops_after len (r ∷ front) rs b made can (inl stops) = absurd (omega (arith, stops.0, can.0))
stops_after len (r ∷ front) rs b made can (inr more) =
    let rest = stops_after len front rs (overwritten b r.0 r.1) more.1 can.1 more.2 in
    (rest.0, rest.1, more.3 ∙ ap (λ (m : Ranges). r ∷ m) rest.2)

pub stops_then : (len : ℕ) (front rs : Ranges) (b : List ℕ) (rest : Ranges) → CanWrite front b → StopsBehind len rs (written front b) rest → StopsBehind len (front ++ rs) b (front ++ rest)
stops_then len [] rs b rest can stops = stops
stops_then len (r ∷ front) rs b rest can stops = inr (can.0, front ++ rest, stops_then len front rs (overwritten b r.0 r.1) rest can.1 stops, refl)
