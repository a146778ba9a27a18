-- The bytes of a file after its ranges, if these are cut or a chunk is put among them.
use Rattle.std.proofs.Common.{◌≡◌, ⊎_elim, ℕ, ◌+◌, ◌-◌, ◌≤◌, ◌<◌, max, List, [], ◌∷◌, length, get_or, take, Bool, true, false, refl, sym, ap, subst, ◌∙◌, arith, length-take}
use Rattle.std.specs.Prelude.{◌==◌}
use Rattle.std.proofs.lemmas.Bool.{cases_lt, lt-ltb, le-ltb, eqb-true, eq-eqb}
use Rattle.std.proofs.lemmas.List.{take_all, get_or-take, ext_get_or}
use Rattle.outside.specs.Changes.{overwritten}
use Rattle.deeds.specs.Reshape.{Ranges, written, CanWrite}
use Rattle.deeds.proofs.Overwritten.{long_over, get_before, get_behind, get_inside}
use Rattle.pending_files.specs.Pending.{IsPlace, AreChunks, cut_to, with_chunk}
use Rattle.pending_files.proofs.Ranges.{Cut, With, places_apart}

-- ---- fronts

pub same_front : (n : ℕ) (x y : List ℕ) → n ≤ length x → n ≤ length y → ((i : ℕ) → i < n → get_or x i 0 ≡ get_or y i 0) → take n x ≡ take n y
same_front n x y lx ly same = ext_get_or 0 (take n x) (take n y) (omega (arith, length-take n x, length-take n y, lx, ly))
    (λ i lt. let li : i < n = omega (arith, length-take n x) in get_or-take n x i 0 li ∙ same i li ∙ sym (get_or-take n y i 0 li))

pub front_at : (n : ℕ) (x y : List ℕ) → take n x ≡ take n y → (i : ℕ) → i < n → get_or x i 0 ≡ get_or y i 0
front_at n x y same i lt = sym (get_or-take n x i 0 lt) ∙ ap (λ (l : List ℕ). get_or l i 0) same ∙ get_or-take n y i 0 lt

front_over : (n : ℕ) (x : List ℕ) (at : ℕ) (s : List ℕ) → n ≤ at → at ≤ length x → take n (overwritten x at s) ≡ take n x
front_over n x at s le can = same_front n (overwritten x at s) x (omega (arith, long_over x at s can)) (omega arith) (λ i lt. get_before x at s i can (omega arith))

-- ranges from a place on keep what is before it
record KeepsFront (n : ℕ) (x y : List ℕ) : Type 0 where
  front : take n y ≡ take n x
  longer : length x ≤ length y

front_kept : (n from most : ℕ) (rs : Ranges) (x : List ℕ) → n ≤ from → AreChunks from most rs → CanWrite rs x → KeepsFront n x (written rs x)
front_kept n from most [] x le are can = record { front = refl; longer = omega arith }
front_kept n from most (r ∷ rs) x le are can =
    let more = front_kept n (r.0 + 32796) most rs (overwritten x r.0 r.1) (omega (arith, are.0)) are.4 can.1 in
    record {
      front = more.front ∙ front_over n x r.0 r.1 (omega (arith, are.0)) can.0;
      longer = omega (arith, more.longer, long_over x r.0 r.1 can.0);
    }

-- ---- cut

cut_none : (n from most : ℕ) (rs : Ranges) → n ≤ from → AreChunks from most rs → cut_to n rs ≡ []
cut_none n from most [] le are = refl
cut_none n from most (r ∷ rs) le are = ap (λ (b : Bool). Cut b n r (cut_to n rs)) (le-ltb r.0 n (omega (arith, are.0)))

pub record IsCutWritten (n : ℕ) (cut rs : Ranges) (was : List ℕ) : Type 0 where
  pub can : CanWrite cut was
  pub same : take n (written cut was) ≡ take n (written rs was)
  pub long : n ≤ length (written rs was) → n ≤ length (written cut was)

pub cut_written : (n from most : ℕ) (rs : Ranges) (was : List ℕ) → AreChunks from most rs → CanWrite rs was → IsCutWritten n (cut_to n rs) rs was
cut_written n from most [] was are can = record { can = tt; same = refl; long = λ le. le }
cut_written n from most (r ∷ rs) was are can =
    ⊎_elim
    (λ (lt : r.0 < n).
    let is = ap (λ (b : Bool). Cut b n r (cut_to n rs)) (lt-ltb r.0 n lt) in
    let new = overwritten was r.0 r.1 in
    subst (λ (l : Ranges). IsCutWritten n l (r ∷ rs) was) (sym is)
    (⊎_elim
    (λ (inside : n - r.0 < length r.1).
    -- the range goes past the length, and all others lie after it
    let cut = overwritten was r.0 (take (n - r.0) r.1) in
    let short : length (take (n - r.0) r.1) ≡ n - r.0 = omega (arith, length-take (n - r.0) r.1) in
    let behind : n ≤ r.0 + 32796 = omega (arith, are.2) in
    let none = cut_none n (r.0 + 32796) most rs behind are.4 in
    let long_cut = long_over was r.0 (take (n - r.0) r.1) can.0 in
    let long_new = long_over was r.0 r.1 can.0 in
    let kept = front_kept n (r.0 + 32796) most rs new behind are.4 can.1 in
    subst (λ (l : Ranges). IsCutWritten n ((r.0, take (n - r.0) r.1) ∷ l) (r ∷ rs) was) (sym none) (record {
      can = (can.0, tt);
      same = same_front n cut new (omega (arith, long_cut, short)) (omega (arith, long_new)) (λ i li.
          ⊎_elim (λ (below : i < r.0). get_before was r.0 (take (n - r.0) r.1) i can.0 below ∙ sym (get_before was r.0 r.1 i can.0 below))
          (λ (on : r.0 ≤ i). get_inside was r.0 (take (n - r.0) r.1) i can.0 on (omega (arith, short)) ∙ get_or-take (n - r.0) r.1 (i - r.0) 0 (omega arith)
          ∙ sym (get_inside was r.0 r.1 i can.0 on (omega arith)))
          (cases_lt i r.0)) ∙ sym kept.front;
      long = λ le. omega (arith, long_cut, short);
    }))
    (λ (whole : length r.1 ≤ n - r.0).
    let all = take_all (n - r.0) r.1 whole in
    let more = cut_written n (r.0 + 32796) most rs new are.4 can.1 in
    subst (λ (l : List ℕ). IsCutWritten n ((r.0, l) ∷ cut_to n rs) (r ∷ rs) was) (sym all) (record { can = (can.0, more.can); same = more.same; long = more.long }))
    (cases_lt (n - r.0) (length r.1))))
    (λ (le : n ≤ r.0).
    let is = ap (λ (b : Bool). Cut b n r (cut_to n rs)) (le-ltb r.0 n le) in
    let kept = front_kept n r.0 most (r ∷ rs) was le (omega arith, are.1, are.2, are.3, are.4) can in
    subst (λ (l : Ranges). IsCutWritten n l (r ∷ rs) was) (sym is) (record { can = tt; same = sym kept.front; long = λ _. omega (arith, can.0) }))
    (cases_lt r.0 n)

-- ---- a chunk put

-- two writes of which the first ends before the other begins
swap : (x : List ℕ) (a : ℕ) (s : List ℕ) (b : ℕ) (t : List ℕ) → a + length s ≤ b → b ≤ length x → overwritten (overwritten x a s) b t ≡ overwritten (overwritten x b t) a s
swap x a s b t before can =
    let la : a ≤ length x = omega (arith, before, can) in
    let long_a = long_over x a s la in
    let can_b : b ≤ length (overwritten x a s) = omega (arith, long_a) in
    let long_b = long_over x b t can in
    let can_a : a ≤ length (overwritten x b t) = omega (arith, long_b) in
    ext_get_or 0 (overwritten (overwritten x a s) b t) (overwritten (overwritten x b t) a s)
    (omega (arith, long_over (overwritten x a s) b t can_b, long_over (overwritten x b t) a s can_a, long_a, long_b))
    (λ i lt.
    ⊎_elim
    (λ (below : i < a). get_before (overwritten x a s) b t i can_b (omega arith) ∙ get_before x a s i la below
    ∙ sym (get_before (overwritten x b t) a s i can_a below ∙ get_before x b t i can (omega arith)))
    (λ (on : a ≤ i).
    ⊎_elim
    (λ (inside : i < a + length s). get_before (overwritten x a s) b t i can_b (omega arith) ∙ get_inside x a s i la on inside
    ∙ sym (get_inside (overwritten x b t) a s i can_a on inside))
    (λ (past : a + length s ≤ i).
    ⊎_elim
    (λ (between : i < b). get_before (overwritten x a s) b t i can_b between ∙ get_behind x a s i la past
    ∙ sym (get_behind (overwritten x b t) a s i can_a past ∙ get_before x b t i can between))
    (λ (from : b ≤ i).
    ⊎_elim
    (λ (to : i < b + length t). get_inside (overwritten x a s) b t i can_b from to
    ∙ sym (get_behind (overwritten x b t) a s i can_a past ∙ get_inside x b t i can from to))
    (λ (after : b + length t ≤ i). get_behind (overwritten x a s) b t i can_b after ∙ get_behind x a s i la past
    ∙ sym (get_behind (overwritten x b t) a s i can_a past ∙ get_behind x b t i can after))
    (cases_lt i (b + length t)))
    (cases_lt i b))
    (cases_lt i (a + length s)))
    (cases_lt i a))

-- a longer write over one at the same place
over_again : (x : List ℕ) (a : ℕ) (s t : List ℕ) → a ≤ length x → length s ≤ length t → overwritten (overwritten x a s) a t ≡ overwritten x a t
over_again x a s t la le =
    let long_a = long_over x a s la in
    let can_a : a ≤ length (overwritten x a s) = omega (arith, long_a) in
    ext_get_or 0 (overwritten (overwritten x a s) a t) (overwritten x a t)
    (omega (arith, long_over (overwritten x a s) a t can_a, long_over x a t la, long_a, le))
    (λ i lt.
    ⊎_elim
    (λ (below : i < a). get_before (overwritten x a s) a t i can_a below ∙ get_before x a s i la below ∙ sym (get_before x a t i la below))
    (λ (on : a ≤ i).
    ⊎_elim
    (λ (inside : i < a + length t). get_inside (overwritten x a s) a t i can_a on inside ∙ sym (get_inside x a t i la on inside))
    (λ (past : a + length t ≤ i). get_behind (overwritten x a s) a t i can_a past ∙ get_behind x a s i la (omega (arith, le)) ∙ sym (get_behind x a t i la past))
    (cases_lt i (a + length t)))
    (cases_lt i a))

-- a write before all ranges can be made after them
put_before : (at : ℕ) (s : List ℕ) (from most : ℕ) (rs : Ranges) (x : List ℕ) → at + length s ≤ from → AreChunks from most rs → CanWrite rs x → at ≤ length x
    → CanWrite rs (overwritten x at s) × (written rs (overwritten x at s) ≡ overwritten (written rs x) at s)
put_before at s from most [] x before are can here = (tt, refl)
put_before at s from most (r ∷ rs) x before are can here =
    let apart : at + length s ≤ r.0 = omega (arith, before, are.0) in
    let long = long_over x at s here in
    let more = put_before at s (r.0 + 32796) most rs (overwritten x r.0 r.1) (omega (arith, apart)) are.4 can.1 (omega (arith, here, long_over x r.0 r.1 can.0)) in
    let swapped = swap x at s r.0 r.1 apart can.0 in
    ((omega (arith, can.0, long), subst (CanWrite rs) (sym swapped) more.0), ap (written rs) swapped ∙ more.1)

pub record IsPutWritten (at : ℕ) (s : List ℕ) (with rs : Ranges) (was : List ℕ) : Type 0 where
  pub can : CanWrite with was
  pub is : written with was ≡ overwritten (written rs was) at s

pub with_written : (from most at : ℕ) (s : List ℕ) (rs : Ranges) (was : List ℕ) → AreChunks from most rs → IsPlace at → CanWrite rs was → at ≤ length (written rs was)
    → length s ≤ 32796 → ((n : ℕ) → n ≤ 32796 → at + n ≤ most → n ≤ length s) → IsPutWritten at s (with_chunk at s rs) rs was
with_written from most at s [] was are place can here short over = record { can = (here, tt); is = refl }
with_written from most at s (r ∷ rs) was are place can here short over =
    let new = overwritten was r.0 r.1 in
    ⊎_elim
    (λ (lt : r.0 < at).
    let is = ap (λ (b : Bool). With b (r.0 == at) (at, s) r (with_chunk at s rs) rs) (lt-ltb r.0 at lt) in
    let more = with_written (r.0 + 32796) most at s rs new are.4 place can.1 here short over in
    subst (λ (l : Ranges). IsPutWritten at s l (r ∷ rs) was) (sym is) (record { can = (can.0, more.can); is = more.is }))
    (λ (le : at ≤ r.0).
    let first = ap (λ (b : Bool). With b (r.0 == at) (at, s) r (with_chunk at s rs) rs) (le-ltb r.0 at le) in
    ⊎_elim
    (λ (lt : at < r.0).
    let is = first ∙ ap (λ (b : Bool). With false b (at, s) r (with_chunk at s rs) rs) (not_same r.0 at lt) in
    let apart = places_apart at r.0 place are.1 lt in
    let more = put_before at s r.0 most (r ∷ rs) was (omega (arith, apart, short)) (omega arith, are.1, are.2, are.3, are.4) can (omega (arith, can.0, lt)) in
    subst (λ (l : Ranges). IsPutWritten at s l (r ∷ rs) was) (sym is) (record { can = (omega (arith, can.0, lt), more.0); is = more.1 }))
    (λ (ge : r.0 ≤ at).
    let e : r.0 ≡ at = omega arith in
    let is = first ∙ ap (λ (b : Bool). With false b (at, s) r (with_chunk at s rs) rs) (eq-eqb r.0 at e) in
    subst (λ (l : Ranges). IsPutWritten at s l (r ∷ rs) was) (sym is) (same_place e))
    (cases_lt at r.0))
    (cases_lt r.0 at)
  where
    not_same : (a b : ℕ) → b < a → (a == b) ≡ false
    not_same a b lt = step (a == b) refl
      where
        step : (c : Bool) → (a == b) ≡ c → (a == b) ≡ false
        step true is = let e = eqb-true a b is in absurd (omega (arith, e, lt))
        step false is = is

    same_place : r.0 ≡ at → IsPutWritten at s ((at, s) ∷ rs) (r ∷ rs) was
    same_place e =
        let here_was : at ≤ length was = omega (arith, can.0, e) in
        let fits : length r.1 ≤ length s = over (length r.1) are.2 (omega (arith, are.3, e)) in
        let old : overwritten was r.0 r.1 ≡ overwritten was at r.1 = ap (λ (k : ℕ). overwritten was k r.1) e in
        let can_rest = subst (CanWrite rs) old can.1 in
        let more = put_before at s (r.0 + 32796) most rs (overwritten was at r.1) (omega (arith, e, short)) are.4 can_rest (omega (arith, here_was, long_over was at r.1 here_was)) in
        let again = over_again was at r.1 s here_was fits in
        record {
          can = (here_was, subst (CanWrite rs) again more.0);
          is = ap (written rs) (sym again) ∙ more.1 ∙ ap (λ (l : List ℕ). overwritten (written rs l) at s) (sym old);
        }

-- ---- a file that is cut, and a chunk put in it

pub put_bytes : (size at len : ℕ) (s cut whole : List ℕ) → take size cut ≡ take size whole → len ≤ length whole → at ≤ len → at + length s ≤ size → size ≤ max len (at + length s)
    → (size ≤ length whole → size ≤ length cut) → (at ≤ length cut) × (size ≤ length (overwritten cut at s)) × (take size (overwritten cut at s) ≡ take size (overwritten (take len whole) at s))
put_bytes size at len s cut whole same within here ends no_gap long =
    let shorter = ap length same in
    let in_cut : at ≤ length cut = omega (arith, shorter, length-take size cut, length-take size whole, within, here, ends) in
    let front_long : length (take len whole) ≡ len = omega (arith, length-take len whole, within) in
    let in_front : at ≤ length (take len whole) = omega (arith, front_long, here) in
    let long_cut = long_over cut at s in_cut in
    let long_front = long_over (take len whole) at s in_front in
    let fits : size ≤ length (overwritten cut at s) = ⊎_elim (λ (lt : length whole < size). omega (arith, long_cut, no_gap, within, lt))
    (λ (le : size ≤ length whole). omega (arith, long_cut, long le)) (cases_lt (length whole) size) in (
      in_cut,
      fits,
      same_front size (overwritten cut at s) (overwritten (take len whole) at s) fits (omega (arith, long_front, front_long, no_gap)) (λ i lt.
          ⊎_elim
          (λ (below : i < at). get_before cut at s i in_cut below ∙ front_at size cut whole same i lt ∙ sym (get_before (take len whole) at s i in_front below ∙ get_or-take len whole i 0 (omega (arith, here))))
          (λ (on : at ≤ i).
          ⊎_elim
          (λ (inside : i < at + length s). get_inside cut at s i in_cut on inside ∙ sym (get_inside (take len whole) at s i in_front on inside))
          (λ (past : at + length s ≤ i). get_behind cut at s i in_cut past ∙ front_at size cut whole same i lt
          ∙ sym (get_behind (take len whole) at s i in_front past ∙ get_or-take len whole i 0 (omega (arith, no_gap))))
          (cases_lt i (at + length s)))
          (cases_lt i at)),
    )
