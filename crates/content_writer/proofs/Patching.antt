-- Bytes that are written over a chunk's plaintext in its room.
use Rattle.std.proofs.Common.{◌≡◌, ℕ, ◌+◌, ◌-◌, ◌<◌, ◌≤◌, min, max, List, [], ◌++◌, length, take, drop, replicate, sym, ap, ◌∙◌, arith, inl, inr, length-append, length-take, length-drop}
use Rattle.std.proofs.Math.Seq.{take-append-add}
use Rattle.std.proofs.lemmas.Bool.{cases_lt}
use Rattle.std.proofs.lemmas.List.{append_assoc, append-nil, length-replicate, take_all, take-take, take-append-le, take-append-drop, drop-take, drop_all, replicate-append-replicate}
use Rattle.content_laws.specs.Laws.{patched}

-- no elements after a front
no_more : {A : Type 0} (n m : ℕ) (xs ys : List A) → n ≡ 0 → length ys ≤ m → take n xs ≡ drop m ys
no_more n m xs ys none past = ap (λ (k : ℕ). take k xs) none ∙ sym (drop_all m ys past)

-- the front and more of what follows it
front_and : {A : Type 0} (n k : ℕ) (xs ys : List A) → n ≡ length xs + k → take n (xs ++ ys) ≡ xs ++ take k ys
front_and n k xs ys is = ap (λ (m : ℕ). take m (xs ++ ys)) is ∙ take-append-add xs ys k

-- the old bytes, with a gap up to an index filled
abbrev filled : List ℕ → ℕ → List ℕ
filled old from = old ++ replicate (from - length old) 0

length-filled : (old : List ℕ) (from : ℕ) → length (filled old from) ≡ max (length old) from
length-filled old from = omega (arith, length-append old (replicate (from - length old) 0), length-replicate {A = ℕ} (from - length old) 0)

-- a longer gap than fits begins with the one that does
longer_gap : (n a b : ℕ) → n ≡ a + b → replicate {A = ℕ} n 0 ≡ replicate a 0 ++ replicate b 0
longer_gap n a b is = ap (λ (k : ℕ). replicate {A = ℕ} k 0) is ∙ sym (replicate-append-replicate a b 0)

filled-front : (old : List ℕ) (at : ℕ) → length old ≤ 32768 → 32768 ≤ at → take 32768 (filled old at) ≡ take 32768 (filled old 32768)
filled-front old at short far =
    ap (λ (zs : List ℕ). take 32768 (old ++ zs)) (longer_gap (at - length old) (32768 - length old) (at - 32768) (omega arith))
    ∙ ap (take 32768) (sym (append_assoc old (replicate (32768 - length old) 0) (replicate (at - 32768) 0)))
    ∙ take-append-le 32768 (filled old 32768) (replicate (at - 32768) 0) (omega (arith, length-filled old 32768))

-- what is written of the bytes, and from where, if what is past a chunk is left out
module _ (old : List ℕ) (at : ℕ) (bytes : List ℕ) (short : length old ≤ 32768) (from : ℕ) (is_from : from ≡ min at 32768) (part : List ℕ)
    (is_part : part ≡ take (min (length bytes) (32768 - from)) bytes) where
  long : length part ≡ min (length bytes) (32768 - from)
  long = ap length is_part ∙ omega (arith, length-take (min (length bytes) (32768 - from)) bytes)

  front : List ℕ
  front = take from (filled old from) ++ part

  length-front : length (take from (filled old from) ++ part) ≡ from + length part
  length-front = length-append (take from (filled old from)) part ∙ omega (arith, length-take from (filled old from), length-filled old from)

  -- after a chunk there is nothing
  whole_part : (rest : List ℕ) → 32768 - from ≤ length bytes → take (32768 - from) (bytes ++ rest) ≡ part
  whole_part rest more =
      let all : min (length bytes) (32768 - from) ≡ 32768 - from = omega arith in
      take-append-le (32768 - from) bytes rest more ∙ sym (is_part ∙ ap (λ (n : ℕ). take n bytes) all)

  near : at < 32768 → patched old at bytes ≡ take from (filled old from) ++ part ++ drop (from + length part) old
  near inside =
      let same : at ≡ from = omega arith in
      let tail : List ℕ = drop (from + length bytes) old in
      let whole : patched old at bytes ≡ take 32768 (take from (filled old from) ++ bytes ++ drop (from + length bytes) old) =
      ap (λ (a : ℕ). take 32768 (take a (filled old a) ++ bytes ++ drop (a + length bytes) old)) same in
      let head : length (take from (filled old from)) ≡ from = omega (arith, length-take from (filled old from), length-filled old from) in
      whole ∙ elim (cases_lt (length bytes) (32768 - from)) [
        | inl fits ↦
            let all : min (length bytes) (32768 - from) ≡ length bytes = omega arith in
            let same_part : part ≡ bytes = is_part ∙ ap (λ (n : ℕ). take n bytes) all ∙ take_all (length bytes) bytes (omega arith) in
            let in_chunk : length (take from (filled old from) ++ bytes ++ drop (from + length bytes) old) ≤ 32768 =
            omega (
              arith,
              length-append (take from (filled old from) ++ bytes) (drop (from + length bytes) old),
              length-append (take from (filled old from)) bytes,
              length-drop (from + length bytes) old,
              head,
            ) in
            take_all 32768 (take from (filled old from) ++ bytes ++ drop (from + length bytes) old) in_chunk
            ∙ ap (λ (xs : List ℕ). take from (filled old from) ++ xs ++ drop (from + length xs) old) (sym same_part)
        | inr more ↦
            let end : from + length part ≡ 32768 = omega (arith, long) in
            let none : drop (from + length part) old ≡ [] = drop_all (from + length part) old (omega arith) in
            ap (take 32768) (append_assoc (take from (filled old from)) bytes (drop (from + length bytes) old))
            ∙ front_and 32768 (32768 - from) (take from (filled old from)) (bytes ++ drop (from + length bytes) old) (omega (arith, head))
            ∙ ap (λ (xs : List ℕ). take from (filled old from) ++ xs) (whole_part (drop (from + length bytes) old) more)
            ∙ sym (ap (λ (xs : List ℕ). take from (filled old from) ++ part ++ xs) none ∙ append-nil (take from (filled old from) ++ part))
      ]

  far : 32768 ≤ at → patched old at bytes ≡ take from (filled old from) ++ part ++ drop (from + length part) old
  far past =
      let same : from ≡ 32768 = omega arith in
      let none : length part ≡ 0 = omega (arith, long) in
      let no_part : part ≡ [] = sym (take_all 0 part (omega arith)) in
      let no_rest : drop (from + length part) old ≡ [] = drop_all (from + length part) old (omega arith) in
      let head : length (take at (filled old at)) ≡ at = omega (arith, length-take at (filled old at), length-filled old at) in
      ap (take 32768) (append_assoc (take at (filled old at)) bytes (drop (at + length bytes) old))
      ∙ take-append-le 32768 (take at (filled old at)) (bytes ++ drop (at + length bytes) old) (omega (arith, head))
      ∙ take-take 32768 at (filled old at) past
      ∙ filled-front old at short past
      ∙ ap (λ (n : ℕ). take n (filled old n)) (sym same)
      ∙ sym (append-nil (take from (filled old from)))
      ∙ ap (λ (xs : List ℕ). take from (filled old from) ++ xs) (sym no_part)
      ∙ sym (append-nil (take from (filled old from) ++ part))
      ∙ ap (λ (xs : List ℕ). take from (filled old from) ++ part ++ xs) (sym no_rest)

  pub patched-parts : patched old at bytes ≡ take from (filled old from) ++ part ++ drop (from + length part) old
  patched-parts = elim (cases_lt at 32768) [ inl inside ↦ near inside | inr past ↦ far past ]

-- the same in room for a chunk, of which the front of a count is the old plaintext
module _ (clear : List ℕ) (count at : ℕ) (bytes : List ℕ) (room : length clear ≡ 32768) (fits : count ≤ 32768) (from : ℕ) (is_from : from ≡ min at 32768) (part : List ℕ)
    (is_part : part ≡ take (min (length bytes) (32768 - from)) bytes) where
  held : length (take count clear) ≡ count
  held = omega (arith, length-take count clear)

  -- what follows the new bytes
  behind : (filled_room : List ℕ) → filled_room ≡ filled (take count clear) from ++ drop (max count from) clear
      → take (max count (from + length part) - (from + length part)) (drop (from + length part) filled_room) ≡ drop (from + length part) (take count clear)
  behind filled_room is = elim (cases_lt (from + length part) count) [
    | inl more ↦
        let no_gap : from - length (take count clear) ≡ 0 = omega (arith, held) in
        let from_count : max count from ≡ count = omega arith in
        let same : filled_room ≡ clear =
        is
        ∙ ap (λ (n : ℕ). (take count clear ++ replicate n 0) ++ drop (max count from) clear) no_gap
        ∙ ap (λ (xs : List ℕ). xs ++ drop (max count from) clear) (append-nil (take count clear))
        ∙ ap (λ (n : ℕ). take count clear ++ drop n clear) from_count
        ∙ take-append-drop count clear in
        let rest : max count (from + length part) - (from + length part) ≡ count - (from + length part) = omega arith in
        let split : count ≡ (from + length part) + (count - (from + length part)) = omega arith in
        ap (λ (n : ℕ). take n (drop (from + length part) filled_room)) rest
        ∙ ap (λ (xs : List ℕ). take (count - (from + length part)) (drop (from + length part) xs)) same
        ∙ sym (drop-take (from + length part) (count - (from + length part)) clear)
        ∙ ap (λ (n : ℕ). drop (from + length part) (take n clear)) (sym split)
    | inr none ↦ no_more (max count (from + length part) - (from + length part)) (from + length part) (drop (from + length part) filled_room) (take count clear) (omega arith) (omega (arith, held))
  ]

  pub patched_in : (filled_room new : List ℕ) → filled_room ≡ take count clear ++ replicate (from - count) 0 ++ drop (max count from) clear
      → new ≡ take from filled_room ++ part ++ drop (from + length part) filled_room
      → take (max count (from + length part)) new ≡ patched (take count clear) at bytes
  patched_in filled_room new is_filled is_new =
      let old : List ℕ = take count clear in
      let is : filled_room ≡ filled (take count clear) from ++ drop (max count from) clear =
      is_filled ∙ ap (λ (n : ℕ). take count clear ++ replicate (from - n) 0 ++ drop (max count from) clear) (sym held) in
      let short : length (take count clear) ≤ 32768 = omega (arith, held) in
      let head : take from filled_room ≡ take from (filled (take count clear) from) =
      ap (take from) is ∙ take-append-le from (filled (take count clear) from) (drop (max count from) clear) (omega (arith, length-filled (take count clear) from)) in
      let split : max count (from + length part) ≡ length (take from (filled (take count clear) from) ++ part) + (max count (from + length part) - (from + length part)) =
      omega (arith, length-front (take count clear) at bytes short from is_from part is_part) in
      ap (take (max count (from + length part))) (is_new ∙ ap (λ (xs : List ℕ). xs ++ part ++ drop (from + length part) filled_room) head)
      ∙ front_and (max count (from + length part)) (max count (from + length part) - (from + length part)) (take from (filled (take count clear) from) ++ part) (drop (from + length part) filled_room) split
      ∙ ap (λ (xs : List ℕ). take from (filled (take count clear) from) ++ part ++ xs) (behind filled_room is)
      ∙ sym (patched-parts (take count clear) at bytes short from is_from part is_part)

-- how long a chunk is afterwards
pub length-patched : (old : List ℕ) (at : ℕ) (bytes : List ℕ) → length (patched old at bytes) ≡ min 32768 (max (length old) (at + length bytes))
length-patched old at bytes =
    let head : length (take at (filled old at)) ≡ at = omega (arith, length-take at (filled old at), length-filled old at) in
    omega (
      arith,
      length-take 32768 (take at (filled old at) ++ bytes ++ drop (at + length bytes) old),
      length-append (take at (filled old at) ++ bytes) (drop (at + length bytes) old),
      length-append (take at (filled old at)) bytes,
      length-drop (at + length bytes) old,
      head,
    )
