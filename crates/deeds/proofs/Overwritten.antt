-- Bytes that are overwritten, place by place.
use Rattle.std.proofs.Common.{◌≡◌, ℕ, ◌+◌, ◌-◌, ◌≤◌, ◌<◌, max, List, ◌++◌, length, get_or, take, drop, ap, ◌∙◌, arith, length-append, length-take, length-drop}
use Rattle.std.proofs.lemmas.List.{get_or_append_left, get_or-take, get_or-drop, get_or-append_right}
use Rattle.outside.specs.Changes.{overwritten}

get_left : (xs ys : List ℕ) (i : ℕ) → i < length xs → get_or (xs ++ ys) i 0 ≡ get_or xs i 0
get_left xs ys i lt = get_or_append_left xs ys 0 i lt

pub long_over : (old : List ℕ) (at : ℕ) (bytes : List ℕ) → at ≤ length old → length (overwritten old at bytes) ≡ max (length old) (at + length bytes)
long_over old at bytes le = omega (arith, length-append (take at old ++ bytes) (drop (at + length bytes) old), length-append (take at old) bytes, length-take at old, length-drop (at + length bytes) old)

front_long : (old : List ℕ) (at : ℕ) → at ≤ length old → length (take at old) ≡ at
front_long old at le = omega (arith, length-take at old)

pub get_before : (old : List ℕ) (at : ℕ) (bytes : List ℕ) (i : ℕ) → at ≤ length old → i < at → get_or (overwritten old at bytes) i 0 ≡ get_or old i 0
get_before old at bytes i le below =
    let f = front_long old at le in
    get_left (take at old ++ bytes) (drop (at + length bytes) old) i (omega (arith, f, length-append (take at old) bytes))
    ∙ get_left (take at old) bytes i (omega (arith, f)) ∙ get_or-take at old i 0 below

pub get_behind : (old : List ℕ) (at : ℕ) (bytes : List ℕ) (i : ℕ) → at ≤ length old → at + length bytes ≤ i → get_or (overwritten old at bytes) i 0 ≡ get_or old i 0
get_behind old at bytes i le above =
    let f = front_long old at le in
    let e : at + length bytes + (i - (at + length bytes)) ≡ i = omega arith in
    get_or-append_right (take at old ++ bytes) (drop (at + length bytes) old) (at + length bytes) i 0 (omega (arith, f, length-append (take at old) bytes)) above
    ∙ get_or-drop (at + length bytes) old (i - (at + length bytes)) 0 ∙ ap (λ (k : ℕ). get_or old k 0) e

pub get_inside : (old : List ℕ) (at : ℕ) (bytes : List ℕ) (i : ℕ) → at ≤ length old → at ≤ i → i < at + length bytes → get_or (overwritten old at bytes) i 0 ≡ get_or bytes (i - at) 0
get_inside old at bytes i le from to =
    let f = front_long old at le in
    get_left (take at old ++ bytes) (drop (at + length bytes) old) i (omega (arith, f, length-append (take at old) bytes))
    ∙ get_or-append_right (take at old) bytes at i 0 f from
