-- AES key wrap (RFC 3394) of a key of 32 bytes: n is 4.
use Rattle.std.specs.Prelude.{ℕ, zero, suc, ◌+◌, ◌-◌, ◌*◌, ◌%◌, List, ◌++◌, take, drop, replicate, Option, Some, None, if◌then◌else◌}
use Rattle.std.specs.Str.{bytes_eq}
use Rattle.aes_block.specs.Bytes.{xor_bytes, bytes_of}

-- eight bytes A6, the check value (2.2.3.1)
abbrev pub check_value : List ℕ
check_value = replicate 8 0xa6

-- A, and after it R 1 to R 4, each of 8 bytes: 40 bytes. i counts from 1; R i is at place 8 i
abbrev pub part : List ℕ → ℕ → List ℕ
part state i = take 8 (drop (8 * i) state)

abbrev pub with_part : List ℕ → ℕ → List ℕ → List ℕ
with_part state i r = take (8 * i) state ++ r ++ drop (8 * i + 8) state

-- which R step t works on: 1 to 4 in order, again and again
abbrev pub turn : ℕ → ℕ
turn t = (t - 1) % 4 + 1

-- step t, from 1: X = E(A, R i); A is the first half of X xor t, R i the second half (2.2.1)
unfoldable pub wrap_step : (List ℕ → List ℕ) → ℕ → List ℕ → List ℕ
wrap_step cipher t state =
    let x = cipher (part state 0 ++ part state (turn t)) in
    with_part (with_part state (turn t) (drop 8 x)) 0 (xor_bytes (take 8 x) (bytes_of 8 t))

-- the state after t steps
unfoldable pub wrapped_after : (List ℕ → List ℕ) → List ℕ → ℕ → List ℕ
wrapped_after cipher state zero = state
wrapped_after cipher state (suc t) = wrap_step cipher (suc t) (wrapped_after cipher state t)

-- the key wrapped: 6 n steps from the check value and the key (2.2.1)
unfoldable pub wrapped : (List ℕ → List ℕ) → List ℕ → List ℕ
wrapped cipher key = wrapped_after cipher (check_value ++ key) 24

-- step t back: X = D(A xor t, R i); A is the first half of X, R i the second half (2.2.2)
unfoldable pub unwrap_step : (List ℕ → List ℕ) → ℕ → List ℕ → List ℕ
unwrap_step inverse t state =
    let x = inverse (xor_bytes (part state 0) (bytes_of 8 t) ++ part state (turn t)) in
    with_part (with_part state (turn t) (drop 8 x)) 0 (take 8 x)

-- the state after the steps 24, 23, .. down to 25 - n were taken back, n of them
unfoldable pub unwrapped_after : (List ℕ → List ℕ) → List ℕ → ℕ → List ℕ
unwrapped_after inverse state zero = state
unwrapped_after inverse state (suc n) = unwrap_step inverse (24 - n) (unwrapped_after inverse state n)

-- the key, accepted if and only if A is the check value (2.2.2)
unfoldable pub unwrapped : (List ℕ → List ℕ) → List ℕ → Option (List ℕ)
unwrapped inverse state =
    if bytes_eq (part (unwrapped_after inverse state 24) 0) check_value then Some (drop 8 (unwrapped_after inverse state 24)) else None
