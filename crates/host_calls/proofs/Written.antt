-- Which bytes are left by steps.
use Rattle.std.proofs.Common.{◌≡◌, ◌⊎◌, ℕ, zero, suc, ◌+◌, ◌-◌, ◌≤◌, max, min, Bool, true, false, zero-add, List, [], ◌∷◌, ◌++◌, length, take, drop, refl, sym, ap, subst, ◌∙◌, inl, inr, arith, length-append, length-take, length-drop, append-nil}
use Rattle.std.proofs.lemmas.List.{take_at, drop-drop}
use Rattle.outside.specs.Changes.{IsTorn, IsCut, IsTornPut, overwritten}
use Rattle.outside.proofs.Steady.{written_torn}
use Rattle.host_calls.specs.Bytes.{FileStep, Wrote, Cut, bytes_by, bytes_after, MayHold, IsLeftBy, IsWithin, AreWithin}
use Rattle.host_calls.specs.Calls.{written}

-- ---- more steps

pub hold_back : (lasting : List ℕ) (more older : List FileStep) (held : List ℕ) → MayHold lasting (more ++ older) held → (before : List ℕ) × MayHold lasting older before × MayHold before more held
hold_back lasting [] older held h = (held, h, refl)
hold_back lasting (last ∷ more) older held h = let b = hold_back lasting more older h.0 h.1 in (b.0, b.1, (h.0, b.2, h.2))

pub bytes_more : (lasting : List ℕ) (more older : List FileStep) → bytes_after lasting (more ++ older) ≡ bytes_after (bytes_after lasting older) more
bytes_more lasting [] older = refl
bytes_more lasting (last ∷ more) older = ap (bytes_by last) (bytes_more lasting more older)

pub within_more : (lasting : List ℕ) (more older : List FileStep) → AreWithin lasting older → AreWithin (bytes_after lasting older) more → AreWithin lasting (more ++ older)
within_more lasting [] older h more_h = h
within_more lasting (last ∷ more) older h more_h = (within_more lasting more older h more_h.0, subst (IsWithin last) (sym (bytes_more lasting more older)) more_h.1)

-- ---- whole steps

left_whole : (step : FileStep) (old : List ℕ) → IsWithin step old → IsLeftBy step old (bytes_by step old)
left_whole (Wrote at bytes) old within = written_torn at (length bytes) old bytes within (omega arith)
left_whole (Cut n) old within = record {
  no_shorter = omega (arith, length-take n old);
  front = let e : length (take n old) ≡ n = omega (arith, length-take n old) in ap (λ (k : ℕ). take k old) (sym e);
}

-- what reads give may be held
pub hold_whole : (lasting : List ℕ) (steps : List FileStep) → AreWithin lasting steps → MayHold lasting steps (bytes_after lasting steps)
hold_whole lasting [] h = refl
hold_whole lasting (last ∷ older) h = (bytes_after lasting older, hold_whole lasting older h.0, inr (left_whole last (bytes_after lasting older) h.1))

-- the bytes at the last flush may be
pub hold_lasting : (lasting : List ℕ) (steps : List FileStep) → MayHold lasting steps lasting
hold_lasting lasting [] = refl
hold_lasting lasting (last ∷ older) = (lasting, hold_lasting lasting older, inl refl)

-- ---- one write, or one cut

one_step : (step : FileStep) (old held : List ℕ) → MayHold old (step ∷ []) held → (held ≡ old) ⊎ IsLeftBy step old held
one_step step old held h = subst (λ (b : List ℕ). (held ≡ b) ⊎ IsLeftBy step b held) h.1 h.2

torn_more : (at k n : ℕ) (old new : List ℕ) → k ≤ n → IsTorn at k old new → IsTorn at n old new
torn_more at k n old new few torn =
    let behind : at + k + (n - k) ≡ at + n = omega arith in
    record {
      before = torn.before;
      after =
          ap (λ (j : ℕ). drop j new) (sym behind)
          ∙ sym (drop-drop (n - k) (at + k) new)
          ∙ ap (λ (l : List ℕ). drop (n - k) l) torn.after
          ∙ drop-drop (n - k) (at + k) old
          ∙ ap (λ (j : ℕ). drop j old) behind;
      no_shorter = torn.no_shorter;
      no_longer = let h = torn.no_longer in omega arith;
    }

-- a front of the bytes of a write, of n bytes at most
pub left_of_write : (at : ℕ) (bytes : List ℕ) (n : ℕ) (old held : List ℕ) → length bytes ≤ n → MayHold old (written at bytes false) held → (held ≡ old) ⊎ IsTorn at n old held
left_of_write at bytes n old held few h = longer (one_step (Wrote at bytes) old held h)
  where
    longer : (held ≡ old) ⊎ IsTorn at (length bytes) old held → (held ≡ old) ⊎ IsTorn at n old held
    longer (inl same) = inl same
    longer (inr torn) = inr (torn_more at (length bytes) n old held few torn)

pub left_of_cut : (n : ℕ) (old held : List ℕ) → MayHold old (Cut n ∷ []) held → (held ≡ old) ⊎ IsCut n old held
left_of_cut n old held h = one_step (Cut n) old held h

-- bytes that were put over a file's own, cut after them or not
pub left_of_front : (bytes : List ℕ) (n : ℕ) (old held : List ℕ) → length bytes ≤ n → MayHold old (written 0 bytes false) held → IsTornPut n old held
left_of_front bytes n old held few h = short (left_of_write 0 bytes n old held few h)
  where
    short : (held ≡ old) ⊎ IsTorn 0 n old held → IsTornPut n old held
    short (inl same) = let e : length held ≡ length old = ap length same in omega arith
    short (inr torn) = let e = torn.no_longer in omega arith

pub left_of_put : (bytes old held : List ℕ) → MayHold old (written 0 bytes true) held → IsTornPut (length bytes) old held
left_of_put bytes old held h = short h.2
  where
    first : IsTornPut (length bytes) old h.0
    first = left_of_front bytes (length bytes) old h.0 (omega arith) h.1

    short : (held ≡ h.0) ⊎ IsLeftBy (Cut (0 + length bytes)) h.0 held → IsTornPut (length bytes) old held
    short (inl same) = let e : length held ≡ length h.0 = ap length same in let f = first in omega arith
    short (inr cut) = let e : length held ≡ length (take (length held) h.0) = ap length cut.front in let f = first in omega (arith, length-take (length held) h.0)

-- ---- what reads give after them

pub put_bytes : (bytes old : List ℕ) → bytes_after old (written 0 bytes true) ≡ bytes
put_bytes bytes old =
    let e : overwritten old 0 bytes ≡ bytes ++ drop (length bytes) old = simp (zero-add) in
    ap (λ (l : List ℕ). take (0 + length bytes) l) e ∙ take_at bytes (drop (length bytes) old) (0 + length bytes) (omega arith)

-- a write and its cut are within the file
pub write_within : (at : ℕ) (bytes old : List ℕ) (is_end : Bool) → at ≤ length old → AreWithin old (written at bytes is_end)
write_within at bytes old false within = (tt, within)
write_within at bytes old true within = (
  (tt, within),
  let front : length (take at old) ≡ at = omega (arith, length-take at old) in
      let ahead : length (take at old ++ bytes) ≡ at + length bytes = omega (arith, front, length-append (take at old) bytes) in
      omega (arith, ahead, length-append (take at old ++ bytes) (drop (at + length bytes) old)),
)

nothing_behind : (n : ℕ) → drop {A = ℕ} n [] ≡ []
nothing_behind zero = refl
nothing_behind (suc n) = refl

pub new_bytes : (bytes : List ℕ) → bytes_after [] (Wrote 0 bytes ∷ []) ≡ bytes
new_bytes bytes = ap (λ (l : List ℕ). bytes ++ l) (nothing_behind (0 + length bytes)) ∙ append-nil bytes
