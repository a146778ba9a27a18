-- Each step back undoes its step.
use Rattle.std.proofs.Common.{◌≡◌, ℕ, zero, suc, ◌+◌, ◌-◌, ◌*◌, ◌≤◌, List, ◌++◌, length, take, drop, refl, sym, ap, ap₂, subst, rules, ◌∙◌, Some, None, cond, append_assoc, length-append, length-drop, arith}
use Rattle.std.specs.Str.{bytes_eq}
use Rattle.std.proofs.lemmas.List.{drop-drop, drop_at, length-take-le, take-append-drop, take_at}
use Rattle.aes_block.specs.Aes.{aes, inverse_aes}
use Rattle.aes_block.specs.Bytes.{AreBytes, MakesBlocks, bytes_of, xor_bytes}
use Rattle.aes_block.proofs.ByteLemmas.{AreBytes-append, AreBytes-drop, AreBytes-take, AreBytes-xor, length-xor, xor_bytes-twice}
use Rattle.aes_block.proofs.Inversion.{MakesBlocks-aes, MakesBlocks-inverse_aes, aes-inverse_aes, inverse_aes-aes}
use Rattle.aes_block.proofs.Schedules.{IsBlock, IsKey}
use Rattle.key_wrap.specs.Wrap.{check_value, part, turn, unwrap_step, unwrapped, unwrapped_after, with_part, wrap_step, wrapped, wrapped_after}
use Rattle.key_wrap.proofs.States.{from-unwrapped, unwrapped_after-none, wrapped_after-none}

-- ---- a state as A, the bytes up to R i, R i, and the rest

part-zero : (a l : List ℕ) → length a ≡ 8 → part (a ++ l) 0 ≡ a
part-zero a l h = take_at a l 8 h

part-turn : (a m r z : List ℕ) (i : ℕ) → length a ≡ 8 → length m + 8 ≡ 8 * i → length r ≡ 8 → part (a ++ (m ++ (r ++ z))) i ≡ r
part-turn a m r z i ha hm hr =
    let front : length (a ++ m) ≡ 8 * i = length-append a m ∙ omega (arith, ha, hm) in
    ap (λ (s : List ℕ). take 8 (drop (8 * i) s)) (sym (append_assoc a m (r ++ z)))
    ∙ ap (take 8) (drop_at (a ++ m) (r ++ z) (8 * i) front) ∙ take_at r z 8 hr

with_part-zero : (a l r : List ℕ) → length a ≡ 8 → with_part (a ++ l) 0 r ≡ r ++ l
with_part-zero a l r h = ap (λ (s : List ℕ). r ++ s) (drop_at a l 8 h)

with_part-turn : (a m r z r' : List ℕ) (i : ℕ) → length a ≡ 8 → length m + 8 ≡ 8 * i → length r ≡ 8
    → with_part (a ++ (m ++ (r ++ z))) i r' ≡ a ++ (m ++ (r' ++ z))
with_part-turn a m r z r' i ha hm hr =
    let front : length (a ++ m) ≡ 8 * i = length-append a m ∙ omega (arith, ha, hm) in
    let long : length ((a ++ m) ++ r) ≡ 8 * i + 8 = length-append (a ++ m) r ∙ omega (arith, front, hr) in
    let before : take (8 * i) ((a ++ m) ++ (r ++ z)) ≡ a ++ m = take_at (a ++ m) (r ++ z) (8 * i) front in
    let behind : drop (8 * i + 8) ((a ++ m) ++ (r ++ z)) ≡ z =
    ap (drop (8 * i + 8)) (sym (append_assoc (a ++ m) r z)) ∙ drop_at ((a ++ m) ++ r) z (8 * i + 8) long in
    ap (λ (s : List ℕ). with_part s i r') (sym (append_assoc a m (r ++ z)))
    ∙ ap₂ (λ (p q : List ℕ). (p ++ r') ++ q) before behind
    ∙ append_assoc (a ++ m) r' z ∙ append_assoc a m (r' ++ z)

pub record IsCut (s a m r z : List ℕ) (i : ℕ) : Type 0 where
  pub whole : s ≡ a ++ (m ++ (r ++ z))
  pub first : length a ≡ 8
  pub between : length m + 8 ≡ 8 * i
  pub turned : length r ≡ 8

cut-is : (s : List ℕ) (i : ℕ) → length s ≡ 40 → 1 ≤ i → i ≤ 4 → IsCut s (take 8 s) (take (8 * i - 8) (drop 8 s)) (take 8 (drop (8 * i) s)) (drop (8 * i + 8) s) i
cut-is s i long low high =
    let at : drop (8 * i - 8) (drop 8 s) ≡ drop (8 * i) s =
    let sum : 8 + (8 * i - 8) ≡ 8 * i = omega arith in
    drop-drop (8 * i - 8) 8 s ∙ ap (λ (n : ℕ). drop n s) sum in
    let behind : drop 8 (drop (8 * i) s) ≡ drop (8 * i + 8) s = drop-drop 8 (8 * i) s in
    record {
      whole = sym (take-append-drop 8 s) ∙ ap (λ (l : List ℕ). take 8 s ++ l)
          (sym (take-append-drop (8 * i - 8) (drop 8 s)) ∙ ap (λ (l : List ℕ). take (8 * i - 8) (drop 8 s) ++ l)
          (at ∙ sym (take-append-drop 8 (drop (8 * i) s)) ∙ ap (λ (l : List ℕ). take 8 (drop (8 * i) s) ++ l) behind));
      first = length-take-le 8 s (omega arith);
      between =
          let l : length (take (8 * i - 8) (drop 8 s)) ≡ 8 * i - 8 = length-take-le _ _ (omega (arith, length-drop 8 s)) in omega (arith, l);
      turned = length-take-le 8 _ (omega (arith, length-drop (8 * i) s));
    }

-- ---- a step, and its undoing

wrap_step-cut : (cipher : List ℕ → List ℕ) (t : ℕ) (s a m r z : List ℕ) → IsCut s a m r z (turn t)
    → wrap_step cipher t s ≡ xor_bytes (take 8 (cipher (a ++ r))) (bytes_of 8 t) ++ (m ++ (drop 8 (cipher (a ++ r)) ++ z))
unfolding wrap_step
wrap_step-cut cipher t s a m r z h =
    let x : List ℕ = cipher (a ++ r) in
    let made : List ℕ → List ℕ = λ x. with_part (with_part s (turn t) (drop 8 x)) 0 (xor_bytes (take 8 x) (bytes_of 8 t)) in
    let e0 : part s 0 ≡ a = ap (λ (l : List ℕ). part l 0) h.whole ∙ part-zero a _ h.first in
    let e1 : part s (turn t) ≡ r = ap (λ (l : List ℕ). part l (turn t)) h.whole ∙ part-turn a m r z (turn t) h.first h.between h.turned in
    let e2 : with_part s (turn t) (drop 8 x) ≡ a ++ (m ++ (drop 8 x ++ z)) =
    ap (λ (l : List ℕ). with_part l (turn t) (drop 8 (cipher (a ++ r)))) h.whole ∙ with_part-turn a m r z (drop 8 x) (turn t) h.first h.between h.turned in
    ap₂ (λ (p q : List ℕ). made (cipher (p ++ q))) e0 e1
    ∙ ap (λ (l : List ℕ). with_part l 0 (xor_bytes (take 8 (cipher (a ++ r))) (bytes_of 8 t))) e2 ∙ with_part-zero a _ _ h.first

unwrap_step-cut : (inverse : List ℕ → List ℕ) (t : ℕ) (s a m r z y : List ℕ) → IsCut s a m r z (turn t) → inverse (xor_bytes a (bytes_of 8 t) ++ r) ≡ y
    → unwrap_step inverse t s ≡ take 8 y ++ (m ++ (drop 8 y ++ z))
unfolding unwrap_step
unwrap_step-cut inverse t s a m r z y h e =
    let made : List ℕ → List ℕ = λ x. with_part (with_part s (turn t) (drop 8 x)) 0 (take 8 x) in
    let e0 : part s 0 ≡ a = ap (λ (l : List ℕ). part l 0) h.whole ∙ part-zero a _ h.first in
    let e1 : part s (turn t) ≡ r = ap (λ (l : List ℕ). part l (turn t)) h.whole ∙ part-turn a m r z (turn t) h.first h.between h.turned in
    let e2 : with_part s (turn t) (drop 8 y) ≡ a ++ (m ++ (drop 8 y ++ z)) =
    ap (λ (l : List ℕ). with_part l (turn t) (drop 8 y)) h.whole ∙ with_part-turn a m r z (drop 8 y) (turn t) h.first h.between h.turned in
    ap₂ (λ (p q : List ℕ). made (inverse (xor_bytes p (bytes_of 8 t) ++ q))) e0 e1 ∙ ap made e
    ∙ ap (λ (l : List ℕ). with_part l 0 (take 8 y)) e2 ∙ with_part-zero a _ _ h.first

-- a state: 40 bytes
pub record IsState (s : List ℕ) : Type 0 where
  pub long : length s ≡ 40
  pub bytes : AreBytes s

-- two ciphers of which the second undoes the first
pub record Undoes (cipher inverse : List ℕ → List ℕ) : Type 0 where
  pub makes : MakesBlocks cipher
  pub undone : (b : List ℕ) → IsBlock b → inverse (cipher b) ≡ b

unwrap_step-wrap_step : (cipher inverse : List ℕ → List ℕ) (t : ℕ) (s : List ℕ) → Undoes cipher inverse → IsState s
    → unwrap_step inverse t (wrap_step cipher t s) ≡ s
unwrap_step-wrap_step cipher inverse t s u h =
    let a : List ℕ = take 8 s in
    let m : List ℕ = take (8 * turn t - 8) (drop 8 s) in
    let r : List ℕ = take 8 (drop (8 * turn t) s) in
    let z : List ℕ = drop (8 * turn t + 8) s in
    let x : List ℕ = cipher (take 8 s ++ take 8 (drop (8 * turn t) s)) in
    let counter : List ℕ = bytes_of 8 t in
    let cut = cut-is s (turn t) h.long (omega arith) (omega arith) in
    let block : IsBlock (a ++ r) = (
      length-append a r ∙ omega (arith, cut.first, cut.turned),
      AreBytes-append a r (AreBytes-take 8 s h.bytes) (AreBytes-take 8 _ (AreBytes-drop (8 * turn t) s h.bytes)),
    ) in
    let long : length x ≡ 16 = u.makes.long (a ++ r) in
    let half : length (take 8 x) ≡ 8 = length-take-le 8 x (omega (arith, long)) in
    let other : length (drop 8 x) ≡ 8 = length-drop 8 x ∙ omega (arith, long) in
    let counted : length counter ≡ 8 = refl in
    let again : IsCut (xor_bytes (take 8 x) counter ++ (m ++ (drop 8 x ++ z))) (xor_bytes (take 8 x) counter) m (drop 8 x) z (turn t) =
    record { whole = refl; first = length-xor (take 8 x) counter (omega (arith, half, counted)) ∙ half; between = cut.between; turned = other } in
    let back : inverse (xor_bytes (xor_bytes (take 8 x) counter) counter ++ drop 8 x) ≡ a ++ r =
    ap (λ (l : List ℕ). inverse (l ++ drop 8 (cipher (take 8 s ++ take 8 (drop (8 * turn t) s))))) (xor_bytes-twice (take 8 x) counter (omega (arith, half, counted)))
    ∙ ap inverse (take-append-drop 8 x) ∙ u.undone (a ++ r) block in
    ap (unwrap_step inverse t) (wrap_step-cut cipher t s a m r z cut)
    ∙ unwrap_step-cut inverse t _ _ m _ z (a ++ r) again back
    ∙ ap₂ (λ (p q : List ℕ). p ++ (take (8 * turn t - 8) (drop 8 s) ++ (q ++ drop (8 * turn t + 8) s))) (take_at a r 8 cut.first) (drop_at a r 8 cut.first)
    ∙ sym cut.whole

AreBytes-bytes_of : (n x : ℕ) → AreBytes (bytes_of n x)
AreBytes-bytes_of zero x = tt
AreBytes-bytes_of (suc n) x = (omega arith, AreBytes-bytes_of n x)

IsState-wrap_step : (cipher : List ℕ → List ℕ) (t : ℕ) (s : List ℕ) → MakesBlocks cipher → IsState s → IsState (wrap_step cipher t s)
IsState-wrap_step cipher t s makes h =
    let m : List ℕ = take (8 * turn t - 8) (drop 8 s) in
    let z : List ℕ = drop (8 * turn t + 8) s in
    let x : List ℕ = cipher (take 8 s ++ take 8 (drop (8 * turn t) s)) in
    let counter : List ℕ = bytes_of 8 t in
    let cut = cut-is s (turn t) h.long (omega arith) (omega arith) in
    let long : length x ≡ 16 = makes.long _ in
    let half : length (take 8 x) ≡ 8 = length-take-le 8 x (omega (arith, long)) in
    let counted : length counter ≡ 8 = refl in
    let first : length (xor_bytes (take 8 x) counter) ≡ 8 = length-xor (take 8 x) counter (omega (arith, half, counted)) ∙ half in
    let other : length (drop 8 x) ≡ 8 = length-drop 8 x ∙ omega (arith, long) in
    let made : IsState (xor_bytes (take 8 x) counter ++ (m ++ (drop 8 x ++ z))) = record {
      long = length-append _ (m ++ (drop 8 x ++ z))
          ∙ omega (arith, first, length-append m (drop 8 x ++ z), length-append (drop 8 x) z, other, cut.between, length-drop (8 * turn t + 8) s, h.long);
      bytes = AreBytes-append _ _ (AreBytes-xor _ _ (AreBytes-take 8 x (makes.bytes _)) (AreBytes-bytes_of 8 t))
          (AreBytes-append _ _ (AreBytes-take _ _ (AreBytes-drop 8 s h.bytes))
          (AreBytes-append _ _ (AreBytes-drop 8 x (makes.bytes _)) (AreBytes-drop _ s h.bytes)));
    } in
    subst IsState (sym (wrap_step-cut cipher t s _ _ _ _ cut)) made

IsState-wrapped_after : (cipher : List ℕ → List ℕ) (s : List ℕ) → MakesBlocks cipher → IsState s → (t : ℕ) → IsState (wrapped_after cipher s t)
unfolding wrapped_after
IsState-wrapped_after cipher s makes h zero = h
IsState-wrapped_after cipher s makes h (suc t) = IsState-wrap_step cipher (suc t) _ makes (IsState-wrapped_after cipher s makes h t)

-- ---- all steps

step-undone : (cipher inverse : List ℕ → List ℕ) (s : List ℕ) (t : ℕ) → Undoes cipher inverse → IsState s
    → unwrap_step inverse (suc t) (wrapped_after cipher s (suc t)) ≡ wrapped_after cipher s t
unfolding wrapped_after
step-undone cipher inverse s t u h = unwrap_step-wrap_step cipher inverse (suc t) (wrapped_after cipher s t) u (IsState-wrapped_after cipher s u.makes h t)

steps-undone : (cipher inverse : List ℕ → List ℕ) (s w : List ℕ) (n : ℕ) → Undoes cipher inverse → IsState s → w ≡ wrapped_after cipher s 24 → n ≤ 24
    → unwrapped_after inverse w n ≡ wrapped_after cipher s (24 - n)
unfolding unwrapped_after
steps-undone cipher inverse s w zero u h e le = e
steps-undone cipher inverse s w (suc n) u h e le =
    let next : 24 - n ≡ suc (24 - suc n) = omega arith in
    ap (unwrap_step inverse (24 - n)) (steps-undone cipher inverse s w n u h e (omega arith))
    ∙ ap (λ (k : ℕ). unwrap_step inverse k (wrapped_after cipher s k)) next
    ∙ step-undone cipher inverse s (24 - suc n) u h

-- what was wrapped unwraps to its key
pub unwrapped-wrapped : (cipher inverse : List ℕ → List ℕ) (key : List ℕ) → Undoes cipher inverse → length key ≡ 32 → AreBytes key
    → unwrapped inverse (wrapped cipher key) ≡ Some key
unfolding unwrapped wrapped
unwrapped-wrapped cipher inverse key u long bytes =
    let state : IsState (check_value ++ key) = record {
      long = length-append check_value key ∙ omega (arith, long);
      bytes = AreBytes-append check_value key (search rules) bytes;
    } in
    let start = steps-undone cipher inverse (check_value ++ key) _ 24 u state refl (omega arith) ∙ wrapped_after-none cipher (check_value ++ key) in
    ap (λ (s : List ℕ). cond (bytes_eq (part s 0) check_value) (Some (drop 8 s)) None) start

-- the cipher is undone by the inverse cipher
pub Undoes-aes : (key : List ℕ) → IsKey key → Undoes (aes key) (inverse_aes key)
Undoes-aes key k = record { makes = MakesBlocks-aes key k; undone = λ b h. inverse_aes-aes key b k h }

-- ---- and each step undoes its step back

wrap_step-unwrap_step : (cipher inverse : List ℕ → List ℕ) (t : ℕ) (s : List ℕ) → Undoes inverse cipher → IsState s
    → wrap_step cipher t (unwrap_step inverse t s) ≡ s
wrap_step-unwrap_step cipher inverse t s u h =
    let a : List ℕ = take 8 s in
    let m : List ℕ = take (8 * turn t - 8) (drop 8 s) in
    let r : List ℕ = take 8 (drop (8 * turn t) s) in
    let z : List ℕ = drop (8 * turn t + 8) s in
    let counter : List ℕ = bytes_of 8 t in
    let b : List ℕ = xor_bytes a counter ++ r in
    let y : List ℕ = inverse b in
    let cut = cut-is s (turn t) h.long (omega arith) (omega arith) in
    let counted : length counter ≡ 8 = refl in
    let front : length (xor_bytes a counter) ≡ 8 = length-xor a counter (omega (arith, cut.first, counted)) ∙ cut.first in
    let block : IsBlock b = (
      length-append (xor_bytes a counter) r ∙ omega (arith, front, cut.turned),
      AreBytes-append (xor_bytes a counter) r (AreBytes-xor a counter (AreBytes-take 8 s h.bytes) (AreBytes-bytes_of 8 t))
          (AreBytes-take 8 _ (AreBytes-drop (8 * turn t) s h.bytes)),
    ) in
    let long : length y ≡ 16 = u.makes.long b in
    let again : IsCut (take 8 y ++ (m ++ (drop 8 y ++ z))) (take 8 y) m (drop 8 y) z (turn t) = record {
      whole = refl;
      first = length-take-le 8 y (omega (arith, long));
      between = cut.between;
      turned = length-drop 8 y ∙ omega (arith, long);
    } in
    let back : cipher (take 8 y ++ drop 8 y) ≡ b = ap cipher (take-append-drop 8 y) ∙ u.undone b block in
    ap (wrap_step cipher t) (unwrap_step-cut inverse t s a m r z y cut refl)
    ∙ wrap_step-cut cipher t _ _ m _ z again
    ∙ ap (λ (x : List ℕ). xor_bytes (take 8 x) (bytes_of 8 t) ++ (take (8 * turn t - 8) (drop 8 s) ++ (drop 8 x ++ drop (8 * turn t + 8) s))) back
    ∙ ap₂ (λ (p q : List ℕ). xor_bytes p (bytes_of 8 t) ++ (take (8 * turn t - 8) (drop 8 s) ++ (q ++ drop (8 * turn t + 8) s)))
    (take_at (xor_bytes a counter) r 8 front) (drop_at (xor_bytes a counter) r 8 front)
    ∙ ap (λ (p : List ℕ). p ++ (take (8 * turn t - 8) (drop 8 s) ++ (take 8 (drop (8 * turn t) s) ++ drop (8 * turn t + 8) s)))
    (xor_bytes-twice a counter (omega (arith, cut.first, counted)))
    ∙ sym cut.whole

IsState-unwrap_step : (inverse : List ℕ → List ℕ) (t : ℕ) (s : List ℕ) → MakesBlocks inverse → IsState s → IsState (unwrap_step inverse t s)
IsState-unwrap_step inverse t s makes h =
    let a : List ℕ = take 8 s in
    let m : List ℕ = take (8 * turn t - 8) (drop 8 s) in
    let r : List ℕ = take 8 (drop (8 * turn t) s) in
    let z : List ℕ = drop (8 * turn t + 8) s in
    let y : List ℕ = inverse (xor_bytes a (bytes_of 8 t) ++ r) in
    let cut = cut-is s (turn t) h.long (omega arith) (omega arith) in
    let long : length y ≡ 16 = makes.long _ in
    let first : length (take 8 y) ≡ 8 = length-take-le 8 y (omega (arith, long)) in
    let other : length (drop 8 y) ≡ 8 = length-drop 8 y ∙ omega (arith, long) in
    let made : IsState (take 8 y ++ (m ++ (drop 8 y ++ z))) = record {
      long = length-append _ (m ++ (drop 8 y ++ z))
          ∙ omega (arith, first, length-append m (drop 8 y ++ z), length-append (drop 8 y) z, other, cut.between, length-drop (8 * turn t + 8) s, h.long);
      bytes = AreBytes-append _ _ (AreBytes-take 8 y (makes.bytes _))
          (AreBytes-append _ _ (AreBytes-take _ _ (AreBytes-drop 8 s h.bytes))
          (AreBytes-append _ _ (AreBytes-drop 8 y (makes.bytes _)) (AreBytes-drop _ s h.bytes)));
    } in
    subst IsState (sym (unwrap_step-cut inverse t s a m r z y cut refl)) made

IsState-unwrapped_after : (inverse : List ℕ → List ℕ) (s : List ℕ) → MakesBlocks inverse → IsState s → (n : ℕ) → IsState (unwrapped_after inverse s n)
unfolding unwrapped_after
IsState-unwrapped_after inverse s makes h zero = h
IsState-unwrapped_after inverse s makes h (suc n) = IsState-unwrap_step inverse (24 - n) _ makes (IsState-unwrapped_after inverse s makes h n)

step-redone : (cipher inverse : List ℕ → List ℕ) (w : List ℕ) (n t : ℕ) → Undoes inverse cipher → IsState w → 24 - n ≡ t
    → wrap_step cipher t (unwrapped_after inverse w (suc n)) ≡ unwrapped_after inverse w n
unfolding unwrapped_after
step-redone cipher inverse w n t u h e =
    ap (λ (k : ℕ). wrap_step cipher t (unwrap_step inverse k (unwrapped_after inverse w n))) e
    ∙ wrap_step-unwrap_step cipher inverse t (unwrapped_after inverse w n) u (IsState-unwrapped_after inverse w u.makes h n)

steps-redone : (cipher inverse : List ℕ → List ℕ) (w s : List ℕ) (t : ℕ) → Undoes inverse cipher → IsState w → s ≡ unwrapped_after inverse w 24 → t ≤ 24
    → wrapped_after cipher s t ≡ unwrapped_after inverse w (24 - t)
unfolding wrapped_after
steps-redone cipher inverse w s zero u h e le = e
steps-redone cipher inverse w s (suc t) u h e le =
    let next : 24 - t ≡ suc (24 - suc t) = omega arith in
    ap (wrap_step cipher (suc t)) (steps-redone cipher inverse w s t u h e (omega arith) ∙ ap (unwrapped_after inverse w) next)
    ∙ step-redone cipher inverse w (24 - suc t) (suc t) u h (omega arith)

-- what unwraps to a key is the key's wrapped form
pub wrapped-unwrapped : (cipher inverse : List ℕ → List ℕ) (form key : List ℕ) → Undoes inverse cipher → IsState form
    → unwrapped inverse form ≡ Some key → form ≡ wrapped cipher key
unfolding wrapped
wrapped-unwrapped cipher inverse form key u h e =
    let s : List ℕ = unwrapped_after inverse form 24 in
    let parts = from-unwrapped inverse form key e in
    let whole : check_value ++ key ≡ s = ap₂ (λ (p q : List ℕ). p ++ q) (sym parts.0) parts.1 ∙ take-append-drop 8 s in
    sym (ap (λ (l : List ℕ). wrapped_after cipher l 24) whole
    ∙ steps-redone cipher inverse form s 24 u h refl (omega arith) ∙ unwrapped_after-none inverse form)

-- the inverse cipher is undone by the cipher
pub Undoes-inverse_aes : (key : List ℕ) → IsKey key → Undoes (inverse_aes key) (aes key)
Undoes-inverse_aes key k = record { makes = MakesBlocks-inverse_aes key k; undone = λ b h. aes-inverse_aes key b k h }
