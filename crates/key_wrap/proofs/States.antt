-- The steps in the code's words.
use Rattle.std.proofs.Common.{◌≡◌, ℕ, ◌+◌, ◌-◌, ◌*◌, ◌≤◌, List, [], ◌++◌, length, take, drop, length-drop, refl, ap, ◌∙◌, sym, add-one, Bool, true, false, cond, Some, None, inl, inr, arith}
use Rattle.std.specs.Str.{bytes_eq}
use Rattle.std.proofs.lemmas.Bool.{cases_Bool}
use Rattle.std.proofs.lemmas.Slice.Eq.{bytes_eq-Decides}
use Rattle.std.proofs.lemmas.List.{append-nil, drop_all, drop_at, take_all, take_at}
use borrow.Rule.Slice.PartMut.{put_mid}
use Rattle.aes_block.specs.Bytes.{bytes_of, xor_bytes}
use Rattle.key_wrap.specs.Wrap.{check_value, part, turn, unwrap_step, unwrapped, unwrapped_after, wrap_step, wrapped, wrapped_after}

-- two halves written into a block
pub joined-is : (a b first second z : List ℕ) (k : ℕ) → a ≡ first → b ≡ second → length first ≡ 8 → length z ≤ k → put_mid 8 k (a ++ z) b ≡ first ++ second
joined-is a b first second z k ea eb long rest =
    let all : drop k z ≡ [] = drop_all k z rest in
    rw (ea, eb, take_at first z 8 long, drop_at first z 8 long, all, append-nil second) refl

-- a step in the code's order of writes
pub wrap_step-is : (cipher : List ℕ → List ℕ) (t at k : ℕ) (state block x s1 check s2 : List ℕ) → at ≡ 8 * turn t → k ≡ 8
    → block ≡ take 8 state ++ take k (drop at state) → x ≡ cipher block → length x ≡ 16 → s1 ≡ take at state ++ take 8 (drop 8 x) ++ drop (at + 8) state
    → check ≡ xor_bytes (take 8 x) (bytes_of 8 t) → s2 ≡ take 0 s1 ++ check ++ drop 8 s1 → s2 ≡ wrap_step cipher t state
unfolding wrap_step
wrap_step-is cipher t at k state block x s1 check s2 eat ek eblock ex long e1 echeck e2 =
    let half : take 8 (drop 8 x) ≡ drop 8 x = take_all 8 (drop 8 x) (omega (arith, length-drop 8 x, long)) in
    rw (e2, e1, half, echeck, ex, eblock, eat, ek) refl

-- a step back in the code's order of writes
pub unwrap_step-is : (inverse : List ℕ → List ℕ) (t at k : ℕ) (state block x s1 check s2 : List ℕ) → at ≡ 8 * turn t → k ≡ 8
    → check ≡ xor_bytes (take 8 state) (bytes_of 8 t) → block ≡ check ++ take k (drop at state) → x ≡ inverse block → length x ≡ 16
    → s1 ≡ take at state ++ take 8 (drop 8 x) ++ drop (at + 8) state → s2 ≡ take 0 s1 ++ take 8 x ++ drop 8 s1 → s2 ≡ unwrap_step inverse t state
unfolding unwrap_step
unwrap_step-is inverse t at k state block x s1 check s2 eat ek echeck eblock ex long e1 e2 =
    let half : take 8 (drop 8 x) ≡ drop 8 x = take_all 8 (drop 8 x) (omega (arith, length-drop 8 x, long)) in
    rw (e2, e1, half, ex, eblock, echeck, eat, ek) refl

-- no step
pub wrapped_after-none : (cipher : List ℕ → List ℕ) (state : List ℕ) → wrapped_after cipher state 0 ≡ state
unfolding wrapped_after
wrapped_after-none cipher state = refl

-- one step more
pub wrapped_after-more : (cipher : List ℕ → List ℕ) (state s s' : List ℕ) (t : ℕ) → s ≡ wrapped_after cipher state t → s' ≡ wrap_step cipher (t + 1) s
    → s' ≡ wrapped_after cipher state (t + 1)
unfolding wrapped_after
wrapped_after-more cipher state s s' t e e' = e' ∙ ap (wrap_step cipher (t + 1)) e ∙ rw add-one refl

-- no step back
pub unwrapped_after-none : (inverse : List ℕ → List ℕ) (state : List ℕ) → unwrapped_after inverse state 0 ≡ state
unfolding unwrapped_after
unwrapped_after-none inverse state = refl

-- one step back more
pub unwrapped_after-more : (inverse : List ℕ → List ℕ) (state s s' : List ℕ) (n : ℕ) → s ≡ unwrapped_after inverse state n
    → s' ≡ unwrap_step inverse (24 - n) s → s' ≡ unwrapped_after inverse state (n + 1)
unfolding unwrapped_after
unwrapped_after-more inverse state s s' n e e' = e' ∙ ap (unwrap_step inverse (24 - n)) e ∙ rw add-one refl

-- what unwrapping answers
pub unwrapped-some : (inverse : List ℕ → List ℕ) (wrapped s : List ℕ) (n : ℕ) → s ≡ unwrapped_after inverse wrapped n → n ≡ 24 → take 8 s ≡ check_value
    → unwrapped inverse wrapped ≡ Some (drop 8 s)
unfolding unwrapped
unwrapped-some inverse wrapped s n e en h =
    let after : unwrapped_after inverse wrapped 24 ≡ s = sym (e ∙ ap (unwrapped_after inverse wrapped) en) in
    ap (λ (l : List ℕ). cond (bytes_eq (part l 0) check_value) (Some (drop 8 l)) None) after
    ∙ ap (λ (b : Bool). cond b (Some (drop 8 s)) None) ((bytes_eq-Decides (take 8 s) check_value).1 h)

-- and what it refuses
pub unwrapped-none : (inverse : List ℕ → List ℕ) (wrapped s : List ℕ) (n : ℕ) → s ≡ unwrapped_after inverse wrapped n → n ≡ 24 → (take 8 s ≡ check_value → ⊥)
    → unwrapped inverse wrapped ≡ None
unfolding unwrapped
unwrapped-none inverse wrapped s n e en h =
    let other : bytes_eq (take 8 s) check_value ≡ false = elim (cases_Bool (bytes_eq (take 8 s) check_value)) [
      | inl e ↦ absurd (h ((bytes_eq-Decides (take 8 s) check_value).0 e))
      | inr e ↦ e
    ] in
    let after : unwrapped_after inverse wrapped 24 ≡ s = sym (e ∙ ap (unwrapped_after inverse wrapped) en) in
    ap (λ (l : List ℕ). cond (bytes_eq (part l 0) check_value) (Some (drop 8 l)) None) after
    ∙ ap (λ (b : Bool). cond b (Some (drop 8 s)) None) other

-- all steps
pub wrapped-is : (cipher : List ℕ → List ℕ) (key s : List ℕ) (t : ℕ) → s ≡ wrapped_after cipher (check_value ++ key) t → t ≡ 24 → s ≡ wrapped cipher key
unfolding wrapped
wrapped-is cipher key s t e n = e ∙ ap (wrapped_after cipher (check_value ++ key)) n

-- what an accepted form is
pub from-unwrapped : (inverse : List ℕ → List ℕ) (form key : List ℕ) → unwrapped inverse form ≡ Some key
    → (take 8 (unwrapped_after inverse form 24) ≡ check_value) × (key ≡ drop 8 (unwrapped_after inverse form 24))
unfolding unwrapped
from-unwrapped inverse form key is =
    go (bytes_eq (part (unwrapped_after inverse form 24) 0) check_value) refl is where
      go : (test : Bool) → bytes_eq (part (unwrapped_after inverse form 24) 0) check_value ≡ test
          → cond test (Some (drop 8 (unwrapped_after inverse form 24))) None ≡ Some key
          → (take 8 (unwrapped_after inverse form 24) ≡ check_value) × (key ≡ drop 8 (unwrapped_after inverse form 24))
      go true same is = ((bytes_eq-Decides _ _).0 same, cc)
      go false same is = cc
