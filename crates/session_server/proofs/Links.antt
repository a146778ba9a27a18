-- What a link's bytes are after one call and then another.
use Rattle.std.proofs.Common.{◌≡◌, ℕ, ◌+◌, ◌-◌, ◌≤◌, List, [], ◌++◌, length, take, drop, Option, Some, None, refl, sym, ap, subst, ◌∙◌, append_assoc, arith, inl, inr}
use Rattle.std.proofs.lemmas.List.{append-nil, take_all, take-append-le, length-take, length-drop, length-append}
use Rattle.std.proofs.Math.Seq.{take-add, take-append-add}
use borrow.Rule.Slice.PartMut.{put_mid, post_of}
use Rattle.outside.specs.Calls.{Rose, HasCause, Told, Changes}
use Rattle.session_server.specs.Steps.{Reads, Writes}

pub reads_nothing : (left : Option (List ℕ)) → Reads left left []
reads_nothing None = tt
reads_nothing (Some xs) = refl

-- bytes were read, and then others, of which and of what is left then P holds
pub reads_then : (P : List ℕ → Type 0) (a b c : Option (List ℕ)) (x y : List ℕ) → Reads a b x → Changes b c (λ old new. (old ≡ y ++ new) × P new)
    → Changes a c (λ old new. (old ≡ (x ++ y) ++ new) × P new)
reads_then P None None None x y h k = tt
reads_then P None None (Some n) x y h k = absurd k
reads_then P None (Some m) c x y h k = absurd h
reads_then P (Some o) None c x y h k = absurd h
reads_then P (Some o) (Some m) None x y h k = absurd k
reads_then P (Some o) (Some m) (Some n) x y h k = (h ∙ ap (λ (w : List ℕ). x ++ w) k.0 ∙ sym (append_assoc x y n), k.1)

pub reads_more : (a b c : Option (List ℕ)) (x y : List ℕ) → Reads a b x → Reads b c y → Reads a c (x ++ y)
reads_more None None None x y h k = tt
reads_more None None (Some n) x y h k = absurd k
reads_more None (Some m) c x y h k = absurd h
reads_more (Some o) None c x y h k = absurd h
reads_more (Some o) (Some m) None x y h k = absurd k
reads_more (Some o) (Some m) (Some n) x y h k = h ∙ ap (λ (w : List ℕ). x ++ w) k ∙ sym (append_assoc x y n)

-- what was read, with what holds of what is left if that is told
pub reads_with : (P : List ℕ → Type 0) (a b : Option (List ℕ)) (x : List ℕ) → Reads a b x → Told b P → Changes a b (λ old new. (old ≡ x ++ new) × P new)
reads_with P None None x h p = tt
reads_with P None (Some m) x h p = absurd h
reads_with P (Some o) None x h p = absurd h
reads_with P (Some o) (Some m) x h p = (h, p)

pub writes_nothing : (taken : Option (List ℕ)) → Writes taken taken []
writes_nothing None = tt
writes_nothing (Some xs) = sym (append-nil xs)

pub writes_more : (a b c : Option (List ℕ)) (x y : List ℕ) → Writes a b x → Writes b c y → Writes a c (x ++ y)
writes_more None None None x y h k = tt
writes_more None None (Some n) x y h k = absurd k
writes_more None (Some m) c x y h k = absurd h
writes_more (Some o) None c x y h k = absurd h
writes_more (Some o) (Some m) None x y h k = absurd k
writes_more (Some o) (Some m) (Some n) x y h k = k ∙ ap (λ (w : List ℕ). w ++ y) h ∙ append_assoc o x y

-- the front of a buffer, after a part after it was written
pub front_put : (a n k : ℕ) (xs ys : List ℕ) → a ≤ length xs → n ≤ length ys → take (a + n) (put_mid a k xs ys) ≡ take a xs ++ take n ys
front_put a n k xs ys le fits =
    let front : length (take a xs) ≡ a = omega (arith, length-take a xs) in
    let rest : List ℕ = ys ++ post_of a k xs in
    let whole : take (length (take a xs) + n) (take a xs ++ rest) ≡ take a xs ++ take n rest = take-append-add (take a xs) rest n in
    ap (λ (m : ℕ). take (m + n) (take a xs ++ rest)) (sym front) ∙ whole ∙ ap (λ (w : List ℕ). take a xs ++ w) (take-append-le n ys (post_of a k xs) fits)

pub reads_behind : (a b c : Option (List ℕ)) (at n k : ℕ) (xs ys : List ℕ) → at ≤ length xs → n ≤ length ys → Reads a b (take at xs) → Reads b c (take n ys)
    → Reads a c (take (at + n) (put_mid at k xs ys))
reads_behind a b c at n k xs ys le fits h j =
    subst (λ (w : List ℕ). Reads a c w) (sym (front_put at n k xs ys le fits)) (reads_more a b c (take at xs) (take n ys) h j)

-- a part of a piece was written, and then its next bytes
pub writes_behind : (a b c : Option (List ℕ)) (at n : ℕ) (xs : List ℕ) → n ≤ length xs - at → Writes a b (take at xs)
    → Writes b c (take n (take (length xs - at) (drop at xs))) → Writes a c (take (at + n) xs)
writes_behind a b c at n xs fits h j =
    let whole : take (length xs - at) (drop at xs) ≡ drop at xs = take_all (length xs - at) (drop at xs) (omega (arith, length-drop at xs)) in
    let next : Writes b c (take n (drop at xs)) = subst (λ (w : List ℕ). Writes b c (take n w)) whole j in
    subst (λ (w : List ℕ). Writes a c w) (sym (take-add at n xs)) (writes_more a b c (take at xs) (take n (drop at xs)) h next)

-- a count that rose in the last call rose
pub rose_later : (a b c : ℕ) → a ≤ b → Rose b c → Rose a c
rose_later a b c le (inl h) = inl (omega arith)
rose_later a b c le (inr h) = inr h

pub cause_later : (a b c : ℕ) (P Q : Type 0) → a ≤ b → HasCause b c P → (Q → P) → HasCause a c Q
cause_later a b c P Q le h only = record { later = omega (arith, h.later); rose = λ q. rose_later a b c le (h.rose (only q)) }

pub no_cause : (a b : ℕ) (Q : Type 0) → a ≤ b → (Q → ⊥) → HasCause a b Q
no_cause a b Q le never = record { later = le; rose = λ q. absurd (never q) }

pub put_long : (a n k : ℕ) (xs ys : List ℕ) → a ≤ length xs → n ≤ length ys → a + n ≤ length (put_mid a k xs ys)
put_long a n k xs ys le fits =
    omega (arith, length-take a xs, length-append (take a xs) (ys ++ post_of a k xs), length-append ys (post_of a k xs))
