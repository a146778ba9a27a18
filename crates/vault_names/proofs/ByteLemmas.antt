-- Lists of bytes, and the bytes of a text in UTF-8.
use Rattle.std.proofs.Common.{◌≡◌, ℕ, zero, suc, ◌+◌, ◌/◌, ◌<◌, Bool, true, false, ◌&&◌, cond, nat_lt, List, [], ◌∷◌, ◌++◌, get_or, refl, subst, inl, inr, arith, lit<}
use Rattle.std.proofs.lemmas.Bool.Decides.{nat_tests}
use Rattle.std.proofs.Math.Utf8.{scalar, scalars, scalar_cases, encode, encodes, next}
use Rattle.std.specs.Str.{IsUtf8}
use Rattle.aes_block.specs.Bytes.{AreBytes}

pub AreBytes-append : (xs ys : List ℕ) → AreBytes xs → AreBytes ys → AreBytes (xs ++ ys)
AreBytes-append [] ys front back = back
AreBytes-append (x ∷ xs) ys front back = (front.0, AreBytes-append xs ys front.1 back)

-- the two ways to say that each element is a byte
pub AreBytes-get_or : (bs : List ℕ) → AreBytes bs → (i : ℕ) → get_or bs i 0 < 256
AreBytes-get_or [] h i = lit< tt
AreBytes-get_or (b ∷ bs) h zero = h.0
AreBytes-get_or (b ∷ bs) h (suc i) = AreBytes-get_or bs h.1 i

pub AreBytes-from_get_or : (bs : List ℕ) → ((i : ℕ) → get_or bs i 0 < 256) → AreBytes bs
AreBytes-from_get_or [] h = tt
AreBytes-from_get_or (b ∷ bs) h = (h 0, AreBytes-from_get_or bs (λ i. h (suc i)))

-- the forms of one to four bytes
forms : (x y z : Bool) (c : ℕ) → c < 1114112 → nat_lt c 128 ≡ x → nat_lt c 2048 ≡ y → nat_lt c 65536 ≡ z
    → AreBytes (cond x (c ∷ []) (cond y ((192 + c / 64) ∷ next c ∷ []) (cond z ((224 + c / 4096) ∷ next (c / 64) ∷ next c ∷ []) ((240 + c / 262144) ∷ next (c / 4096) ∷ next (c / 64) ∷ next c ∷ []))))
forms true y z c low p q r = let one : c < 128 = grind (arith, nat_tests, p) in (omega arith, tt)
forms false true z c low p q r = let two : c < 2048 = grind (arith, nat_tests, q) in (omega arith, (omega arith, tt))
forms false false true c low p q r = let three : c < 65536 = grind (arith, nat_tests, r) in (omega arith, (omega arith, (omega arith, tt)))
forms false false false c low p q r = (omega arith, (omega arith, (omega arith, (omega arith, tt))))

AreBytes-encode : (c : ℕ) → scalar c ≡ true → AreBytes (encode c)
unfolding encode
AreBytes-encode c is =
    let low : c < 1114112 = elim (scalar_cases c is) [ inl h ↦ omega arith | inr h ↦ h.1 ] in
    forms (nat_lt c 128) (nat_lt c 2048) (nat_lt c 65536) c low refl refl refl

both_true : (x y : Bool) → (x && y) ≡ true → (x ≡ true) × (y ≡ true)
both_true true y h = (refl, h)
both_true false y h = cc

AreBytes-encodes : (cs : List ℕ) → scalars cs ≡ true → AreBytes (encodes cs)
AreBytes-encodes [] h = tt
AreBytes-encodes (c ∷ cs) h =
    let both = both_true (scalar c) (scalars cs) h in
    AreBytes-append (encode c) (encodes cs) (AreBytes-encode c both.0) (AreBytes-encodes cs both.1)

pub AreBytes-IsUtf8 : (bs : List ℕ) → IsUtf8 bs → AreBytes bs
AreBytes-IsUtf8 bs is = subst AreBytes is.1.1 (AreBytes-encodes is.0 is.1.0)
