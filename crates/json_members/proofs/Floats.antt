-- When a float is an integer from 0 to 2^64 - 1.
use Rattle.std.proofs.Common.{◌≡◌, ℕ, pos, true, false, Some, None, refl, sym, ap, ◌∙◌}
use Rattle.std.specs.Float.{Float, binary64, two_to, float_to_unsigned}
use Rattle.std.specs.Float.Ieee.{of_int, of_bits, lt, eq}
use Rattle.std.specs.Int.{w64}
use Rattle.serde_json.specs.Data.{float}
use Rattle.json_members.specs.Members.{integer_of}

-- 2^64 as the code writes it
two_to_64 : of_bits binary64 0x43f0_0000_0000_0000 ≡ two_to 64
unfolding of_bits
two_to_64 = refl

pub integer_of-equal : (x : Float) (n : ℕ) → n ≡ float_to_unsigned w64 x → lt x (of_bits binary64 0x43f0_0000_0000_0000) ≡ true
    → eq x (of_int binary64 (pos n)) ≡ true → Some n ≡ integer_of (float x)
integer_of-equal x n same below equal =
    let b : lt x (two_to 64) ≡ true = ap (lt x) (sym two_to_64) ∙ below in
    let e : eq x (of_int binary64 (pos (float_to_unsigned w64 x))) ≡ true = ap (λ k. eq x (of_int binary64 (pos k))) (sym same) ∙ equal in
    rw (b, e) (ap Some same)

pub integer_of-not_below : (x : Float) → lt x (of_bits binary64 0x43f0_0000_0000_0000) ≡ false → None ≡ integer_of (float x)
integer_of-not_below x not =
    let b : lt x (two_to 64) ≡ false = ap (lt x) (sym two_to_64) ∙ not in rw b refl

pub integer_of-unequal : (x : Float) (n : ℕ) → n ≡ float_to_unsigned w64 x → lt x (of_bits binary64 0x43f0_0000_0000_0000) ≡ true
    → eq x (of_int binary64 (pos n)) ≡ false → None ≡ integer_of (float x)
integer_of-unequal x n same below not =
    let b : lt x (two_to 64) ≡ true = ap (lt x) (sym two_to_64) ∙ below in
    let e : eq x (of_int binary64 (pos (float_to_unsigned w64 x))) ≡ false = ap (λ k. eq x (of_int binary64 (pos k))) (sym same) ∙ not in
    rw (b, e) refl
