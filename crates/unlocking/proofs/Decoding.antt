-- The keys of a line, by what its decoding answered.
use Rattle.std.proofs.Common.{◌≡◌, ℕ, Bool, true, false, eqb, List, length, take, drop, Option, Some, None, option_map, Result, Ok, Err, IsErrOf, is_err, MatchResult, refl, sym, ap, ◌∙◌, true-eqb, eq-eqb, ne_eqb, arith, ◌<◌}
use Rattle.std.specs.Result.{result_ok}
use Rattle.hex.specs.declared.error.FromHexError.{FromHexError}
use Rattle.hex.specs.Hex.{decode_sized}
use Rattle.hex.proofs.HexLemmas.{decode_sized-twice, decode_sized-ok}
use Rattle.outside.specs.Calls.{Told}
use Rattle.vault_keys.specs.Keys.{KeyPair}
use Rattle.masterkey_file.specs.Password.{line_of}
use Rattle.unlocking.specs.Secret.{pair_of, raw_keys}

-- what decoding into 64 bytes answered
abbrev pub Decodes : List ℕ → Result Unit FromHexError → List ℕ → Type 0
Decodes line r out = MatchResult (decode_sized line 64) (λ bytes. (r ≡ Ok tt) × (out ≡ bytes)) (λ e. r ≡ Err e)

raw_keys_other : (line : List ℕ) → (eqb (length line) 128 ≡ false) → raw_keys line ≡ None
unfolding raw_keys
raw_keys_other line h = rw h refl

raw_keys_sized : (line : List ℕ) → (eqb (length line) 128 ≡ true) → raw_keys line ≡ option_map pair_of (result_ok (decode_sized line 64))
unfolding raw_keys
raw_keys_sized line h = rw (h, decode_sized-twice line 64 (true-eqb _ _ (sym h))) refl

none_by : (line : List ℕ) (b : Bool) (d : Result (List ℕ) FromHexError) (r : Result Unit FromHexError) (out : List ℕ) → eqb (length line) 128 ≡ b → decode_sized line 64 ≡ d
    → MatchResult d (λ bytes. (r ≡ Ok tt) × (out ≡ bytes)) (λ e. r ≡ Err e) → is_err r ≡ true → raw_keys line ≡ None
none_by line false d r out e f h failed = raw_keys_other line e
none_by line true (Ok bytes) r out e f h failed = cc (sym failed ∙ ap is_err h.0)
none_by line true (Err error) r out e f h failed = raw_keys_sized line e ∙ ap (λ x. option_map pair_of (result_ok x)) f

pub no_keys : (line : List ℕ) (r : Result Unit FromHexError) (out : List ℕ) → Decodes line r out → is_err r ≡ true → raw_keys line ≡ None
no_keys line r out h failed = none_by line (eqb (length line) 128) (decode_sized line 64) r out refl refl h failed

some_by : (line : List ℕ) (d : Result (List ℕ) FromHexError) (r : Result Unit FromHexError) (out : List ℕ) → decode_sized line 64 ≡ d
    → MatchResult d (λ bytes. (r ≡ Ok tt) × (out ≡ bytes)) (λ e. r ≡ Err e) → is_err r ≡ false → raw_keys line ≡ Some (pair_of out)
some_by line (Ok bytes) r out f h good =
    raw_keys_sized line (eq-eqb _ _ (decode_sized-ok line 64 bytes f)) ∙ ap (λ x. option_map pair_of (result_ok x)) f ∙ ap (λ x. Some (pair_of x)) (sym h.1)
some_by line (Err error) r out f h good = cc (sym good ∙ ap is_err h)

pub has_keys : (line : List ℕ) (r : Result Unit FromHexError) (out : List ℕ) → Decodes line r out → is_err r ≡ false → raw_keys line ≡ Some (pair_of out)
has_keys line r out h good = some_by line (decode_sized line 64) r out refl h good

-- a line that is too long has none
pub too_long : (line : List ℕ) → 128 < length line → raw_keys line ≡ None
too_long line h = raw_keys_other line (ne_eqb _ _ (λ e. omega arith))

pub told_too_long : (contents : Option (List ℕ)) → Told contents (λ bytes. 128 < length (line_of bytes)) → Told contents (λ bytes. raw_keys (line_of bytes) ≡ None)
told_too_long None h = tt
told_too_long (Some bytes) h = too_long (line_of bytes) h

same_pair : (keys : KeyPair) (enc mac : List ℕ) → keys.enc ≡ enc → keys.mac ≡ mac → keys ≡ record { enc = enc; mac = mac }
same_pair keys enc mac e m = λ i. record { enc = e i; mac = m i }

pub keys_are : (line out : List ℕ) (keys : KeyPair) → raw_keys line ≡ Some (pair_of out) → keys.enc ≡ take 32 out → keys.mac ≡ drop 32 out → Some keys ≡ raw_keys line
keys_are line out keys h enc mac = ap (λ k. Some k) (same_pair keys _ _ enc mac) ∙ sym h

-- an error is the same beside values of another type
pub same_error : {T U E : Type 0} (e f : E) → IsErrOf {T = T} (Err e) f → IsErrOf {T = U} (Err e) f
same_error e f h = let same : e ≡ f = cc h in cc
