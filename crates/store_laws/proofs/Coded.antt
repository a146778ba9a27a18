-- Base64 of lists of numbers that needn't be bytes: it shows how many they are, and what decodes are bytes.
use Rattle.std.proofs.Common.{◌≡◌, ◌≢◌, ◌<◌, ◌≤◌, ◌+◌, ◌*◌, ◌/◌, ◌%◌, ℕ, zero, suc, true, List, [], ◌∷◌, ◌++◌, length, drop, replicate, slice_index, Option, Some, None, Ok, Err, refl, sym, ap, subst, inl, inr, ◌⊎◌, arith, length-drop}
use Rattle.std.specs.List.{AllByRecursion}
use Rattle.std.proofs.lemmas.Bool.{cases_lt}
use Rattle.std.proofs.lemmas.List.{get_or_past, get_or-drop}
use Rattle.base64.specs.declared.decode.DecodeError.{DecodeError}
use Rattle.base64.specs.declared.engine.general_purpose.GeneralPurpose.{GeneralPurpose}
use Rattle.base64.specs.Decode.{or_else, symbol_error, groups_error, groups_bytes, decode_group, decode_outcome, decoded_bytes, groups_before_last, no_leftover, scan_bytes, scan_last, suffix_bytes}
use Rattle.base64.specs.Engines.{url_safe}
use Rattle.base64.specs.GeneralPurpose.{encode_of, decode_of, engine_symbols}
use Rattle.base64.specs.Rfc4648.{encode_symbols, padding_len}
use Rattle.base64.specs.Tables.{is_alphabet, is_inverse}
use Rattle.base64.proofs.Canonical.{IsScanned-scan}
use Rattle.base64.proofs.Decoding.{IsLeftover}
use Rattle.base64.proofs.RoundTrip.{length-encode_symbols}
use Rattle.base64.proofs.Tables.{are_tables_alphabet, are_tables_inverse, is_alphabet-length, is_alphabet_symbol, IsDecodeTable_from}
use Rattle.aes_block.specs.Bytes.{AreBytes}
use Rattle.aes_block.proofs.ByteLemmas.{AreBytes-append, AreBytes-take, get_or-byte}

-- ---- what an encoding is made of

record IsSymbol (x : ℕ) : Type 0 where
  byte : x < 256
  no_padding : x ≢ 61

abbrev table : List ℕ
table = engine_symbols url_safe

alphabet : is_alphabet table 61 ≡ true
alphabet = are_tables_alphabet table url_safe.decode_table 61 url_safe.tables

-- a symbol, or 0 if the table has none
symbol : (k : ℕ) → IsSymbol (slice_index table k)
symbol k = go (cases_lt k 64)
  where
    go : (k < 64) ⊎ (64 ≤ k) → IsSymbol (slice_index table k)
    go (inl low) = let is = is_alphabet_symbol table 61 k alphabet low in record { byte = omega (arith, is.1); no_padding = is.2 }
    go (inr high) =
        let none : slice_index table k ≡ 0 = get_or_past table k 0 (omega (arith, high, is_alphabet-length table 61 alphabet)) in
        record { byte = omega (arith, none); no_padding = λ e. omega (arith, none, e) }

symbols_of : (t : List ℕ) → ((k : ℕ) → IsSymbol (slice_index t k)) → (m : List ℕ) → AllByRecursion IsSymbol (encode_symbols t m)
unfolding encode_symbols
symbols_of t good [] = tt
symbols_of t good (a ∷ []) = (good (a / 4), (good (a % 4 * 16), tt))
symbols_of t good (a ∷ b ∷ []) = (good (a / 4), (good (a % 4 * 16 + b / 16), (good (b % 16 * 4), tt)))
symbols_of t good (a ∷ b ∷ c ∷ rest) = (good (a / 4), (good (a % 4 * 16 + b / 16), (good (b % 16 * 4 + c / 64), (good (c % 64), symbols_of t good rest))))

symbols : (m : List ℕ) → AllByRecursion IsSymbol (encode_symbols table m)
symbols m = symbols_of table symbol m

-- ---- how many numbers were encoded

front_lengths : (xs ys : List ℕ) (a b : ℕ) → AllByRecursion IsSymbol xs → AllByRecursion IsSymbol ys → xs ++ replicate a 61 ≡ ys ++ replicate b 61 → length xs ≡ length ys
front_lengths [] [] a b all all' same = refl
front_lengths [] (y ∷ ys) zero b all all' same = absurd cc
front_lengths [] (y ∷ ys) (suc a) b all all' same = let e : 61 ≡ y = cc in absurd (all'.0.no_padding (sym e))
front_lengths (x ∷ xs) [] a zero all all' same = absurd cc
front_lengths (x ∷ xs) [] a (suc b) all all' same = let e : x ≡ 61 = cc in absurd (all.0.no_padding e)
front_lengths (x ∷ xs) (y ∷ ys) a b all all' same = ap suc (front_lengths xs ys a b all.1 all'.1 (ap (drop 1) same))

pub encoded_lengths : (m n : List ℕ) → encode_of url_safe m ≡ encode_of url_safe n → length m ≡ length n
encoded_lengths m n same =
    omega (arith, front_lengths (encode_symbols table m) (encode_symbols table n) (padding_len (length m)) (padding_len (length n)) (symbols m) (symbols n) same, length-encode_symbols table m, length-encode_symbols table n)

-- ---- what is decoded

all_bytes : (xs : List ℕ) → AllByRecursion IsSymbol xs → AreBytes xs
all_bytes [] all = tt
all_bytes (x ∷ xs) all = (all.0.byte, all_bytes xs all.1)

padding_bytes : (k : ℕ) → AreBytes (replicate k 61)
padding_bytes zero = tt
padding_bytes (suc k) = (omega arith, padding_bytes k)

pub encoded_bytes : (m : List ℕ) → AreBytes (encode_of url_safe m)
encoded_bytes m =
    AreBytes-append (encode_symbols table m) (replicate (padding_len (length m)) 61) (all_bytes (encode_symbols table m) (symbols m)) (padding_bytes (padding_len (length m)))

no_error : (x y : Option DecodeError) → or_else x y ≡ None → (x ≡ None) × (y ≡ None)
no_error None y h = (refl, h)
no_error (Some e) y h = absurd cc

group_bytes : (a b c d : ℕ) → a < 64 → b < 64 → c < 64 → d < 64 → AreBytes (decode_group a b c d)
group_bytes a b c d la lb lc ld = (omega arith, (omega arith, (omega arith, tt)))

module _ (enc dec s : List ℕ) (inverse : is_inverse enc dec ≡ true) (bytes : AreBytes s) where
  value : (i : ℕ) → symbol_error dec s i ≡ None → slice_index dec (slice_index s i) < 64
  value i none = go (IsDecodeTable_from enc dec inverse (slice_index s i) (get_or-byte s i bytes))
    where
      go : (slice_index dec (slice_index s i) ≡ 255) ⊎ (slice_index dec (slice_index s i) < 64) → slice_index dec (slice_index s i) < 64
      go (inl bad) = cc (rw bad at none)
      go (inr good) = good

  groups_are_bytes : (q : ℕ) → groups_error dec s q ≡ None → AreBytes (groups_bytes dec s q)
  unfolding groups_error groups_bytes
  groups_are_bytes zero none = tt
  groups_are_bytes (suc q) none =
      let i : ℕ = 4 * q in
      let before = no_error (groups_error dec s q) _ none in
      let first = no_error (symbol_error dec s i) _ before.1 in
      let second = no_error (symbol_error dec s (i + 1)) _ first.1 in
      let last = no_error (symbol_error dec s (i + 2)) (symbol_error dec s (i + 3)) second.1 in
      AreBytes-append (groups_bytes dec s q) _ (groups_are_bytes q before.0) (group_bytes _ _ _ _ (value i first.0) (value (i + 1) second.0) (value (i + 2) last.0) (value (i + 3) last.1))

  zeros : (k : ℕ) → slice_index (0 ∷ 0 ∷ 0 ∷ 0 ∷ []) k < 64
  zeros zero = omega arith
  zeros (suc zero) = omega arith
  zeros (suc (suc zero)) = omega arith
  zeros (suc (suc (suc zero))) = omega arith
  zeros (suc (suc (suc (suc k)))) = omega arith

  last_are_bytes : (pad at : ℕ) → length s ≤ at + 4 → AreBytes (suffix_bytes dec pad at s)
  last_are_bytes pad at few =
      elim (scan_last dec pad at s) as (λ r. scan_last dec pad at s ≡ r → AreBytes (scan_bytes r)) [
        | Err e ↦ λ is. tt
        | Ok st ↦ λ is.
            let left : IsLeftover st (length (drop at s)) =
            (IsScanned-scan enc dec (drop at s) pad at (drop at s) no_leftover st 0 inverse (λ k. rw (get_or-drop at s k 0) (get_or-byte s (at + k) bytes)) (omega (arith, few, length-drop at s)) (omega arith) refl
            ((refl, refl, λ j lt. absurd (omega arith), λ j low lt. absurd (omega arith)), (omega arith, omega arith, omega arith, zeros)) is).1 in
            AreBytes-take (st.morsels_count * 6 / 8) (decode_group _ _ _ _) (group_bytes _ _ _ _ (left.3 0) (left.3 1) (left.3 2) (left.3 3))
      ] refl

  pub decoded_are_bytes : (pad : ℕ) → groups_error dec s (groups_before_last (length s)) ≡ None → AreBytes (decoded_bytes dec pad s)
  decoded_are_bytes pad none =
      AreBytes-append (groups_bytes dec s (groups_before_last (length s))) (suffix_bytes dec pad (4 * groups_before_last (length s)) s)
      (groups_are_bytes (groups_before_last (length s)) none) (last_are_bytes pad (4 * groups_before_last (length s)) (omega arith))

passed : (x : Option DecodeError) (d b : List ℕ) → decode_outcome x d ≡ Ok b → (x ≡ None) × (d ≡ b)
passed None d b h = (refl, cc)
passed (Some e) d b h = absurd cc

pub decoding_gives_bytes : (e : GeneralPurpose) (s b : List ℕ) → AreBytes s → decode_of e s ≡ Ok b → AreBytes b
decoding_gives_bytes e s b bytes is =
    let both = passed _ (decoded_bytes e.decode_table e.padding.value s) b is in
    let lone = no_error _ _ both.0 in
    let groups = no_error (groups_error e.decode_table s (groups_before_last (length s))) _ lone.1 in
    subst AreBytes both.1 (decoded_are_bytes e.encode_table e.decode_table s (are_tables_inverse e.encode_table e.decode_table e.padding.value e.tables) bytes e.padding.value groups.0)
