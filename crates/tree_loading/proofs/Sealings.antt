-- The format's functions are such that an entry of a folder stands for one node at most.
use Rattle.std.proofs.Common.{◌≡◌, ◌≢◌, ◌↔◌, ℕ, zero, suc, ◌+◌, ◌-◌, ◌*◌, ◌/◌, ◌%◌, ◌<◌, ◌≤◌, Bool, true, false, ◌&&◌, ◌==◌, nat_le, nat_lt, List, [], ◌∷◌, ◌++◌, replicate, length, drop, slice_index, Option, Some, None, Result, Ok, Err, if◌then◌else◌, refl, sym, ap, ◌∙◌, inl, inr, arith, length-append}
use Rattle.std.specs.Int.{w32, byte_at, bytes_high_first, to_be_bytes}
use Rattle.std.specs.List.{list_all}
use Rattle.std.specs.Option.{option_and_then, option_map_or}
use Rattle.std.specs.Str.{bytes_eq, is_utf8}
use Rattle.std.proofs.lemmas.Bool.{cases_Bool}
use Rattle.std.proofs.lemmas.Bool.Decides.{nat_tests}
use Rattle.std.proofs.lemmas.List.{drop_at}
use Rattle.std.proofs.lemmas.List.Folds.{list_all-append}
use Rattle.std.proofs.lemmas.Slice.Eq.{bytes_eq-Decides}
use Rattle.base64.specs.GeneralPurpose.{encode_of, engine_symbols}
use Rattle.base64.specs.Engines.{url_safe}
use Rattle.base64.specs.Rfc4648.{encode_symbols, padding_len, unpadded_len}
use Rattle.base64.proofs.RoundTrip.{length-encode_symbols}
use Rattle.sha1.specs.Sha1.{sha1, digest_bytes, hash_after, padded_message}
use Rattle.aes_block.specs.Aes.{aes}
use Rattle.aes_block.specs.Bytes.{AreBytes}
use Rattle.vault_keys.specs.Keys.{KeyPair}
use Rattle.siv_mode.specs.Siv.{siv_sealed, siv_opened}
use Rattle.vault_path.specs.Parts.{is_part, is_part_byte}
use Rattle.tree_model.specs.Names.{NameFault, empty, too_long, name_limit, form_fault, checked_name, clear_name, IsClearName}
use Rattle.nfc_text.specs.Nfc.{nfc_of}
use Rattle.vault_names.specs.Sealed.{suffix, sealed_name, opened_name, valid_name, decoded, before_suffix, IsSealedName}
use Rattle.vault_names.proofs.ByteLemmas.{AreBytes-append}
use Rattle.vault_names.proofs.Opening.{and_then_some, valid_name_some}
use Rattle.vault_names.specs.Places.{long_suffix, long_folder}
use Rattle.tree_loading.specs.Format.{sealing_of, is_sealed_text}
use Rattle.tree_loading.specs.Ciphers.{AreCiphers, is_long_entry}

-- ---- tests

both_true : (x y : Bool) → (x && y) ≡ true → (x ≡ true) × (y ≡ true)
both_true true y h = (refl, h)
both_true false y h = cc

and_false : (x : Bool) → (x && false) ≡ false
and_false true = refl
and_false false = refl

-- lists of different lengths differ
apart : (xs ys : List ℕ) → length xs ≢ length ys → bytes_eq xs ys ≡ false
apart xs ys other = elim (cases_Bool (bytes_eq xs ys)) [
  | inl same ↦ absurd (other (ap length ((bytes_eq-Decides xs ys).0 same)))
  | inr differ ↦ differ
]

-- ---- the digest of SHA-1 is 20 bytes

byte_below : (k n : ℕ) → byte_at k n < 256
byte_below zero n = omega arith
byte_below (suc k) n = omega arith

high_bytes : (k n : ℕ) → AreBytes (bytes_high_first k n)
high_bytes zero n = tt
high_bytes (suc k) n = (byte_below k n, high_bytes k n)

high_length : (k n : ℕ) → length (bytes_high_first k n) ≡ k
high_length zero n = refl
high_length (suc k) n = ap suc (high_length k n)

digest_are_bytes : (h : List ℕ) (n : ℕ) → AreBytes (digest_bytes h n)
unfolding digest_bytes
digest_are_bytes h zero = tt
digest_are_bytes h (suc n) = AreBytes-append (digest_bytes h n) (to_be_bytes w32 (slice_index h n)) (digest_are_bytes h n) (high_bytes 4 (slice_index h n))

digest_length : (h : List ℕ) (n : ℕ) → length (digest_bytes h n) ≡ 4 * n
unfolding digest_bytes
digest_length h zero = refl
digest_length h (suc n) =
    let four : length (to_be_bytes w32 (slice_index h n)) ≡ 4 = high_length 4 (slice_index h n) in
    omega (arith, length-append (digest_bytes h n) (to_be_bytes w32 (slice_index h n)), digest_length h n)

sha1_bytes : (m : List ℕ) → AreBytes (sha1 m)
unfolding sha1
sha1_bytes m = digest_are_bytes (hash_after (padded_message m) (length (padded_message m) / 64)) 5

sha1_length : (m : List ℕ) → length (sha1 m) ≡ 20
unfolding sha1
sha1_length m = digest_length (hash_after (padded_message m) (length (padded_message m) / 64)) 5

-- ---- base64url is made of the bytes of a path's parts

abbrev pub all_part : List ℕ → Bool
all_part xs = list_all is_part_byte xs

cons_part : (x : ℕ) (xs : List ℕ) → is_part_byte x ≡ true → all_part xs ≡ true → all_part (x ∷ xs) ≡ true
cons_part x xs p q = rw (p, q) refl

pub append_part : (xs ys : List ℕ) → all_part xs ≡ true → all_part ys ≡ true → all_part (xs ++ ys) ≡ true
append_part xs ys p q = rw (list_all-append is_part_byte xs ys, p, q) refl

symbol_part : (table : List ℕ) (k : ℕ) → all_part table ≡ true → k < length table → is_part_byte (slice_index table k) ≡ true
symbol_part [] k all within = absurd (omega arith)
symbol_part (x ∷ xs) zero all within = (both_true (is_part_byte x) (all_part xs) all).0
symbol_part (x ∷ xs) (suc k) all within = symbol_part xs k (both_true (is_part_byte x) (all_part xs) all).1 (omega arith)

module _ (table : List ℕ) (all : all_part table ≡ true) (long : length table ≡ 64) where
  symbol : (k : ℕ) → k < 64 → is_part_byte (slice_index table k) ≡ true
  symbol k low = symbol_part table k all (omega arith)

  symbols_part : (m : List ℕ) → AreBytes m → all_part (encode_symbols table m) ≡ true
  unfolding encode_symbols
  symbols_part [] are = refl
  symbols_part (a ∷ []) are =
      let low : a < 256 = are.0 in
      cons_part (slice_index table (a / 4)) (slice_index table (a % 4 * 16) ∷ []) (symbol (a / 4) (omega arith))
      (cons_part (slice_index table (a % 4 * 16)) [] (symbol (a % 4 * 16) (omega arith)) refl)
  symbols_part (a ∷ b ∷ []) are =
      let low : a < 256 = are.0 in
      let next : b < 256 = are.1.0 in
      cons_part (slice_index table (a / 4)) (slice_index table (a % 4 * 16 + b / 16) ∷ slice_index table (b % 16 * 4) ∷ []) (symbol (a / 4) (omega arith))
      (cons_part (slice_index table (a % 4 * 16 + b / 16)) (slice_index table (b % 16 * 4) ∷ []) (symbol (a % 4 * 16 + b / 16) (omega arith))
      (cons_part (slice_index table (b % 16 * 4)) [] (symbol (b % 16 * 4) (omega arith)) refl))
  symbols_part (a ∷ b ∷ c ∷ rest) are =
      let low : a < 256 = are.0 in
      let next : b < 256 = are.1.0 in
      let third : c < 256 = are.1.1.0 in
      cons_part (slice_index table (a / 4)) (slice_index table (a % 4 * 16 + b / 16) ∷ slice_index table (b % 16 * 4 + c / 64) ∷ slice_index table (c % 64) ∷ encode_symbols table rest) (symbol (a / 4) (omega arith))
      (cons_part (slice_index table (a % 4 * 16 + b / 16)) (slice_index table (b % 16 * 4 + c / 64) ∷ slice_index table (c % 64) ∷ encode_symbols table rest) (symbol (a % 4 * 16 + b / 16) (omega arith))
      (cons_part (slice_index table (b % 16 * 4 + c / 64)) (slice_index table (c % 64) ∷ encode_symbols table rest) (symbol (b % 16 * 4 + c / 64) (omega arith))
      (cons_part (slice_index table (c % 64)) (encode_symbols table rest) (symbol (c % 64) (omega arith)) (symbols_part rest are.1.1.1))))

padding_part : (n : ℕ) → all_part (replicate n 61) ≡ true
padding_part zero = refl
padding_part (suc n) = padding_part n

padding_length : (n : ℕ) → length {A = ℕ} (replicate n 61) ≡ n
padding_length zero = refl
padding_length (suc n) = ap suc (padding_length n)

pub encoded_part : (m : List ℕ) → AreBytes m → all_part (encode_of url_safe m) ≡ true
encoded_part m are =
    append_part (encode_symbols (engine_symbols url_safe) m) (replicate (padding_len (length m)) 61) (symbols_part (engine_symbols url_safe) refl refl m are)
    (padding_part (padding_len (length m)))

encoded_length : (m : List ℕ) → length (encode_of url_safe m) ≡ unpadded_len (length m) + padding_len (length m)
encoded_length m =
    length-append (encode_symbols (engine_symbols url_safe) m) (replicate (padding_len (length m)) 61)
    ∙ (λ i. length-encode_symbols (engine_symbols url_safe) m i + padding_length (padding_len (length m)) i)

-- ---- the folder of a long name

ending : (xs s : List ℕ) → length s ≡ 4 → drop (length (xs ++ s) - 4) (xs ++ s) ≡ s
ending xs s four =
    let size : length (xs ++ s) - 4 ≡ length xs = omega (arith, length-append xs s) in
    rw size (drop_at xs s (length xs) refl)

pub part_of_more : (part : List ℕ) → 4 ≤ length part → length part ≤ 255 → all_part part ≡ true → is_part part ≡ true
part_of_more part more few all =
    let some : nat_le 1 (length part) ≡ true = grind (arith, nat_tests) in
    let fits : nat_le (length part) 255 ≡ true = grind (arith, nat_tests) in
    let dot : bytes_eq part (46 ∷ []) ≡ false = apart part (46 ∷ []) (λ e. let one : length part ≡ 1 = e in omega (arith, one, more)) in
    let dots : bytes_eq part (46 ∷ 46 ∷ []) ≡ false = apart part (46 ∷ 46 ∷ []) (λ e. let two : length part ≡ 2 = e in omega (arith, two, more)) in
    rw (some, fits, all, dot, dots) refl

long_length : (m : List ℕ) → length m ≡ 20 → length (encode_of url_safe m ++ long_suffix) ≡ 32
long_length m twenty =
    let size : unpadded_len (length m) + padding_len (length m) ≡ 28 = rw twenty refl in
    omega (arith, length-append (encode_of url_safe m) long_suffix, encoded_length m)

pub is_part-long_folder : (t : List ℕ) → is_part (long_folder t) ≡ true
unfolding long_folder
is_part-long_folder t =
    let size : length (encode_of url_safe (sha1 t) ++ long_suffix) ≡ 32 = long_length (sha1 t) (sha1_length t) in
    part_of_more (encode_of url_safe (sha1 t) ++ long_suffix) (omega (arith, size)) (omega (arith, size))
    (append_part (encode_of url_safe (sha1 t)) long_suffix (encoded_part (sha1 t) (sha1_bytes t)) refl)

ends_long : (t : List ℕ) → is_long_entry (long_folder t) ≡ true
unfolding long_folder
ends_long t = ap (λ xs. bytes_eq xs long_suffix) (ending (encode_of url_safe (sha1 t)) long_suffix refl)

no_text : (t : List ℕ) → is_long_entry t ≡ true → is_sealed_text t ≡ false
no_text t long =
    let same : drop (length t - 4) t ≡ long_suffix = (bytes_eq-Decides (drop (length t - 4) t) long_suffix).0 long in
    ap (λ xs. nat_le 28 (length t) && bytes_eq xs suffix) same ∙ and_false (nat_le 28 (length t))

-- ---- the length of a valid name

first_none : (b : Bool) (x : NameFault) (rest : Option NameFault) → (if b then Some x else rest) ≡ None → b ≡ false
first_none true x rest h = cc
first_none false x rest h = refl

form_passed : (fault : Option NameFault) (rest : Result (List ℕ) NameFault) (n : List ℕ) → option_map_or (λ f. Err f) fault rest ≡ Ok n → (fault ≡ None) × (rest ≡ Ok n)
form_passed None rest n h = (refl, h)
form_passed (Some f) rest n h = cc

size_passed : (b : Bool) (size : ℕ) (m n : List ℕ) → (if b then Err (too_long size) else Ok m) ≡ Ok n → (b ≡ false) × (m ≡ n)
size_passed true size m n h = cc
size_passed false size m n h = (refl, cc)

utf8_passed : (b : Bool) (rest : Result (List ℕ) NameFault) (fault : NameFault) (n : List ℕ) → (if b then rest else Err fault) ≡ Ok n → rest ≡ Ok n
utf8_passed true rest fault n h = h
utf8_passed false rest fault n h = cc

record IsInBounds (n : List ℕ) : Type 0 where
  pub some : 1 ≤ length n
  pub few : length n ≤ 1024

name_in_bounds : (n : List ℕ) → IsClearName n → IsInBounds n
unfolding clear_name
name_in_bounds n is =
    let formed = form_passed (form_fault n) (checked_name (nfc_of n)) n (utf8_passed (is_utf8 n) _ _ n is) in
    let checked = form_passed (form_fault (nfc_of n)) _ n formed.1 in
    let sized = size_passed (nat_lt name_limit (length (nfc_of n))) (length (nfc_of n)) (nfc_of n) n checked.1 in
    let no : (length n == 0) ≡ false = first_none (length n == 0) empty _ formed.0 in
    let low : nat_lt 1024 (length n) ≡ false = ap (λ (m : List ℕ). nat_lt 1024 (length m)) (sym sized.1) ∙ sized.0 in
    record { some = grind (arith, nat_tests); few = grind (arith, nat_tests) }

-- ---- the name that a text opens to is valid

opened_valid : (keys : KeyPair) (parent text name : List ℕ) → opened_name keys parent text ≡ Some name → IsClearName name
unfolding opened_name
opened_valid keys parent text name h =
    let named = and_then_some valid_name (option_and_then (siv_opened (aes keys.mac) (aes keys.enc) (Some parent)) (option_and_then decoded (before_suffix text))) name h in
    (valid_name_some named.0 name named.2).1

-- ---- the length of a sealed name

abbrev encoded_size : ℕ → ℕ
encoded_size n = unpadded_len n + padding_len n

size_bounds : (n : ℕ) → 1 ≤ n → n ≤ 1024 → (24 ≤ encoded_size (n + 16)) × (encoded_size (n + 16) ≤ 1388)
size_bounds n some few = (omega arith, omega arith)

abbrev Opens : KeyPair → Type 0
Opens keys = (parent text name : List ℕ) → AreBytes text → (opened_name keys parent text ≡ Some name) ↔ IsSealedName keys parent text name

module _ (keys : KeyPair) (long : (ad : Option (List ℕ)) (text : List ℕ) → length (siv_sealed (aes keys.mac) (aes keys.enc) ad text) ≡ length text + 16) where
  sealed_length : (parent n : List ℕ) → length (sealed_name keys parent n) ≡ encoded_size (length n + 16) + 4
  unfolding sealed_name
  sealed_length parent n =
      let body = siv_sealed (aes keys.mac) (aes keys.enc) (Some parent) n in
      length-append (encode_of url_safe body) suffix ∙ ap (λ (k : ℕ). k + 4) (encoded_length body ∙ ap encoded_size (long (Some parent) n))

  sealed_ends : (parent n : List ℕ) → drop (length (sealed_name keys parent n) - 4) (sealed_name keys parent n) ≡ suffix
  unfolding sealed_name
  sealed_ends parent n = ending (encode_of url_safe (siv_sealed (aes keys.mac) (aes keys.enc) (Some parent) n)) suffix refl

  sealed_text : (parent n : List ℕ) → opened_name keys parent (sealed_name keys parent n) ≡ Some n → is_sealed_text (sealed_name keys parent n) ≡ true
  sealed_text parent n opens =
      let bounds = name_in_bounds n (opened_valid keys parent (sealed_name keys parent n) n opens) in
      let size = size_bounds (length n) bounds.some bounds.few in
      let enough : 28 ≤ length (sealed_name keys parent n) = omega (arith, sealed_length parent n, size.0) in
      let yes : nat_le 28 (length (sealed_name keys parent n)) ≡ true = grind (arith, nat_tests) in
      rw (yes, sealed_ends parent n) refl

  sealed_short : (parent n : List ℕ) → opened_name keys parent (sealed_name keys parent n) ≡ Some n → length (sealed_name keys parent n) ≤ 1392
  sealed_short parent n opens =
      let bounds = name_in_bounds n (opened_valid keys parent (sealed_name keys parent n) n opens) in
      let size = size_bounds (length n) bounds.some bounds.few in
      omega (arith, sealed_length parent n, size.1)

  pub AreCiphers-sealing_of : Opens keys → AreCiphers (sealing_of keys)
  AreCiphers-sealing_of opens = record {
    sealed = λ i t n are h. ((opens i t n are).0 h).sealed;
    text = sealed_text;
    short = sealed_short;
    part = is_part-long_folder;
    long = ends_long;
    no_text = no_text;
    copy = refl;
  }
