-- The symbols of base64url: no dot and no white space.
use Rattle.std.proofs.Common.{◌≡◌, ℕ, zero, suc, ◌+◌, ◌*◌, ◌/◌, ◌%◌, ◌<◌, ◌≤◌, Bool, true, false, not, ◌&&◌, ◌==◌, List, [], ◌∷◌, ◌++◌, length, get_or, refl, arith}
use Rattle.std.proofs.lemmas.List.{append-nil}
use Rattle.std.specs.List.{list_all}
use Rattle.base64.specs.Rfc4648.{encode_symbols}
use Rattle.base64.specs.Engines.{url_safe_no_pad}
use Rattle.std.specs.Char.{is_ascii_whitespace}
use Rattle.vault_config.specs.Token.{pieces_of}
use Rattle.vault_config.specs.Config.{piece_of}

-- the symbols
abbrev symbols : List ℕ
symbols = url_safe_no_pad.encode_table

-- neither white space nor a dot
abbrev pub is_plain : ℕ → Bool
is_plain b = not (is_ascii_whitespace b) && not (b == 46)

both : (x y : Bool) → x ≡ true → y ≡ true → (x && y) ≡ true
both true y h k = k
both false y h k = cc

parts : (x y : Bool) → (x && y) ≡ true → (x ≡ true) × (y ≡ true)
parts true y h = (refl, h)
parts false y h = cc

plain_at : (table : List ℕ) (i : ℕ) → list_all is_plain table ≡ true → is_plain (get_or table i 0) ≡ true
plain_at [] i h = refl
plain_at (s ∷ table) zero h = (parts (is_plain s) (list_all is_plain table) h).0
plain_at (s ∷ table) (suc i) h = plain_at table i (parts (is_plain s) (list_all is_plain table) h).1

plain_table : list_all is_plain symbols ≡ true
plain_table = refl

plain_symbol : (i : ℕ) → is_plain (get_or symbols i 0) ≡ true
plain_symbol i = plain_at symbols i plain_table

plain_symbols : (bytes : List ℕ) → list_all is_plain (encode_symbols symbols bytes) ≡ true
unfolding encode_symbols
plain_symbols [] = refl
plain_symbols (a ∷ []) = both _ _ (plain_symbol (a / 4)) (both _ _ (plain_symbol (a % 4 * 16)) refl)
plain_symbols (a ∷ b ∷ []) =
    both _ _ (plain_symbol (a / 4)) (both _ _ (plain_symbol (a % 4 * 16 + b / 16)) (both _ _ (plain_symbol (b % 16 * 4)) refl))
plain_symbols (a ∷ b ∷ c ∷ bytes) =
    both _ _ (plain_symbol (a / 4)) (both _ _ (plain_symbol (a % 4 * 16 + b / 16))
    (both _ _ (plain_symbol (b % 16 * 4 + c / 64)) (both _ _ (plain_symbol (c % 64)) (plain_symbols bytes))))

pub plain-piece_of : (bytes : List ℕ) → list_all is_plain (piece_of bytes) ≡ true
plain-piece_of bytes = rw (append-nil (encode_symbols symbols bytes)) (plain_symbols bytes)

length-symbols-le : (bytes : List ℕ) → length (encode_symbols symbols bytes) ≤ 2 * length bytes
unfolding encode_symbols
length-symbols-le [] = omega arith
length-symbols-le (a ∷ []) = omega arith
length-symbols-le (a ∷ b ∷ []) = omega arith
length-symbols-le (a ∷ b ∷ c ∷ bytes) = omega (arith, length-symbols-le bytes)

pub length-piece_of-le : (bytes : List ℕ) → length (piece_of bytes) ≤ 2 * length bytes
length-piece_of-le bytes = rw (append-nil (encode_symbols symbols bytes)) (length-symbols-le bytes)

-- ---- dots

not_true : (b : Bool) → not b ≡ true → b ≡ false
not_true true h = cc
not_true false h = refl

no_dot : (b : ℕ) (bytes : List ℕ) → list_all is_plain (b ∷ bytes) ≡ true → (b == 46) ≡ false
no_dot b bytes h = not_true (b == 46) (parts (not (is_ascii_whitespace b)) (not (b == 46)) (parts (is_plain b) (list_all is_plain bytes) h).0).1

pub pieces_of-joined : (piece bytes : List ℕ) → list_all is_plain piece ≡ true → pieces_of (piece ++ 46 ∷ bytes) ≡ piece ∷ pieces_of bytes
unfolding pieces_of
pieces_of-joined [] bytes h = refl
pieces_of-joined (b ∷ piece) bytes h =
    rw (no_dot b piece h, pieces_of-joined piece bytes (parts (is_plain b) (list_all is_plain piece) h).1) refl

pub pieces_of-plain : (piece : List ℕ) → list_all is_plain piece ≡ true → pieces_of piece ≡ piece ∷ []
unfolding pieces_of
pieces_of-plain [] h = refl
pieces_of-plain (b ∷ piece) h = rw (no_dot b piece h, pieces_of-plain piece (parts (is_plain b) (list_all is_plain piece) h).1) refl

-- ---- white space

abbrev pub IsSpaceless : List ℕ → Type 0
IsSpaceless bytes = (k : ℕ) → k < length bytes → is_ascii_whitespace (get_or bytes k 0) ≡ false

spaceless-cons : (b : ℕ) (bytes : List ℕ) → is_ascii_whitespace b ≡ false → IsSpaceless bytes → IsSpaceless (b ∷ bytes)
spaceless-cons b bytes h rest zero l = h
spaceless-cons b bytes h rest (suc k) l = rest k (omega arith)

spaceless-tail : (b : ℕ) (bytes : List ℕ) → IsSpaceless (b ∷ bytes) → IsSpaceless bytes
spaceless-tail b bytes h k l = h (suc k) (omega arith)

pub spaceless-plain : (bytes : List ℕ) → list_all is_plain bytes ≡ true → IsSpaceless bytes
spaceless-plain [] h = λ k l. absurd (omega arith)
spaceless-plain (b ∷ bytes) h =
    let p = parts (is_plain b) (list_all is_plain bytes) h in
    spaceless-cons b bytes (not_true (is_ascii_whitespace b) (parts (not (is_ascii_whitespace b)) (not (b == 46)) p.0).0) (spaceless-plain bytes p.1)

pub spaceless-joined : (front back : List ℕ) → IsSpaceless front → IsSpaceless back → IsSpaceless (front ++ 46 ∷ back)
spaceless-joined [] back f h = spaceless-cons 46 back refl h
spaceless-joined (b ∷ front) back f h = spaceless-cons b (front ++ 46 ∷ back) (f 0 (omega arith)) (spaceless-joined front back (spaceless-tail b front f) h)
