-- A nonce, a ciphertext and a tag, as they are written and cut.
use Rattle.std.proofs.Common.{◌≡◌, ℕ, ◌+◌, ◌-◌, ◌≤◌, false, ltb, List, ◌++◌, length, take, drop, Some, Option, refl, ap, sym, ◌∙◌, arith, length-append, length-drop}
use Rattle.std.proofs.lemmas.List.{append_assoc, take_all, take_at, drop_at, drop-drop}
use Rattle.std.proofs.lemmas.Bool.Decides.{nat_tests}
use borrow.Rule.Slice.PartMut.{put_mid}
use Rattle.aes_block.specs.Aes.{aes}
use Rattle.gcm_mode.specs.Gcm.{gcm_opened}
use Rattle.file_chunks.specs.Envelope.{envelope_opens}

-- enough bytes for a nonce and a tag
pub long_enough : (n : ℕ) → 28 ≤ n → ltb n 28 ≡ false
long_enough n enough = grind (arith, nat_tests)

-- a part is written after a front of n
pub put_mid-append : (xs zs ys : List ℕ) (n k : ℕ) → length xs ≡ n → put_mid n k (xs ++ zs) ys ≡ xs ++ (ys ++ drop k zs)
put_mid-append xs zs ys n k long = rw (take_at xs zs n long, drop_at xs zs n long) refl

-- what follows the nonce once the plaintext is copied there
pub copied : (nonce plaintext out : List ℕ) (e k : ℕ) → length nonce ≡ 12 → k ≡ length plaintext
    → take k (drop 12 (put_mid 12 e (nonce ++ drop 12 out) plaintext)) ≡ plaintext
copied nonce plaintext out e k long size =
    rw (put_mid-append nonce (drop 12 out) plaintext 12 e long, drop_at nonce (plaintext ++ drop e (drop 12 out)) 12 long)
    (take_at plaintext (drop e (drop 12 out)) k (sym size))

-- the nonce, the ciphertext over the plaintext and the tag, written to the front of `out`
pub written : (nonce plaintext ciphertext tag out : List ℕ) → length nonce ≡ 12 → length ciphertext ≡ length plaintext
    → put_mid (12 + length plaintext) (12 + length plaintext + 16 - (12 + length plaintext)) (put_mid 12 (12 + length plaintext - 12) (put_mid 12 (12 + length plaintext - 12) (nonce ++ drop 12 out) plaintext) ciphertext) tag
    ≡ nonce ++ (ciphertext ++ tag) ++ drop (length plaintext + 28) out
written nonce plaintext ciphertext tag out long same =
    let k : ℕ = length plaintext in
    let e : 12 + length plaintext - 12 ≡ length plaintext = omega arith in
    let t : 12 + length plaintext + 16 - (12 + length plaintext) ≡ 16 = omega arith in
    let rest : List ℕ = drop (length plaintext) (drop 12 out) in
    let ends : drop 16 (drop (length plaintext) (drop 12 out)) ≡ drop (length plaintext + 28) out =
    drop-drop 16 (length plaintext) (drop 12 out) ∙ drop-drop (length plaintext + 16) 12 out ∙ ap (λ (n : ℕ). drop n out) (omega arith) in
    let front : length (nonce ++ ciphertext) ≡ 12 + length plaintext = length-append nonce ciphertext ∙ omega arith in
    let first : put_mid 12 (length plaintext) (nonce ++ drop 12 out) plaintext ≡ nonce ++ (plaintext ++ rest) = put_mid-append nonce (drop 12 out) plaintext 12 k long in
    let second : put_mid 12 (length plaintext) (nonce ++ (plaintext ++ rest)) ciphertext ≡ (nonce ++ ciphertext) ++ rest =
    put_mid-append nonce (plaintext ++ rest) ciphertext 12 k long
    ∙ ap (λ (r : List ℕ). nonce ++ (ciphertext ++ r)) (drop_at plaintext rest k refl)
    ∙ sym (append_assoc nonce ciphertext rest) in
    rw (e, t, first, second)
    (put_mid-append (nonce ++ ciphertext) rest tag (12 + length plaintext) 16 front
    ∙ ap (λ (r : List ℕ). nonce ++ ciphertext ++ (tag ++ r)) ends
    ∙ sym (append_assoc (nonce ++ ciphertext) tag (drop (length plaintext + 28) out))
    ∙ ap (λ (r : List ℕ). r ++ drop (length plaintext + 28) out) (append_assoc nonce ciphertext tag))

-- what is written opens
pub opens_written : (key nonce ad plaintext ciphertext tag out : List ℕ) → length nonce ≡ 12 → length ciphertext ≡ length plaintext → length tag ≡ 16
    → gcm_opened (aes key) nonce ad ciphertext tag ≡ Some plaintext
    → envelope_opens key ad (take (length plaintext + 28) (nonce ++ (ciphertext ++ tag) ++ drop (length plaintext + 28) out)) ≡ Some plaintext
opens_written key nonce ad plaintext ciphertext tag out long same size opened =
    let whole : List ℕ = nonce ++ (ciphertext ++ tag) in
    let all : length (nonce ++ (ciphertext ++ tag)) ≡ length plaintext + 28 =
    length-append nonce (ciphertext ++ tag) ∙ ap (λ (n : ℕ). length nonce + n) (length-append ciphertext tag) ∙ omega arith in
    let cut : length plaintext + 28 - 28 ≡ length plaintext = omega arith in
    let enough : ltb (length plaintext + 28) 28 ≡ false = long_enough (length plaintext + 28) (omega arith) in
    let tail : length plaintext + 28 - 16 ≡ 12 + length plaintext = omega arith in
    let front : length (nonce ++ ciphertext) ≡ 12 + length plaintext = length-append nonce ciphertext ∙ omega arith in
    let last : drop (12 + length plaintext) (nonce ++ (ciphertext ++ tag)) ≡ tag =
    ap (drop (12 + length plaintext)) (sym (append_assoc nonce ciphertext tag)) ∙ drop_at (nonce ++ ciphertext) tag (12 + length plaintext) front in
    rw (
      take_at whole (drop (length plaintext + 28) out) (length plaintext + 28) all,
      all,
      enough,
      cut,
      tail,
      last,
      take_at nonce (ciphertext ++ tag) 12 long,
      drop_at nonce (ciphertext ++ tag) 12 long,
      take_at ciphertext tag (length plaintext) same,
    ) opened

-- what opens where the parts are read off
pub opens_read : (key ad sealed nonce plaintext tag : List ℕ) (n : ℕ) (answer : Option (List ℕ)) → length sealed ≡ n + 28
    → nonce ≡ take 12 sealed → plaintext ≡ take (12 + n - 12) (drop 12 sealed) → tag ≡ take 16 (drop (12 + n) sealed)
    → gcm_opened (aes key) nonce ad plaintext tag ≡ answer → envelope_opens key ad sealed ≡ answer
opens_read key ad sealed nonce plaintext tag n answer long nonce_is text_is tag_is opened =
    let enough : ltb (length sealed) 28 ≡ false = long_enough (length sealed) (omega arith) in
    let cut : length sealed - 28 ≡ 12 + n - 12 = omega arith in
    let start : length sealed - 16 ≡ 12 + n = omega arith in
    let rest : length (drop (12 + n) sealed) ≤ 16 = omega (arith, length-drop (12 + n) sealed) in
    let last : tag ≡ drop (12 + n) sealed = tag_is ∙ take_all 16 (drop (12 + n) sealed) rest in
    rw (enough, cut, start, ← nonce_is, ← text_is, ← last) opened
