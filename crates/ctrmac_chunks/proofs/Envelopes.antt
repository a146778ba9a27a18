-- A nonce, a ciphertext and an HMAC, as they are written and cut.
use Rattle.std.proofs.Common.{◌≡◌, ℕ, ◌+◌, ◌-◌, ◌≤◌, true, false, ltb, List, ◌++◌, length, take, drop, Some, None, refl, ap, sym, ◌∙◌, inl, inr, arith, length-append}
use Rattle.std.specs.Str.{bytes_eq}
use Rattle.std.proofs.lemmas.List.{append_assoc, take_at, take_rest, drop_at, drop-drop}
use Rattle.std.proofs.lemmas.Bool.{cases_Bool}
use Rattle.std.proofs.lemmas.Bool.Decides.{nat_tests}
use Rattle.std.proofs.lemmas.Slice.Eq.{bytes_eq-Decides}
use borrow.Rule.Slice.PartMut.{put_mid}
use Rattle.sha2.proofs.Facts256.{length-sha256}
use Rattle.hmac_sha.specs.Hmac.{hmac}
use Rattle.aes_block.specs.Bytes.{MakesBlocks, number_of}
use Rattle.ctr_mode.proofs.Counters.{length-counted, counted-twice}
use Rattle.ctrmac_chunks.specs.Envelope.{counted_from, envelope_opens, sealed_envelope, tag_of}

-- enough bytes for a nonce and an HMAC
long_enough : (n : ℕ) → 48 ≤ n → ltb n 48 ≡ false
long_enough n enough = grind (arith, nat_tests)

length-tag_of : (mac bound text : List ℕ) → length (tag_of mac bound text) ≡ 32
unfolding hmac
length-tag_of mac bound text = length-sha256 _

-- ---- opening

-- what opens if the HMAC is the one of the bytes before it
pub opens_same : (cipher : List ℕ → List ℕ) (mac bound sealed tag : List ℕ) (n : ℕ) → length sealed ≡ n + 48
    → tag ≡ tag_of mac bound (take (16 + n) sealed) → tag ≡ take (length sealed - (16 + n)) (drop (16 + n) sealed)
    → envelope_opens cipher mac bound sealed ≡ Some (counted_from cipher (take 16 sealed) (take (16 + n - 16) (drop 16 sealed)))
opens_same cipher mac bound sealed tag n long made read =
    let enough : ltb (length sealed) 48 ≡ false = long_enough (length sealed) (omega arith) in
    let start : length sealed - 32 ≡ 16 + n = omega arith in
    let cut : length sealed - 48 ≡ 16 + n - 16 = omega arith in
    let test : bytes_eq (tag_of mac bound (take (16 + n) sealed)) (drop (16 + n) sealed) ≡ true =
    (bytes_eq-Decides (tag_of mac bound (take (16 + n) sealed)) (drop (16 + n) sealed)).1 (sym made ∙ read ∙ take_rest sealed (16 + n)) in
    rw (enough, start, cut, test) refl

-- nothing opens if it isn't
pub opens_other : (cipher : List ℕ → List ℕ) (mac bound sealed tag : List ℕ) (n : ℕ) → length sealed ≡ n + 48
    → tag ≡ tag_of mac bound (take (16 + n) sealed) → (tag ≡ take (length sealed - (16 + n)) (drop (16 + n) sealed) → ⊥)
    → envelope_opens cipher mac bound sealed ≡ None
opens_other cipher mac bound sealed tag n long made other =
    let enough : ltb (length sealed) 48 ≡ false = long_enough (length sealed) (omega arith) in
    let start : length sealed - 32 ≡ 16 + n = omega arith in
    let own : List ℕ = tag_of mac bound (take (16 + n) sealed) in
    elim (cases_Bool (bytes_eq (tag_of mac bound (take (16 + n) sealed)) (drop (16 + n) sealed))) [
      | inl same ↦ absurd (other (made ∙ (bytes_eq-Decides own (drop (16 + n) sealed)).0 same ∙ sym (take_rest sealed (16 + n))))
      | inr differs ↦ rw (enough, start, differs) refl
    ]

-- ---- sealing

pub length-sealed_envelope : (cipher : List ℕ → List ℕ) (mac bound nonce plaintext : List ℕ) → MakesBlocks cipher → length nonce ≡ 16
    → length (sealed_envelope cipher mac bound nonce plaintext) ≡ length plaintext + 48
length-sealed_envelope cipher mac bound nonce plaintext blocks long =
    let text : List ℕ = counted_from cipher nonce plaintext in
    length-append (nonce ++ text) (tag_of mac bound (nonce ++ text))
    ∙ omega (arith, length-append nonce text, length-counted cipher (number_of nonce) plaintext blocks, length-tag_of mac bound (nonce ++ text))

-- what is sealed opens
pub opens_sealed : (cipher : List ℕ → List ℕ) (mac bound nonce plaintext : List ℕ) → MakesBlocks cipher → length nonce ≡ 16
    → envelope_opens cipher mac bound (sealed_envelope cipher mac bound nonce plaintext) ≡ Some plaintext
opens_sealed cipher mac bound nonce plaintext blocks long =
    let k : ℕ = length plaintext in
    let text : List ℕ = counted_from cipher nonce plaintext in
    let tag : List ℕ = tag_of mac bound (nonce ++ text) in
    let sealed : List ℕ = sealed_envelope cipher mac bound nonce plaintext in
    let all : length sealed ≡ k + 48 = length-sealed_envelope cipher mac bound nonce plaintext blocks long in
    let text_long : length text ≡ k = length-counted cipher (number_of nonce) plaintext blocks in
    let front_long : length (nonce ++ text) ≡ 16 + k = length-append nonce text ∙ omega arith in
    let cut : 16 + k - 16 ≡ k = omega arith in
    let front : take (16 + k) sealed ≡ nonce ++ text = take_at (nonce ++ text) tag (16 + k) front_long in
    let last : take (length sealed - (16 + k)) (drop (16 + k) sealed) ≡ tag = take_rest sealed (16 + k) ∙ drop_at (nonce ++ text) tag (16 + k) front_long in
    let first : take 16 sealed ≡ nonce = ap (take 16) (append_assoc nonce text tag) ∙ take_at nonce (text ++ tag) 16 long in
    let middle : take (16 + k - 16) (drop 16 sealed) ≡ text =
    (λ i. take (cut i) (drop 16 (append_assoc nonce text tag i))) ∙ ap (take k) (drop_at nonce (text ++ tag) 16 long) ∙ take_at text tag k text_long in
    opens_same cipher mac bound sealed tag k all (ap (tag_of mac bound) (sym front)) (sym last)
    ∙ (λ i. Some (counted_from cipher (first i) (middle i)))
    ∙ ap Some (counted-twice cipher (number_of nonce) plaintext blocks)

-- ---- writing

-- a part is written after a front of n
pub put_mid-append : (xs zs ys : List ℕ) (n k : ℕ) → length xs ≡ n → put_mid n k (xs ++ zs) ys ≡ xs ++ (ys ++ drop k zs)
put_mid-append xs zs ys n k long = rw (take_at xs zs n long, drop_at xs zs n long) refl

-- what follows the nonce once the plaintext is copied there
pub copied : (nonce plaintext out : List ℕ) (e k : ℕ) → length nonce ≡ 16 → k ≡ length plaintext
    → take k (drop 16 (put_mid 16 e (nonce ++ drop 16 out) plaintext)) ≡ plaintext
copied nonce plaintext out e k long size =
    rw (put_mid-append nonce (drop 16 out) plaintext 16 e long, drop_at nonce (plaintext ++ drop e (drop 16 out)) 16 long)
    (take_at plaintext (drop e (drop 16 out)) k (sym size))

-- the nonce, and the ciphertext over the plaintext
pub counted_over : (nonce plaintext text out : List ℕ) (e : ℕ) → length nonce ≡ 16 → e ≡ length plaintext → length text ≡ length plaintext
    → put_mid 16 e (put_mid 16 e (nonce ++ drop 16 out) plaintext) text ≡ nonce ++ text ++ drop (16 + length plaintext) out
counted_over nonce plaintext text out e long size same =
    let rest : List ℕ = drop e (drop 16 out) in
    let ends : drop e (drop 16 out) ≡ drop (16 + length plaintext) out = drop-drop e 16 out ∙ ap (λ (n : ℕ). drop (16 + n) out) size in
    ap (λ (xs : List ℕ). put_mid 16 e xs text) (put_mid-append nonce (drop 16 out) plaintext 16 e long)
    ∙ put_mid-append nonce (plaintext ++ rest) text 16 e long
    ∙ ap (λ (r : List ℕ). nonce ++ (text ++ r)) (drop_at plaintext rest e (sym size))
    ∙ sym (append_assoc nonce text rest)
    ∙ ap (λ (r : List ℕ). nonce ++ text ++ r) ends

-- the HMAC after them
pub tag_after : (front tag out : List ℕ) (n : ℕ) → length front ≡ 16 + n
    → put_mid (16 + n) (16 + n + 32 - (16 + n)) (front ++ drop (16 + n) out) tag ≡ front ++ tag ++ drop (n + 48) out
tag_after front tag out n long =
    let ends : drop (16 + n + 32 - (16 + n)) (drop (16 + n) out) ≡ drop (n + 48) out =
    drop-drop (16 + n + 32 - (16 + n)) (16 + n) out ∙ ap (λ (m : ℕ). drop m out) (omega arith) in
    put_mid-append front (drop (16 + n) out) tag (16 + n) (16 + n + 32 - (16 + n)) long
    ∙ sym (append_assoc front tag (drop (16 + n + 32 - (16 + n)) (drop (16 + n) out)))
    ∙ ap (λ (r : List ℕ). front ++ tag ++ r) ends
