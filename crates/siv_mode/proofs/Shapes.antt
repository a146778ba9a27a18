-- The length and the bytes of a sealed text.
use Rattle.std.proofs.Common.{◌≡◌, ℕ, zero, suc, ◌+◌, ◌/◌, ◌%◌, ◌^◌, nat_lt, true, false, List, length, Option, if◌then◌else◌, sym, subst, ap, ◌∙◌, arith}
use Rattle.std.proofs.lemmas.List.{length-append}
use Rattle.aes_block.specs.Bytes.{AreBytes, MakesBlocks, xor_bytes, bytes_of}
use Rattle.aes_block.proofs.ByteLemmas.{AreBytes-append, AreBytes-xor, length-xor_bytes}
use Rattle.siv_mode.specs.Cmac.{doubled, padded, cmac}
use Rattle.siv_mode.specs.Siv.{mixed, xored_end, s2v, first_counter, keystream, counted, siv_sealed}
use Rattle.siv_mode.specs.Counted.{encrypted_counter}
use Rattle.siv_mode.proofs.Counters.{keystream-push}
use Rattle.siv_mode.proofs.Sealing.{length-keystream, length-s2v}

length-counted : (ctr : List ℕ → List ℕ) (tag text : List ℕ) → MakesBlocks ctr → length (counted ctr tag text) ≡ length text
unfolding counted
length-counted ctr tag text makes =
    let n = (length text + 15) / 16 in
    let stream = keystream ctr (first_counter tag) n in
    let stream_long = length-keystream ctr (first_counter tag) n makes in
    let long = length-xor_bytes text stream in
    omega arith

pub length-siv_sealed : (mac ctr : List ℕ → List ℕ) (ad : Option (List ℕ)) (text : List ℕ) → MakesBlocks mac → MakesBlocks ctr → length (siv_sealed mac ctr ad text) ≡ length text + 16
unfolding siv_sealed
length-siv_sealed mac ctr ad text makes makes' =
    let tag = s2v mac ad text in
    omega (arith, length-append tag (counted ctr tag text), length-s2v mac ad text makes, length-counted ctr tag text makes')

-- ---- bytes

AreBytes-keystream : (ctr : List ℕ → List ℕ) (first n : ℕ) → MakesBlocks ctr → AreBytes (keystream ctr first n)
AreBytes-keystream ctr first zero makes = tt
AreBytes-keystream ctr first (suc n) makes =
    let next : suc n ≡ n + 1 = omega arith in
    let pushed = ap (keystream ctr first) next ∙ keystream-push ctr first n in
    subst AreBytes (sym pushed) (AreBytes-append (keystream ctr first n) (encrypted_counter ctr first n) (AreBytes-keystream ctr first n makes) (makes.bytes (bytes_of 16 ((first + n) % 2 ^ 128))))

AreBytes-cmac : (mac : List ℕ → List ℕ) (text : List ℕ) → MakesBlocks mac → AreBytes (cmac mac text)
unfolding cmac
AreBytes-cmac mac text makes = makes.bytes _

AreBytes-s2v : (mac : List ℕ → List ℕ) (ad : Option (List ℕ)) (text : List ℕ) → MakesBlocks mac → AreBytes (s2v mac ad text)
unfolding s2v
AreBytes-s2v mac ad text makes =
    elim (nat_lt (length text) 16) as (λ short. AreBytes (if short then cmac mac (xor_bytes (doubled (mixed mac ad)) (padded text)) else cmac mac (xored_end text (mixed mac ad)))) [
      | true ↦ AreBytes-cmac mac _ makes
      | false ↦ AreBytes-cmac mac _ makes
    ]

pub AreBytes-siv_sealed : (mac ctr : List ℕ → List ℕ) (ad : Option (List ℕ)) (text : List ℕ) → MakesBlocks mac → MakesBlocks ctr → AreBytes text → AreBytes (siv_sealed mac ctr ad text)
unfolding siv_sealed counted
AreBytes-siv_sealed mac ctr ad text makes makes' are =
    let tag = s2v mac ad text in
    AreBytes-append tag (counted ctr tag text) (AreBytes-s2v mac ad text makes)
    (AreBytes-xor text (keystream ctr (first_counter tag) ((length text + 15) / 16)) are (AreBytes-keystream ctr (first_counter tag) ((length text + 15) / 16) makes'))
