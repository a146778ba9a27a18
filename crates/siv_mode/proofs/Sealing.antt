-- Sealing and opening undo each other.
use Rattle.std.proofs.Common.{◌≡◌, ℕ, ◌+◌, zero, suc, ◌*◌, ◌/◌, ◌%◌, ◌^◌, ◌<◌, ◌≤◌, nat_lt, Bool, true, false, List, ◌++◌, length, take, drop, Option, Some, None, bytes_eq, if◌then◌else◌, refl, sym, ap, ◌∙◌, arith}
use Rattle.std.proofs.lemmas.Bool.{false_from_ne_true}
use Rattle.std.proofs.lemmas.Bool.Decides.{nat_tests}
use Rattle.std.proofs.lemmas.Slice.Eq.{bytes_eq-Decides}
use Rattle.std.proofs.lemmas.List.{length-append, take-append-drop, take_at, drop_at}
use Rattle.aes_block.specs.Bytes.{xor_bytes, bytes_of, MakesBlocks}
use Rattle.siv_mode.specs.Cmac.{doubled, padded, cmac}
use Rattle.siv_mode.specs.Siv.{mixed, xored_end, s2v, first_counter, keystream, counted, siv_sealed, siv_text, siv_opened}
use Rattle.aes_block.proofs.ByteLemmas.{length-xor_bytes, xor_bytes-twice}
use Rattle.siv_mode.specs.Counted.{encrypted_counter}
use Rattle.siv_mode.proofs.Counters.{keystream-push}

-- n counters give n blocks
pub length-keystream : (ctr : List ℕ → List ℕ) (first n : ℕ) → MakesBlocks ctr → length (keystream ctr first n) ≡ 16 * n
length-keystream ctr first zero makes = refl
length-keystream ctr first (suc n) makes =
    let next : suc n ≡ n + 1 = omega arith in
    let pushed = ap (keystream ctr first) next ∙ keystream-push ctr first n in
    ap length pushed ∙ length-append (keystream ctr first n) (encrypted_counter ctr first n)
    ∙ omega (arith, length-keystream ctr first n makes, makes.long (bytes_of 16 ((first + n) % 2 ^ 128)))

length-cmac : (mac : List ℕ → List ℕ) (text : List ℕ) → MakesBlocks mac → length (cmac mac text) ≡ 16
unfolding cmac
length-cmac mac text makes = makes.long _

pub length-s2v : (mac : List ℕ → List ℕ) (ad : Option (List ℕ)) (text : List ℕ) → MakesBlocks mac → length (s2v mac ad text) ≡ 16
unfolding s2v
length-s2v mac ad text makes =
    elim (nat_lt (length text) 16) as (λ short. length (if short then cmac mac (xor_bytes (doubled (mixed mac ad)) (padded text)) else cmac mac (xored_end text (mixed mac ad))) ≡ 16) [
      | true ↦ length-cmac mac _ makes
      | false ↦ length-cmac mac _ makes
    ]

-- S2V of a text that is shorter than a block
pub s2v_short : (mac : List ℕ → List ℕ) (ad : Option (List ℕ)) (text : List ℕ) → length text < 16 → s2v mac ad text ≡ cmac mac (xor_bytes (doubled (mixed mac ad)) (padded text))
unfolding s2v
s2v_short mac ad text short = let test : nat_lt (length text) 16 ≡ true = grind (arith, nat_tests) in rw test refl

-- S2V of a text of a block or more
pub s2v_long : (mac : List ℕ → List ℕ) (ad : Option (List ℕ)) (text : List ℕ) → 16 ≤ length text → s2v mac ad text ≡ cmac mac (xored_end text (mixed mac ad))
unfolding s2v
s2v_long mac ad text long = let test : nat_lt (length text) 16 ≡ false = grind (arith, nat_tests) in rw test refl

-- the counters applied twice give the text back
pub counted_twice : (ctr : List ℕ → List ℕ) (tag text : List ℕ) → MakesBlocks ctr → counted ctr tag (counted ctr tag text) ≡ text
unfolding counted
counted_twice ctr tag text makes =
    let n = (length text + 15) / 16 in
    let stream = keystream ctr (first_counter tag) n in
    let stream_long = length-keystream ctr (first_counter tag) n makes in
    let long = length-xor_bytes text stream in
    let same_length : length (xor_bytes text stream) ≡ length text = omega arith in
    ap (λ k. xor_bytes (xor_bytes text stream) (keystream ctr (first_counter tag) ((k + 15) / 16))) same_length ∙ xor_bytes-twice text stream (omega arith)

-- what is accepted, and that the text is what is returned
pub opened_is : (mac ctr : List ℕ → List ℕ) (ad : Option (List ℕ)) (sealed : List ℕ) → s2v mac ad (siv_text ctr sealed) ≡ take 16 sealed → siv_opened mac ctr ad sealed ≡ Some (siv_text ctr sealed)
unfolding siv_opened
opened_is mac ctr ad sealed same =
    let test : bytes_eq (s2v mac ad (siv_text ctr sealed)) (take 16 sealed) ≡ true = (bytes_eq-Decides _ _).1 same in
    rw test refl

-- what is refused
pub closed_is : (mac ctr : List ℕ → List ℕ) (ad : Option (List ℕ)) (sealed : List ℕ) → (s2v mac ad (siv_text ctr sealed) ≡ take 16 sealed → ⊥) → siv_opened mac ctr ad sealed ≡ None
unfolding siv_opened
closed_is mac ctr ad sealed differs =
    let test = false_from_ne_true _ (λ t. differs ((bytes_eq-Decides _ _).0 t)) in
    rw test refl

-- the same of a tag and a text as they were found
pub accepts : (mac ctr : List ℕ → List ℕ) (ad : Option (List ℕ)) (sealed text tag own : List ℕ) → text ≡ siv_text ctr sealed → tag ≡ take 16 sealed → own ≡ s2v mac ad text → own ≡ tag
    → siv_opened mac ctr ad sealed ≡ Some text
accepts mac ctr ad sealed text tag own is tag_is own_is same = opened_is mac ctr ad sealed (ap (s2v mac ad) (sym is) ∙ sym own_is ∙ same ∙ tag_is) ∙ ap Some (sym is)

pub refuses : (mac ctr : List ℕ → List ℕ) (ad : Option (List ℕ)) (sealed text tag own : List ℕ) → text ≡ siv_text ctr sealed → tag ≡ take 16 sealed → own ≡ s2v mac ad text → (own ≡ tag → ⊥)
    → siv_opened mac ctr ad sealed ≡ None
refuses mac ctr ad sealed text tag own is tag_is own_is differs = closed_is mac ctr ad sealed (λ same. differs (own_is ∙ ap (s2v mac ad) is ∙ same ∙ sym tag_is))

from_opened : (mac ctr : List ℕ → List ℕ) (ad : Option (List ℕ)) (sealed text : List ℕ) → siv_opened mac ctr ad sealed ≡ Some text → (s2v mac ad text ≡ take 16 sealed) × (text ≡ siv_text ctr sealed)
unfolding siv_opened
from_opened mac ctr ad sealed text is =
    go (bytes_eq (s2v mac ad (siv_text ctr sealed)) (take 16 sealed)) refl is where
      go : (test : Bool) → bytes_eq (s2v mac ad (siv_text ctr sealed)) (take 16 sealed) ≡ test → (if test then Some (siv_text ctr sealed) else None) ≡ Some text
          → (s2v mac ad text ≡ take 16 sealed) × (text ≡ siv_text ctr sealed)
      go true same is = let back : text ≡ siv_text ctr sealed = cc in (ap (s2v mac ad) back ∙ (bytes_eq-Decides _ _).0 same, back)
      go false same is = cc

-- what was sealed opens to its text
pub opens : (mac ctr : List ℕ → List ℕ) (ad : Option (List ℕ)) (text : List ℕ) → MakesBlocks mac → MakesBlocks ctr → siv_opened mac ctr ad (siv_sealed mac ctr ad text) ≡ Some text
unfolding siv_sealed
opens mac ctr ad text makes makes' =
    let tag = s2v mac ad text in
    let long = length-s2v mac ad text makes in
    let front : take 16 (siv_sealed mac ctr ad text) ≡ tag = take_at tag (counted ctr tag text) 16 long in
    let back : drop 16 (siv_sealed mac ctr ad text) ≡ counted ctr tag text = drop_at tag (counted ctr tag text) 16 long in
    let same : siv_text ctr (siv_sealed mac ctr ad text) ≡ text = (λ i. counted ctr (front i) (back i)) ∙ counted_twice ctr tag text makes' in
    opened_is mac ctr ad (siv_sealed mac ctr ad text) (ap (s2v mac ad) same ∙ sym front) ∙ ap Some same

-- what opens is what sealing its text gives
pub sealed_is : (mac ctr : List ℕ → List ℕ) (ad : Option (List ℕ)) (sealed text : List ℕ) → MakesBlocks ctr → siv_opened mac ctr ad sealed ≡ Some text → sealed ≡ siv_sealed mac ctr ad text
unfolding siv_sealed
sealed_is mac ctr ad sealed text makes is =
    let opened = from_opened mac ctr ad sealed text is in
    let back : counted ctr (s2v mac ad text) text ≡ drop 16 sealed =
    (λ i. counted ctr (opened.0 i) (opened.1 i)) ∙ counted_twice ctr (take 16 sealed) (drop 16 sealed) makes in
    sym (take-append-drop 16 sealed) ∙ (λ i. sym opened.0 i ++ sym back i)

-- if something opens, it was sealed from that text alone; if nothing does, from none
pub opens_alone : (mac ctr : List ℕ → List ℕ) (ad : Option (List ℕ)) (sealed text other : List ℕ) → MakesBlocks mac → MakesBlocks ctr → siv_opened mac ctr ad sealed ≡ Some text
    → sealed ≡ siv_sealed mac ctr ad other → text ≡ other
opens_alone mac ctr ad sealed text other makes makes' here is =
    let both : Some text ≡ Some other = sym here ∙ ap (siv_opened mac ctr ad) is ∙ opens mac ctr ad other makes makes' in
    cc

pub never_sealed : (mac ctr : List ℕ → List ℕ) (ad : Option (List ℕ)) (sealed other : List ℕ) → MakesBlocks mac → MakesBlocks ctr → siv_opened mac ctr ad sealed ≡ None
    → sealed ≡ siv_sealed mac ctr ad other → ⊥
never_sealed mac ctr ad sealed other makes makes' here is =
    let both : None ≡ Some other = sym here ∙ ap (siv_opened mac ctr ad) is ∙ opens mac ctr ad other makes makes' in
    absurd cc
