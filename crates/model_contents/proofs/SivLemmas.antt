-- A text xored with the encrypted counters, place by place, and what opening computes.
use Rattle.std.proofs.Common.{◌≡◌, ℕ, ◌+◌, ◌/◌, true, false, List, [], ◌∷◌, length, take, drop, map, Option, Some, None, bit_xor, bytes_eq, refl, sym, ap, ap₂, ◌∙◌}
use Rattle.std.specs.List.{zip}
use Rattle.std.proofs.lemmas.Bool.{cond-true, cond-false}
use Rattle.aes_block.specs.Bytes.{xor_bytes}
use Rattle.siv_mode.specs.Siv.{counted, first_counter, keystream, s2v, siv_opened, siv_text}

xor_bytes-zip : (xs ys : List ℕ) → xor_bytes xs ys ≡ map (λ (p : ℕ × ℕ). bit_xor p.0 p.1) (zip xs ys)
xor_bytes-zip [] ys = refl
xor_bytes-zip (x ∷ xs) [] = refl
xor_bytes-zip (x ∷ xs) (y ∷ ys) = ap (λ (s : List ℕ). bit_xor x y ∷ s) (xor_bytes-zip xs ys)

pub counted-zip : (ctr : List ℕ → List ℕ) (tag text stream : List ℕ) (first n : ℕ) → first ≡ first_counter tag → n ≡ (length text + 15) / 16 → stream ≡ keystream ctr first n
    → counted ctr tag text ≡ map (λ (p : ℕ × ℕ). bit_xor p.0 p.1) (zip text stream)
unfolding counted
counted-zip ctr tag text stream first n first_is n_is is =
    ap (xor_bytes text) (ap₂ (keystream ctr) (sym first_is) (sym n_is) ∙ sym is) ∙ xor_bytes-zip text stream

-- the tag and the bytes after it, the text that these decrypt to, and its S2V
module _ (mac ctr : List ℕ → List ℕ) (ad : Option (List ℕ)) (sealed tag rest text code : List ℕ) (tag_is : tag ≡ take 16 sealed) (rest_is : rest ≡ drop 16 sealed) (text_is : text ≡ counted ctr tag rest) (code_is : code ≡ s2v mac ad text) where
  text_behind : text ≡ siv_text ctr sealed
  text_behind = text_is ∙ ap₂ (counted ctr) tag_is rest_is

  tag_compared : bytes_eq (s2v mac ad (siv_text ctr sealed)) (take 16 sealed) ≡ bytes_eq code tag
  tag_compared = sym (ap₂ bytes_eq (code_is ∙ ap (s2v mac ad) text_behind) tag_is)

  pub siv_opened-same : bytes_eq code tag ≡ true → Some text ≡ siv_opened mac ctr ad sealed
  unfolding siv_opened
  siv_opened-same same = ap Some text_behind ∙ sym (cond-true (bytes_eq (s2v mac ad (siv_text ctr sealed)) (take 16 sealed)) (Some (siv_text ctr sealed)) None (tag_compared ∙ same))

  pub siv_opened-other : bytes_eq code tag ≡ false → None ≡ siv_opened mac ctr ad sealed
  unfolding siv_opened
  siv_opened-other other = sym (cond-false (bytes_eq (s2v mac ad (siv_text ctr sealed)) (take 16 sealed)) (Some (siv_text ctr sealed)) None (tag_compared ∙ other))
