-- What SIV makes of two texts of one length, under keys of any length.
use Rattle.std.proofs.Common.{◌≡◌, ◌<◌, ◌+◌, ◌*◌, ◌/◌, ◌%◌, ◌^◌, ℕ, zero, suc, Bool, true, false, cond, nat_lt, List, [], ◌∷◌, ◌++◌, length, take, drop, bytes_eq, Option, Some, None, refl, sym, ap, ap₂, ◌∙◌, subst, inl, inr, ◌⊎◌, arith, length-append, length-take, length-drop, take_at, drop_at, take-append-drop}
use Rattle.std.specs.List.{range_with_len}
use Rattle.std.proofs.lemmas.Slice.Eq.{bytes_eq-Decides}
use Rattle.aes_block.specs.Bytes.{xor_bytes, bytes_of, AreBytes}
use Rattle.aes_block.proofs.ByteLemmas.{length-xor_bytes, xor_bytes-twice}
use Rattle.siv_mode.specs.Cmac.{cmac}
use Rattle.siv_mode.specs.Siv.{s2v, first_counter, keystream, counted, siv_sealed, siv_text, siv_opened}
use Rattle.siv_mode.specs.Counted.{encrypted_counter}
use Rattle.siv_mode.proofs.Counters.{keystream-push}
use Rattle.store_laws.proofs.Blocks.{AreNear, AllNear, near_append, near_flat, near_lengths, near_xor}

abbrev Cipher : Type 0
Cipher = List ℕ → List ℕ

module _ (mac ctr : Cipher) (mac_near : AllNear mac) (ctr_near : AllNear ctr) (ad : Option (List ℕ)) where
  either_block : (short : Bool) (a b : List ℕ) → (c : List ℕ) × (cond short (mac a) (mac b) ≡ mac c)
  either_block true a b = (a, refl)
  either_block false a b = (b, refl)

  -- a tag is a block
  tag_is : (text : List ℕ) → (b : List ℕ) × (s2v mac ad text ≡ mac b)
  unfolding s2v cmac
  tag_is text = either_block (nat_lt (length text) 16) _ _

  pub tags_near : (m n : List ℕ) → AreNear (s2v mac ad m) (s2v mac ad n)
  tags_near m n =
      let a = tag_is m in
      let b = tag_is n in
      subst (λ (t : List ℕ). AreNear t (s2v mac ad n)) (sym a.1) (subst (λ (t : List ℕ). AreNear (mac a.0) t) (sym b.1) (mac_near a.0 b.0))

  counted_near : (tag tag' m n : List ℕ) → AreBytes m → AreBytes n → length m ≡ length n → AreNear (counted ctr tag m) (counted ctr tag' n)
  unfolding counted
  counted_near tag tag' m n are are' same =
      near_xor m n (keystream ctr (first_counter tag) ((length m + 15) / 16)) (keystream ctr (first_counter tag') ((length n + 15) / 16)) are are' same
      (subst (λ (k : ℕ). AreNear (keystream ctr (first_counter tag) ((length m + 15) / 16)) (keystream ctr (first_counter tag') ((k + 15) / 16))) same
      (near_flat (encrypted_counter ctr (first_counter tag)) (encrypted_counter ctr (first_counter tag')) (λ i. ctr_near _ _) (range_with_len 0 ((length m + 15) / 16))))

  pub sealed_near : (m n : List ℕ) → AreBytes m → AreBytes n → length m ≡ length n → AreNear (siv_sealed mac ctr ad m) (siv_sealed mac ctr ad n)
  unfolding siv_sealed
  sealed_near m n are are' same =
      near_append (s2v mac ad m) (s2v mac ad n) (counted ctr (s2v mac ad m) m) (counted ctr (s2v mac ad n) n) (tags_near m n)
      (counted_near (s2v mac ad m) (s2v mac ad n) m n are are' same)

-- ---- blocks of one length

stream_length : (ctr : Cipher) (k : ℕ) → ((b : List ℕ) → length (ctr b) ≡ k) → (first n : ℕ) → length (keystream ctr first n) ≡ k * n
stream_length ctr k each first zero = omega arith
stream_length ctr k each first (suc n) =
    let next : suc n ≡ n + 1 = omega arith in
    ap length (ap (keystream ctr first) next ∙ keystream-push ctr first n) ∙ length-append (keystream ctr first n) (encrypted_counter ctr first n)
    ∙ omega (arith, stream_length ctr k each first n, each (bytes_of 16 ((first + n) % 2 ^ 128)))

no_text : (ctr : Cipher) → ((b : List ℕ) → length (ctr b) ≡ 0) → (tag text : List ℕ) → length (counted ctr tag text) ≡ 0
unfolding counted
no_text ctr none tag text =
    omega (arith, length-xor_bytes text (keystream ctr (first_counter tag) ((length text + 15) / 16)), stream_length ctr 0 none (first_counter tag) ((length text + 15) / 16))

module _ (ctr : Cipher) (long : (b : List ℕ) → length (ctr b) ≡ 16) where
  pub counted_length : (tag text : List ℕ) → length (counted ctr tag text) ≡ length text
  unfolding counted
  counted_length tag text =
      omega (arith, length-xor_bytes text (keystream ctr (first_counter tag) ((length text + 15) / 16)), stream_length ctr 16 long (first_counter tag) ((length text + 15) / 16))

  counted_back : (tag text : List ℕ) → counted ctr tag (counted ctr tag text) ≡ text
  unfolding counted
  counted_back tag text =
      let n : ℕ = (length text + 15) / 16 in
      let stream : List ℕ = keystream ctr (first_counter tag) n in
      let same : length (xor_bytes text stream) ≡ length text = counted_length tag text in
      ap (λ (k : ℕ). xor_bytes (xor_bytes text stream) (keystream ctr (first_counter tag) ((k + 15) / 16))) same
      ∙ xor_bytes-twice text stream (omega (arith, stream_length ctr 16 long (first_counter tag) n))

  -- what is sealed determines the text
  pub sealed_once : (mac : Cipher) (ad : Option (List ℕ)) (m n : List ℕ) → length (s2v mac ad m) ≡ length (s2v mac ad n) → siv_sealed mac ctr ad m ≡ siv_sealed mac ctr ad n → m ≡ n
  unfolding siv_sealed
  sealed_once mac ad m n tags same =
      let a : List ℕ = s2v mac ad m in
      let b : List ℕ = s2v mac ad n in
      let fronts : a ≡ b = sym (take_at a (counted ctr a m) (length a) refl) ∙ ap (take (length a)) same ∙ take_at b (counted ctr b n) (length a) (sym tags) in
      let backs : counted ctr a m ≡ counted ctr b n = sym (drop_at a (counted ctr a m) (length a) refl) ∙ ap (drop (length a)) same ∙ drop_at b (counted ctr b n) (length a) (sym tags) in
      sym (counted_back a m) ∙ ap (counted ctr a) backs ∙ ap (λ (t : List ℕ). counted ctr t (counted ctr b n)) fronts ∙ counted_back b n

-- ---- what opens

opened_parts : (mac ctr : Cipher) (ad : Option (List ℕ)) (sealed text : List ℕ) → siv_opened mac ctr ad sealed ≡ Some text → (s2v mac ad text ≡ take 16 sealed) × (text ≡ siv_text ctr sealed)
unfolding siv_opened
opened_parts mac ctr ad sealed text is = go (bytes_eq (s2v mac ad (siv_text ctr sealed)) (take 16 sealed)) refl is
  where
    go : (test : Bool) → bytes_eq (s2v mac ad (siv_text ctr sealed)) (take 16 sealed) ≡ test → (cond test (Some (siv_text ctr sealed)) None) ≡ Some text
        → (s2v mac ad text ≡ take 16 sealed) × (text ≡ siv_text ctr sealed)
    go true same h = let back : text ≡ siv_text ctr sealed = cc in (ap (s2v mac ad) back ∙ (bytes_eq-Decides _ _).0 same, back)
    go false same h = absurd cc

none_counted : (ctr : Cipher) (tag text : List ℕ) → length text ≡ 0 → length (counted ctr tag text) ≡ 0
unfolding counted
none_counted ctr tag text none = omega (arith, none, length-xor_bytes text (keystream ctr (first_counter tag) ((length text + 15) / 16)))

-- If a text that isn't empty opens, tags have 16 numbers, blocks of the counter too, and what was opened is what its text is sealed as.
pub record IsWhole (mac ctr : Cipher) (ad : Option (List ℕ)) (sealed text : List ℕ) : Type 0 where
  pub tag : length (s2v mac ad text) ≡ 16
  pub long : (b : List ℕ) → length (ctr b) ≡ 16
  pub is : sealed ≡ siv_sealed mac ctr ad text

module _ (mac ctr : Cipher) (ctr_near : AllNear ctr) (either : (b : List ℕ) → (length (ctr b) ≡ 16) ⊎ (length (ctr b) ≡ 0)) (ad : Option (List ℕ)) (sealed text : List ℕ)
    (some : 0 < length text) (opens : siv_opened mac ctr ad sealed ≡ Some text) where
  parts : (s2v mac ad text ≡ take 16 sealed) × (text ≡ siv_text ctr sealed)
  parts = opened_parts mac ctr ad sealed text opens

  longer : 16 < length sealed
  longer = go (drop 16 sealed) refl
    where
      go : (rest : List ℕ) → drop 16 sealed ≡ rest → 16 < length sealed
      go [] e = absurd (omega (arith, some, ap length parts.1, none_counted ctr (take 16 sealed) (drop 16 sealed) (ap length e)))
      go (x ∷ rest) e = omega (arith, ap length e, length-drop 16 sealed)

  long : (b : List ℕ) → length (ctr b) ≡ 16
  long b = go (either b)
    where
      go : (length (ctr b) ≡ 16) ⊎ (length (ctr b) ≡ 0) → length (ctr b) ≡ 16
      go (inl all) = all
      go (inr none) =
          absurd (omega (arith, some, ap length parts.1, no_text ctr (λ c. near_lengths (ctr c) (ctr b) (ctr_near c b) ∙ none) (take 16 sealed) (drop 16 sealed)))

  pub is_whole : IsWhole mac ctr ad sealed text
  unfolding siv_sealed
  is_whole = record {
    tag = ap length parts.0 ∙ omega (arith, longer, length-take 16 sealed);
    long = long;
    is =
        sym (take-append-drop 16 sealed)
        ∙ ap₂ (λ (t u : List ℕ). t ++ u) (sym parts.0)
        (sym (counted_back ctr long (take 16 sealed) (drop 16 sealed)) ∙ ap₂ (counted ctr) (sym parts.0) (sym parts.1));
  }
