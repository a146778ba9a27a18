-- The text of a sealed name is made of the bytes of a path's parts, so that a short one is a part.
use Rattle.std.proofs.Common.{◌≡◌, ◌↔◌, ℕ, ◌<◌, ◌≤◌, Bool, true, false, not, nat_le, List, [], ◌∷◌, length, Option, Some, if◌then◌else◌, refl, sym, ap, ◌∙◌, arith, length-append}
use Rattle.std.proofs.lemmas.Bool.{and_parts}
use Rattle.std.proofs.lemmas.Bool.Decides.{nat_tests}
use Rattle.std.proofs.lemmas.Slice.Eq.{bytes_eq-Decides}
use Rattle.base64.specs.GeneralPurpose.{encode_of}
use Rattle.base64.specs.Engines.{url_safe}
use Rattle.aes_block.specs.Aes.{aes}
use Rattle.aes_block.specs.Bytes.{AreBytes}
use Rattle.vault_keys.specs.Keys.{KeyPair}
use Rattle.siv_mode.specs.Siv.{siv_sealed}
use Rattle.vault_layout.specs.Limits.{max_threshold}
use Rattle.vault_path.specs.Parts.{is_part, is_part_byte}
use Rattle.tree_model.specs.Names.{IsClearName}
use Rattle.vault_names.specs.Sealed.{suffix, sealed_name, opened_name, IsSealedName}
use Rattle.vault_names.proofs.NameLemmas.{AreBytes-clear}
use Rattle.vault_names.specs.Places.{long_folder, place_of}
use Rattle.vault_names.specs.declared.place.Place.TheVariants.{Short, Long}
use Rattle.clear_tree.specs.Walk.{is_name}
use Rattle.tree_loading.specs.Format.{sealing_of}
use Rattle.tree_loading.proofs.Sealings.{all_part, append_part, encoded_part, is_part-long_folder, part_of_more}
use Rattle.name_places.specs.New.{IsNewPlace}

-- ---- parts

byte_low : (b : ℕ) → is_part_byte b ≡ true → b < 256
byte_low b is = grind (arith, nat_tests)

part_bytes : (xs : List ℕ) → all_part xs ≡ true → AreBytes xs
part_bytes [] all = tt
part_bytes (x ∷ xs) all = let both = and_parts (is_part_byte x) (all_part xs) all in (byte_low x both.0, part_bytes xs both.1)

-- ---- the text of a sealed name

abbrev pub SealsBytes : KeyPair → Type 0
SealsBytes keys = (ad : Option (List ℕ)) (text : List ℕ) → AreBytes text → AreBytes (siv_sealed (aes keys.mac) (aes keys.enc) ad text)

abbrev pub Opens : KeyPair → Type 0
Opens keys = (parent text name : List ℕ) → AreBytes text → (opened_name keys parent text ≡ Some name) ↔ IsSealedName keys parent text name

module _ (keys : KeyPair) (seals : SealsBytes keys) (opens : Opens keys) (i n : List ℕ) (valid : IsClearName n) where
  text_part : all_part (sealed_name keys i n) ≡ true
  unfolding sealed_name
  text_part = append_part (encode_of url_safe (siv_sealed (aes keys.mac) (aes keys.enc) (Some i) n)) suffix (encoded_part _ (seals (Some i) n (AreBytes-clear n valid))) refl

  text_more : 4 ≤ length (sealed_name keys i n)
  unfolding sealed_name
  text_more = let size = length-append (encode_of url_safe (siv_sealed (aes keys.mac) (aes keys.enc) (Some i) n)) suffix in omega (arith, size)

  text_opens : is_name n (opened_name keys i (sealed_name keys i n)) ≡ true
  text_opens =
      ap (is_name n) ((opens i (sealed_name keys i n) n (part_bytes (sealed_name keys i n) text_part)).1 (record { valid = valid; sealed = refl }))
      ∙ (bytes_eq-Decides n n).1 refl

  by_threshold : (b : Bool) (h t : List ℕ) → (if b then Short else Long h) ≡ Short → b ≡ true
  by_threshold true h t e = refl
  by_threshold false h t e = absurd cc

  past_threshold : (b : Bool) (g h : List ℕ) → (if b then Short else Long g) ≡ Long h → (b ≡ false) × (g ≡ h)
  past_threshold true g h e = absurd cc
  past_threshold false g h e = (refl, cc)

  module _ (threshold : ℕ) (low : threshold ≤ max_threshold) where
    pub short_place : (t e : List ℕ) → t ≡ sealed_name keys i n → e ≡ t → place_of threshold t ≡ Short
        → IsNewPlace (sealing_of keys) i n threshold (record { text = t; entry = e; long = false })
    short_place t e is entry at =
        let fits : nat_le (length t) threshold ≡ true = by_threshold (nat_le (length t) threshold) (long_folder t) t at in
        let few : length t ≤ threshold = grind (arith, nat_tests) in
        let size : length t ≡ length (sealed_name keys i n) = ap (λ (x : List ℕ). length x) is in
        let part : is_part (sealed_name keys i n) ≡ true = part_of_more (sealed_name keys i n) text_more (omega (arith, few, size, low)) text_part in
        record {
          text = is;
          long = ap (λ (b : Bool). not b) (sym (ap (λ (x : List ℕ). nat_le (length x) threshold) (sym is) ∙ fits));
          entry = entry ∙ is;
          part = ap is_part (entry ∙ is) ∙ part;
          named = text_opens;
          short = λ same. part;
        }

    pub long_place : (t e h : List ℕ) → t ≡ sealed_name keys i n → e ≡ h → place_of threshold t ≡ Long h
        → IsNewPlace (sealing_of keys) i n threshold (record { text = t; entry = e; long = true })
    long_place t e h is entry at =
        let past = past_threshold (nat_le (length t) threshold) (long_folder t) h at in
        let folder : e ≡ long_folder (sealed_name keys i n) = entry ∙ sym past.1 ∙ ap long_folder is in
        record {
          text = is;
          long = ap (λ (b : Bool). not b) (sym (ap (λ (x : List ℕ). nat_le (length x) threshold) (sym is) ∙ past.0));
          entry = folder;
          part = ap is_part folder ∙ is_part-long_folder (sealed_name keys i n);
          named = text_opens;
          short = λ e. absurd cc;
        }
