-- Under keys of any length, a sealed name that opens is the text of one valid name, and none of the other entries of a folder.
use Rattle.std.proofs.Common.{◌≡◌, ◌≢◌, ◌<◌, ◌+◌, ◌-◌, ℕ, Bool, true, false, cond, List, [], ◌∷◌, ◌++◌, length, take, drop, replicate, bytes_eq, Some, None, Result, Ok, Err, refl, sym, ap, ◌∙◌, subst, arith, true≢false, length-append, take_at, drop_at, take-append-drop}
use Rattle.std.specs.Option.{option_and_then, option_map_or}
use Rattle.std.specs.Result.{result_ok}
use Rattle.std.specs.Str.{is_utf8}
use Rattle.std.proofs.lemmas.List.{length-replicate}
use Rattle.std.proofs.lemmas.Slice.Eq.{bytes_eq-Decides}
use Rattle.base64.specs.Engines.{url_safe}
use Rattle.base64.specs.GeneralPurpose.{decode_of, encode_of, engine_symbols}
use Rattle.base64.specs.Rfc4648.{encode_symbols, padding_len, unpadded_len}
use Rattle.base64.proofs.EngineFacts.{decode_of-encode_of}
use Rattle.base64.proofs.RoundTrip.{length-encode_symbols}
use Rattle.sha1.specs.Sha1.{sha1}
use Rattle.aes_block.specs.Aes.{aes}
use Rattle.aes_block.specs.Bytes.{AreBytes}
use Rattle.vault_keys.specs.Keys.{KeyPair}
use Rattle.siv_mode.specs.Siv.{s2v, counted, siv_opened, siv_sealed}
use Rattle.tree_model.specs.Names.{not_utf8, checked_name, clear_name, form_fault, IsClearName}
use Rattle.nfc_text.specs.Nfc.{nfc_of}
use Rattle.vault_names.specs.Sealed.{before_suffix, decoded, opened_name, sealed_name, suffix, valid_name}
use Rattle.vault_names.proofs.ByteLemmas.{AreBytes-get_or}
use Rattle.vault_names.proofs.NameLemmas.{AreBytes-clear}
use Rattle.vault_names.proofs.Opening.{and_then_some, valid_name_some}
use Rattle.vault_names.specs.Places.{long_folder, long_suffix}
use Rattle.clear_tree.specs.Walk.{Sealing}
use Rattle.clear_tree.specs.Places.{text_dirid}
use Rattle.tree_loading.specs.Format.{sealing_of}
use Rattle.store_laws.proofs.Blocks.{AreNear, aes_length, aes_near, near_bytes, near_lengths}
use Rattle.store_laws.proofs.Sealed.{IsWhole, counted_length, is_whole, sealed_near, sealed_once, tags_near}
use Rattle.store_laws.proofs.Coded.{decoding_gives_bytes, encoded_bytes, encoded_lengths}

-- The text of a valid name is that of no other name that opens to itself; it is the folder of no long place, and neither of the two is `dirid.c9r`.
pub record TellsNames (s : Sealing) : Type 0 where
  pub once : (i m n : List ℕ) → IsClearName m → s.seal i m ≡ s.seal i n → s.open_name i (s.seal i n) ≡ Some n → m ≡ n
  pub no_copy : (i m : List ℕ) → s.seal i m ≢ text_dirid
  pub not_long : (i m t : List ℕ) → s.seal i m ≢ s.long_of t
  pub long_no_copy : (t : List ℕ) → s.long_of t ≢ text_dirid

-- ---- what is before four characters

front_lengths : (xs ys v w : List ℕ) → length v ≡ length w → xs ++ v ≡ ys ++ w → length xs ≡ length ys
front_lengths xs ys v w ends same = omega (arith, ends, ap length same, length-append xs v, length-append ys w)

fronts : (xs ys v w : List ℕ) → length v ≡ length w → xs ++ v ≡ ys ++ w → xs ≡ ys
fronts xs ys v w ends same = sym (take_at xs v (length xs) refl) ∙ ap (take (length xs)) same ∙ take_at ys w (length xs) (sym (front_lengths xs ys v w ends same))

backs : (xs ys v w : List ℕ) → length v ≡ length w → xs ++ v ≡ ys ++ w → v ≡ w
backs xs ys v w ends same = sym (drop_at xs v (length xs) refl) ∙ ap (drop (length xs)) same ∙ drop_at ys w (length xs) (sym (front_lengths xs ys v w ends same))

coded_length : (m : List ℕ) → length (encode_of url_safe m) ≡ unpadded_len (length m) + padding_len (length m)
coded_length m =
    length-append (encode_symbols (engine_symbols url_safe) m) (replicate (padding_len (length m)) 61)
    ∙ omega (arith, length-encode_symbols (engine_symbols url_safe) m, length-replicate {A = ℕ} (padding_len (length m)) 61)

-- base64 has no nine characters with four after it
not_nine : (m back : List ℕ) → length back ≡ 4 → encode_of url_safe m ++ back ≢ text_dirid
not_nine m back four same = let nine : length (encode_of url_safe m ++ back) ≡ 9 = ap length same in omega (arith, nine, four, length-append (encode_of url_safe m) back, coded_length m)

chosen : (b : Bool) (x y : List ℕ) → cond b (Some x) None ≡ Some y → (b ≡ true) × (x ≡ y)
chosen true x y h = (refl, cc)
chosen false x y h = absurd cc

before_is : (text before : List ℕ) → before_suffix text ≡ Some before → text ≡ before ++ suffix
before_is text before h =
    let both = chosen (bytes_eq (drop (length text - 4) text) suffix) (take (length text - 4) text) before h in
    let back : drop (length text - 4) text ≡ suffix = (bytes_eq-Decides (drop (length text - 4) text) suffix).0 both.0 in
    sym (take-append-drop (length text - 4) text) ∙ (λ j. both.1 j ++ back j)

ok_is : {A E : Type 0} (r : Result A E) (x : A) → result_ok r ≡ Some x → r ≡ Ok x
ok_is (Ok y) x h = let e : y ≡ x = cc in ap Ok e
ok_is (Err e) x h = absurd cc

-- a valid name isn't empty
some_name : (n : List ℕ) → IsClearName n → 0 < length n
unfolding clear_name
some_name (x ∷ n) is = omega arith
some_name [] is = go (is_utf8 []) is
  where
    go : (text : Bool) → cond text (option_map_or (λ f. Err f) (form_fault []) (checked_name (nfc_of []))) (Err not_utf8) ≡ Ok [] → 0 < length {A = ℕ} []
    go true h = absurd cc
    go false h = absurd cc

module _ (keys : KeyPair) (i : List ℕ) where
  abbrev mac : List ℕ → List ℕ
  mac = aes keys.mac

  abbrev ctr : List ℕ → List ℕ
  ctr = aes keys.enc

  abbrev body : List ℕ → List ℕ
  body n = siv_sealed mac ctr (Some i) n

  record Opens (n : List ℕ) : Type 0 where
    bytes : List ℕ
    decodes : decode_of url_safe (encode_of url_safe (body n)) ≡ Ok bytes
    opens : siv_opened mac ctr (Some i) bytes ≡ Some n
    valid : IsClearName n

  opened : (n : List ℕ) → opened_name keys i (sealed_name keys i n) ≡ Some n → Opens n
  unfolding opened_name sealed_name
  opened n h =
      let text : List ℕ = encode_of url_safe (body n) ++ suffix in
      let named = and_then_some valid_name (option_and_then (siv_opened mac ctr (Some i)) (option_and_then decoded (before_suffix text))) n h in
      let found = and_then_some (siv_opened mac ctr (Some i)) (option_and_then decoded (before_suffix text)) named.0 named.1 in
      let read = and_then_some decoded (before_suffix text) found.0 found.1 in
      let valid = valid_name_some named.0 n named.2 in
      let front : read.0 ≡ encode_of url_safe (body n) = sym (fronts (encode_of url_safe (body n)) read.0 suffix suffix refl (before_is text read.0 read.1)) in
      record {
        bytes = found.0;
        decodes = ap (decode_of url_safe) (sym front) ∙ ok_is (decode_of url_safe read.0) found.0 read.2;
        opens = found.2 ∙ ap Some valid.0;
        valid = valid.1;
      }

  body_length : ((b : List ℕ) → length (ctr b) ≡ 16) → (n : List ℕ) → length (body n) ≡ length (s2v mac (Some i) n) + length n
  unfolding siv_sealed
  body_length long n =
      let tag : List ℕ = s2v mac (Some i) n in
      omega (arith, length-append tag (counted ctr tag n), counted_length ctr long tag n)

  seals_once : (m n : List ℕ) → IsClearName m → sealed_name keys i m ≡ sealed_name keys i n → opened_name keys i (sealed_name keys i n) ≡ Some n → m ≡ n
  unfolding sealed_name
  seals_once m n valid same h =
      let o = opened n h in
      let codes : encode_of url_safe (body m) ≡ encode_of url_safe (body n) = fronts (encode_of url_safe (body m)) (encode_of url_safe (body n)) suffix suffix refl same in
      let whole : IsWhole mac ctr (Some i) o.bytes n = is_whole mac ctr (aes_near keys.enc) (aes_length keys.enc) (Some i) o.bytes n (some_name n o.valid) o.opens in
      let are_n : AreBytes (body n) = subst AreBytes whole.is (decoding_gives_bytes url_safe (encode_of url_safe (body n)) o.bytes (encoded_bytes (body n)) o.decodes) in
      let tags : length (s2v mac (Some i) m) ≡ length (s2v mac (Some i) n) = near_lengths (s2v mac (Some i) m) (s2v mac (Some i) n) (tags_near mac ctr (aes_near keys.mac) (aes_near keys.enc) (Some i) m n) in
      let long : length m ≡ length n = omega (arith, tags, encoded_lengths (body m) (body n) codes, body_length whole.long m, body_length whole.long n) in
      let near : AreNear (body m) (body n) = sealed_near mac ctr (aes_near keys.mac) (aes_near keys.enc) (Some i) m n (AreBytes-clear m valid) (AreBytes-clear n o.valid) long in
      let are_m : AreBytes (body m) = near_bytes (body m) (body n) near are_n in
      let both : ◌≡◌ {A = Result (List ℕ) _} (Ok (body m)) (Ok (body n)) =
      sym (decode_of-encode_of url_safe (body m) refl (AreBytes-get_or (body m) are_m)) ∙ ap (decode_of url_safe) codes ∙ decode_of-encode_of url_safe (body n) refl (AreBytes-get_or (body n) are_n) in
      sealed_once ctr whole.long mac (Some i) m n tags cc

  no_copy : (m : List ℕ) → sealed_name keys i m ≢ text_dirid
  unfolding sealed_name
  no_copy m same = not_nine (body m) suffix refl same

  not_long : (m t : List ℕ) → sealed_name keys i m ≢ long_folder t
  unfolding sealed_name long_folder
  not_long m t same = let ends : suffix ≡ long_suffix = backs (encode_of url_safe (body m)) (encode_of url_safe (sha1 t)) suffix long_suffix refl same in true≢false (ap (λ (xs : List ℕ). bytes_eq xs suffix) ends)

long_no_copy : (t : List ℕ) → long_folder t ≢ text_dirid
unfolding long_folder
long_no_copy t same = not_nine (sha1 t) long_suffix refl same

pub sealing_tells_names : (keys : KeyPair) → TellsNames (sealing_of keys)
sealing_tells_names keys = record { once = seals_once keys; no_copy = no_copy keys; not_long = not_long keys; long_no_copy = long_no_copy }
