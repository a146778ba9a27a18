-- What is written: its text, and that it reads back.
use Rattle.std.proofs.Common.{◌≡◌, ℕ, ◌+◌, ◌*◌, ◌≤◌, true, List, length, replicate, Option, Some, Ok, inl, inr, decimal, refl, ap, subst, ◌∙◌, arith, lit<}
use Rattle.std.proofs.lemmas.List.{length-append, length-replicate}
use Rattle.std.proofs.lemmas.Bool.{le-ltb}
use Rattle.std.proofs.lemmas.Fmt.{length-decimal-le}
use Rattle.std.specs.Option.{ok_or}
use Rattle.std.specs.Str.{IsUtf8}
use Rattle.base64.specs.GeneralPurpose.{encode_of, decode_of}
use Rattle.base64.specs.Engines.{standard}
use Rattle.base64.specs.Rfc4648.{encode_symbols, padding_len}
use Rattle.base64.proofs.RoundTrip.{length-encode_symbols}
use Rattle.json.specs.Print.{escape_byte}
use Rattle.serde_json.specs.Data.{Data}
use Rattle.serde_json.specs.Read.{read}
use Rattle.serde_json.specs.Written.{compact_text}
use Rattle.aes_block.specs.Aes.{aes, inverse_aes}
use Rattle.key_wrap.specs.Wrap.{wrapped, unwrapped}
use Rattle.scrypt_kdf.specs.Scrypt.{IsCost, scrypt}
use Rattle.vault_keys.specs.Keys.{KeyPair}
use Rattle.json_members.specs.Members.{object_of, only_object}
use Rattle.json_members.proofs.Escaped.{length-escape-le}
use Rattle.json_members.proofs.Objects.{object_of-read}
use Rattle.json_members.specs.Steps.{result_and_then}
use Rattle.masterkey_file.specs.KeyFile.{Fields, fields_in, is_good_cost, key_file, keys_in, keys_of, new_block_size, new_cost, new_parallelization, not_json, version_mac}
use Rattle.masterkey_file.specs.Written.{value_of_texts}
use Rattle.masterkey_file.proofs.Costs.{is_good_cost-unrefused}
use Rattle.masterkey_file.proofs.Members.{fields_of-short, keys_of-fields}

-- the members of a file with these texts
abbrev written_fields : List ℕ → List ℕ → List ℕ → Fields
written_fields mac enc salt = record { salt_bytes = salt; n = 32768; r = 8; wrapped_encryption_key = enc; wrapped_mac_key = mac }

-- a text is a key wrapped, in base64
pub record IsWrapped (kek key text : List ℕ) : Type 0 where
  pub encodes : text ≡ encode_of standard (wrapped (aes kek) key)
  pub decodes : decode_of standard text ≡ Ok (wrapped (aes kek) key)
  pub opens : unwrapped (inverse_aes kek) (wrapped (aes kek) key) ≡ Some key
  pub long : length (wrapped (aes kek) key) ≡ 40

pub IsWrapped-from : (kek key text other_key other_text : List ℕ) → text ≡ other_text → other_key ≡ key
    → other_text ≡ encode_of standard (wrapped (aes kek) other_key)
    → decode_of standard (encode_of standard (wrapped (aes kek) other_key)) ≡ Ok (wrapped (aes kek) other_key)
    → unwrapped (inverse_aes kek) (wrapped (aes kek) other_key) ≡ Some other_key → length (wrapped (aes kek) other_key) ≡ 40 → IsWrapped kek key text
IsWrapped-from kek key text other_key other_text same is encodes decodes opens long =
    let encoded : text ≡ encode_of standard (wrapped (aes kek) other_key) = same ∙ encodes in
    subst (λ (k : List ℕ). IsWrapped kek k text) is
    (record { encodes = encoded; decodes = ap (decode_of standard) encoded ∙ decodes; opens = opens; long = long })

pub key_file-texts : (keys : KeyPair) (password salt kek mac enc salted version : List ℕ) → kek ≡ scrypt password salt new_cost new_block_size new_parallelization 32
    → IsWrapped kek keys.mac mac → IsWrapped kek keys.enc enc → salted ≡ encode_of standard salt → version ≡ encode_of standard (version_mac keys)
    → compact_text (value_of_texts mac enc salted version) ≡ key_file keys password salt
unfolding key_file
key_file-texts keys password salt kek mac enc salted version key m e s v =
    let m' = m.encodes ∙ ap (λ (k : List ℕ). encode_of standard (wrapped (aes k) keys.mac)) key in
    let e' = e.encodes ∙ ap (λ (k : List ℕ). encode_of standard (wrapped (aes k) keys.enc)) key in
    λ i. compact_text (value_of_texts (m' i) (e' i) (s i) (v i))

-- ---- how long it is

length-encode_of-le : (bytes : List ℕ) → length (encode_of standard bytes) ≤ 2 * length bytes + 4
length-encode_of-le bytes =
    omega (arith, length-append (encode_symbols standard.encode_table bytes) (replicate (padding_len (length bytes)) 61), length-encode_symbols standard.encode_table bytes, length-replicate {A = ℕ} (padding_len (length bytes)) 61)

length-texts-le : (mac enc salted version : List ℕ) → length mac ≤ 100 → length enc ≤ 100 → length salted ≤ 100 → length version ≤ 100
    → length (compact_text (value_of_texts mac enc salted version)) ≤ 65536
unfolding escape_byte
length-texts-le mac enc salted version m e s v =
    let block : length (decimal 8) ≤ 1 = length-decimal-le 1 8 (omega arith) (omega arith) (omega arith) in
    let cost : length (decimal 32768) ≤ 5 = length-decimal-le 5 32768 (omega arith) (omega arith) (omega arith) in
    let number : length (decimal 999) ≤ 3 = length-decimal-le 3 999 (omega arith) (omega arith) (omega arith) in
    simp length-append (omega (arith, length-escape-le mac, length-escape-le enc, length-escape-le salted, length-escape-le version))

length-wrapped_text : (kek key text : List ℕ) → IsWrapped kek key text → length text ≤ 100
length-wrapped_text kek key text w = omega (arith, ap (λ (t : List ℕ). length t) w.encodes, length-encode_of-le (wrapped (aes kek) key), w.long)

length-encoded : (bytes text : List ℕ) → text ≡ encode_of standard bytes → length bytes ≤ 48 → length text ≤ 100
length-encoded bytes text is short = omega (arith, ap (λ (t : List ℕ). length t) is, length-encode_of-le bytes)

-- ---- what it reads as

pub object_of-texts : (bytes text : List ℕ) (value : Data) (mac enc salted version : List ℕ) → bytes ≡ text → IsUtf8 text → read text ≡ Some value
    → value ≡ value_of_texts mac enc salted version → object_of bytes ≡ Some (value_of_texts mac enc salted version)
object_of-texts bytes text value mac enc salted version same utf8 reads is = ap object_of same ∙ object_of-read text value utf8 reads ∙ ap only_object is

fields_in-texts : (mac enc salt mac_text enc_text salted version : List ℕ) → decode_of standard mac_text ≡ Ok mac → decode_of standard enc_text ≡ Ok enc
    → decode_of standard salted ≡ Ok salt → length mac ≡ 40 → length enc ≡ 40 → length salt ≡ 8
    → fields_in (value_of_texts mac_text enc_text salted version) ≡ Ok (written_fields mac enc salt)
fields_in-texts mac enc salt mac_text enc_text salted version m e s long_mac long_enc long = rw (s, long, e, long_enc, m, long_mac) refl

good_cost : is_good_cost 32768 8 ≡ true
good_cost =
    let cost : IsCost new_cost new_block_size new_parallelization = record { power = 15; above = lit< tt; is_power = refl; block = lit< tt; parts = lit< tt } in
    is_good_cost-unrefused 32768 8 (λ not. not cost) (λ large. elim large.1 [ inl table ↦ absurd (omega arith) | inr parts ↦ absurd (omega arith) ])

-- the members that are written open to the keys
keys_in-written : (keys : KeyPair) (password salt kek : List ℕ) → kek ≡ scrypt password salt new_cost new_block_size new_parallelization 32
    → unwrapped (inverse_aes kek) (wrapped (aes kek) keys.mac) ≡ Some keys.mac → unwrapped (inverse_aes kek) (wrapped (aes kek) keys.enc) ≡ Some keys.enc
    → keys_in password (written_fields (wrapped (aes kek) keys.mac) (wrapped (aes kek) keys.enc) salt) ≡ Ok keys
keys_in-written keys password salt kek key m e = rw (good_cost, ← key, e, m) refl

-- the written file opens to the keys
pub keys_of-texts : (keys : KeyPair) (password salt kek bytes mac enc salted version : List ℕ) → kek ≡ scrypt password salt new_cost new_block_size new_parallelization 32
    → IsWrapped kek keys.mac mac → IsWrapped kek keys.enc enc → salted ≡ encode_of standard salt → decode_of standard salted ≡ Ok salt → length salt ≡ 8
    → version ≡ encode_of standard (version_mac keys) → length (version_mac keys) ≡ 32
    → bytes ≡ compact_text (value_of_texts mac enc salted version) → object_of bytes ≡ Some (value_of_texts mac enc salted version)
    → keys_of bytes password ≡ Ok keys
keys_of-texts keys password salt kek bytes mac enc salted version key m e s decodes long v long_mac is reads =
    let short : length bytes ≤ 65536 = omega (
      arith,
      ap (λ (t : List ℕ). length t) is,
      length-texts-le mac enc salted version (length-wrapped_text kek keys.mac mac m) (length-wrapped_text kek keys.enc enc e)
          (length-encoded salt salted s (omega arith)) (length-encoded (version_mac keys) version v (omega arith)),
    ) in
    let fields = written_fields (wrapped (aes kek) keys.mac) (wrapped (aes kek) keys.enc) salt in
    let found = fields_of-short bytes (le-ltb 65536 (length bytes) short) ∙ ap (λ (found : Option Data). result_and_then fields_in (ok_or found not_json)) reads
    ∙ fields_in-texts (wrapped (aes kek) keys.mac) (wrapped (aes kek) keys.enc) salt mac enc salted version m.decodes e.decodes decodes m.long e.long long in
    keys_of-fields bytes password fields found ∙ keys_in-written keys password salt kek key m.opens e.opens
