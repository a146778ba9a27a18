-- What is written: its text, and that it reads back.
use Rattle.std.proofs.Common.{◌≡◌, ℕ, ◌≤◌, nat_lt, nat_le, true, List, [], ◌∷◌, ◌++◌, length, Some, Ok, decimal, refl, sym, ap, subst, ◌∙◌, arith}
use Rattle.std.proofs.lemmas.List.{append_assoc, length-append}
use Rattle.std.proofs.lemmas.Bool.{lt-ltb, le-leb}
use Rattle.std.proofs.lemmas.Fmt.{length-decimal-le}
use Rattle.std.proofs.lemmas.Slice.Eq.{bytes_eq-Decides}
use Rattle.std.specs.Option.{option_and_then}
use Rattle.std.specs.Result.{result_ok}
use Rattle.std.specs.Str.{IsUtf8, bytes_eq}
use Rattle.base64.specs.GeneralPurpose.{decode_of}
use Rattle.base64.specs.Engines.{url_safe_no_pad}
use Rattle.json.specs.Print.{escape_byte}
use Rattle.serde_json.specs.Data.{Data}
use Rattle.serde_json.specs.Read.{read}
use Rattle.serde_json.specs.Written.{compact_text}
use Rattle.json_members.specs.Members.{only_object, object_of}
use Rattle.json_members.proofs.Escaped.{length-escape-le}
use Rattle.json_members.proofs.Objects.{object_of-read}
use Rattle.vault_layout.specs.Limits.{max_threshold}
use Rattle.vault_keys.specs.Keys.{KeyPair}
use Rattle.vault_config.specs.Token.{Token, trimmed, pieces_of, decoded, decoded_object, token_of, hs256, signature_of}
use Rattle.vault_config.specs.Config.{piece_of, signed_text, signing_key, written_header, written_claims, token_checked, config_file, config_of}
use Rattle.vault_config.proofs.Parts.{trimmed-spaceless}
use Rattle.vault_config.proofs.Reading.{token_of-whole, checked_some, config_of-short}
use Rattle.vault_config.proofs.Symbols.{length-piece_of-le, plain-piece_of, pieces_of-joined, pieces_of-plain, spaceless-plain, spaceless-joined}

decoded-Ok : (piece text : List ℕ) → decode_of url_safe_no_pad piece ≡ Ok text → decoded piece ≡ Some text
decoded-Ok piece text is = ap result_ok is

pub decoded_object-read : (piece text bytes : List ℕ) (d : Data) → decode_of url_safe_no_pad piece ≡ Ok bytes → bytes ≡ text → IsUtf8 text → read text ≡ Some d
    → decoded_object piece ≡ only_object d
decoded_object-read piece text bytes d is same utf8 found =
    ap (option_and_then object_of) (decoded-Ok piece bytes is ∙ ap Some same) ∙ object_of-read text d utf8 found

-- a file was joined of a text, whose other spelling was signed under another spelling of the identifier
pub record IsJoined (keys : KeyPair) (threshold : ℕ) (identifier file text other id signature : List ℕ) : Type 0 where
  pub joined : file ≡ text ++ 46 ∷ signature
  pub is : text ≡ signed_text threshold id
  pub same : other ≡ text
  pub encoded : signature ≡ piece_of (signature_of hs256 (signing_key keys) other)
  pub named : id ≡ identifier

pub config_file-joined : {keys : KeyPair} {threshold : ℕ} {identifier file text other id signature : List ℕ} → IsJoined keys threshold identifier file text other id signature → file ≡ config_file keys threshold identifier
unfolding config_file
config_file-joined {keys = keys} {threshold = threshold} {identifier = identifier} {text = text} {signature = signature} file =
    let text_is : text ≡ signed_text threshold identifier = file.is ∙ ap (signed_text threshold) file.named in
    let signature_is : signature ≡ piece_of (signature_of hs256 (signing_key keys) (signed_text threshold identifier)) =
    file.encoded ∙ ap (λ t. piece_of (signature_of hs256 (signing_key keys) t)) (file.same ∙ text_is) in
    file.joined ∙ (λ i. text_is i ++ 46 ∷ signature_is i)

-- ---- how long it is

length-header : length (compact_text written_header) ≤ 100
unfolding escape_byte
length-header = omega arith

length-claims-le : (threshold : ℕ) (identifier : List ℕ) → threshold ≤ max_threshold → length identifier ≤ 36 → length (compact_text (written_claims threshold identifier)) ≤ 1000
unfolding escape_byte
length-claims-le threshold identifier small short =
    let number : length (decimal threshold) ≤ 3 = length-decimal-le 3 threshold (omega arith) (omega arith) (omega arith) in
    let eight : length (decimal 8) ≤ 1 = length-decimal-le 1 8 (omega arith) (omega arith) (omega arith) in
    simp length-append (omega (arith, length-escape-le identifier))

length-config_file-le : (keys : KeyPair) (threshold : ℕ) (identifier : List ℕ) → threshold ≤ max_threshold → length identifier ≤ 36
    → length (signature_of hs256 (signing_key keys) (signed_text threshold identifier)) ≡ 32 → length (config_file keys threshold identifier) ≤ 65536
unfolding config_file
length-config_file-le keys threshold identifier small short long =
    let signature = signature_of hs256 (signing_key keys) (signed_text threshold identifier) in
    let header = compact_text written_header in
    let claims = compact_text (written_claims threshold identifier) in
    omega (
      arith,
      length-append (signed_text threshold identifier) (46 ∷ piece_of signature),
      length-append (piece_of header) (46 ∷ piece_of claims),
      length-piece_of-le header,
      length-piece_of-le claims,
      length-piece_of-le signature,
      length-header,
      length-claims-le threshold identifier small short,
      long,
    )

-- ---- what it reads as

abbrev written_token : KeyPair → ℕ → List ℕ → Token
written_token keys threshold identifier = record {
  text = signed_text threshold identifier;
  header = written_header;
  claims = written_claims threshold identifier;
  signature = signature_of hs256 (signing_key keys) (signed_text threshold identifier);
}

pieces_of-config_file : (keys : KeyPair) (threshold : ℕ) (identifier : List ℕ)
    → pieces_of (config_file keys threshold identifier)
    ≡ piece_of (compact_text written_header) ∷ piece_of (compact_text (written_claims threshold identifier))
    ∷ piece_of (signature_of hs256 (signing_key keys) (signed_text threshold identifier)) ∷ []
unfolding config_file
pieces_of-config_file keys threshold identifier =
    let header = piece_of (compact_text written_header) in
    let claims = piece_of (compact_text (written_claims threshold identifier)) in
    let signature = piece_of (signature_of hs256 (signing_key keys) (signed_text threshold identifier)) in
    ap pieces_of (append_assoc header (46 ∷ claims) (46 ∷ signature)) ∙ pieces_of-joined header (claims ++ 46 ∷ signature) (plain-piece_of (compact_text written_header))
    ∙ ap (λ ps. header ∷ ps) (pieces_of-joined claims signature (plain-piece_of (compact_text (written_claims threshold identifier))))
    ∙ ap (λ ps. header ∷ claims ∷ ps) (pieces_of-plain signature (plain-piece_of (signature_of hs256 (signing_key keys) (signed_text threshold identifier))))

trimmed-config_file : (keys : KeyPair) (threshold : ℕ) (identifier : List ℕ) → config_file keys threshold identifier ≡ trimmed (config_file keys threshold identifier)
unfolding config_file
trimmed-config_file keys threshold identifier =
    let header = compact_text written_header in
    let claims = compact_text (written_claims threshold identifier) in
    let signature = signature_of hs256 (signing_key keys) (signed_text threshold identifier) in
    sym (trimmed-spaceless (config_file keys threshold identifier)
    (spaceless-joined (signed_text threshold identifier) (piece_of signature)
    (spaceless-joined (piece_of header) (piece_of claims) (spaceless-plain (piece_of header) (plain-piece_of header)) (spaceless-plain (piece_of claims) (plain-piece_of claims)))
    (spaceless-plain (piece_of signature) (plain-piece_of signature))))

token_of-config_file : (keys : KeyPair) (threshold : ℕ) (identifier : List ℕ)
    → decoded_object (piece_of (compact_text written_header)) ≡ Some written_header
    → decoded_object (piece_of (compact_text (written_claims threshold identifier))) ≡ Some (written_claims threshold identifier)
    → decoded (piece_of (signature_of hs256 (signing_key keys) (signed_text threshold identifier))) ≡ Some (signature_of hs256 (signing_key keys) (signed_text threshold identifier))
    → token_of (config_file keys threshold identifier) ≡ Some (written_token keys threshold identifier)
token_of-config_file keys threshold identifier header claims signature =
    token_of-whole (config_file keys threshold identifier) (config_file keys threshold identifier) (signed_text threshold identifier) _ _ _ _ _ _
    (trimmed-config_file keys threshold identifier) (pieces_of-config_file keys threshold identifier) refl (sym header) (sym claims) signature

checked-written : (keys : KeyPair) (threshold : ℕ) (identifier : List ℕ) → 1 ≤ threshold → threshold ≤ max_threshold
    → token_checked keys (written_token keys threshold identifier) ≡ Ok threshold
checked-written keys threshold identifier low high =
    let signature = signature_of hs256 (signing_key keys) (signed_text threshold identifier) in
    let same : bytes_eq signature signature ≡ true = (bytes_eq-Decides signature signature).1 refl in
    let above : nat_lt 0 threshold ≡ true = lt-ltb 0 threshold (omega arith) in
    let below : nat_le threshold max_threshold ≡ true = le-leb threshold max_threshold high in
    rw (same, above, below) refl

config_of-config_file : (keys : KeyPair) (threshold : ℕ) (identifier : List ℕ) → 1 ≤ threshold → threshold ≤ max_threshold → length identifier ≤ 36
    → decoded_object (piece_of (compact_text written_header)) ≡ Some written_header
    → decoded_object (piece_of (compact_text (written_claims threshold identifier))) ≡ Some (written_claims threshold identifier)
    → decoded (piece_of (signature_of hs256 (signing_key keys) (signed_text threshold identifier))) ≡ Some (signature_of hs256 (signing_key keys) (signed_text threshold identifier))
    → length (signature_of hs256 (signing_key keys) (signed_text threshold identifier)) ≡ 32
    → config_of keys (config_file keys threshold identifier) ≡ Ok threshold
config_of-config_file keys threshold identifier low high short header claims signature long =
    config_of-short keys (config_file keys threshold identifier) (length-config_file-le keys threshold identifier high short long)
    ∙ checked_some keys (token_of (config_file keys threshold identifier)) (written_token keys threshold identifier) (token_of-config_file keys threshold identifier header claims signature)
    ∙ checked-written keys threshold identifier low high

pub config_of-joined : {keys : KeyPair} {threshold : ℕ} {identifier file text other id signature : List ℕ} → IsJoined keys threshold identifier file text other id signature
    → 1 ≤ threshold → threshold ≤ max_threshold → length identifier ≤ 36
    → decoded_object (piece_of (compact_text written_header)) ≡ Some written_header
    → decoded_object (piece_of (compact_text (written_claims threshold id))) ≡ Some (written_claims threshold id)
    → decoded signature ≡ Some (signature_of hs256 (signing_key keys) other) → length (signature_of hs256 (signing_key keys) other) ≡ 32
    → config_of keys file ≡ Ok threshold
config_of-joined {keys = keys} {threshold = threshold} {identifier = identifier} {other = other} file low high short header claims decodes long =
    let sign : List ℕ → List ℕ = λ t. signature_of hs256 (signing_key keys) t in
    let signed : other ≡ signed_text threshold identifier = file.same ∙ file.is ∙ ap (signed_text threshold) file.named in
    let reads : decoded (piece_of (sign other)) ≡ Some (sign other) = ap decoded (sym file.encoded) ∙ decodes in
    ap (config_of keys) (config_file-joined file)
    ∙ config_of-config_file keys threshold identifier low high short header
    (subst (λ (i : List ℕ). decoded_object (piece_of (compact_text (written_claims threshold i))) ≡ Some (written_claims threshold i)) file.named claims)
    (subst (λ (t : List ℕ). decoded (piece_of (signature_of hs256 (signing_key keys) t)) ≡ Some (signature_of hs256 (signing_key keys) t)) signed reads)
    (subst (λ (t : List ℕ). length (signature_of hs256 (signing_key keys) t) ≡ 32) signed long)
