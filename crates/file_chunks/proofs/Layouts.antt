-- Headers and chunks as nonce, ciphertext and tag.
use Rattle.std.proofs.Common.{◌≡◌, ℕ, ◌+◌, List, [], ◌++◌, length, take, drop, replicate, Some, None, Option, refl, ap, ◌∙◌, arith, length-drop}
use Rattle.std.specs.Option.{option_map}
use Rattle.std.proofs.lemmas.List.{append-nil, take_all, drop_all}
use borrow.Rule.Slice.PartMut.{put_mid}
use Rattle.aes_block.specs.Bytes.{bytes_of}
use Rattle.vault_keys.specs.Keys.{KeyPair}
use Rattle.file_chunks.specs.Envelope.{envelope_opens, sealed_envelope}
use Rattle.file_chunks.specs.Header.{Head, head_of, header_opens, sealed_header}
use Rattle.file_chunks.specs.Chunk.{associated_data, chunk_opens, sealed_chunk}
use Rattle.file_chunks.proofs.Envelopes.{put_mid-append}

-- an index and a nonce, each copied to its place
pub associated_data_is : (head : Head) (index : ℕ) (front back : List ℕ) → front ≡ bytes_of 8 index → back ≡ head.nonce
    → put_mid 8 12 (front ++ replicate 12 0) back ≡ associated_data head index
associated_data_is head index front back f b = rw (f, b, put_mid-append (bytes_of 8 index) (replicate 12 0) head.nonce 8 12 refl, append-nil head.nonce) refl

-- a chunk opens as its envelope does
pub chunk_opens_is : (head : Head) (index : ℕ) (key ad sealed : List ℕ) (answer : Option (List ℕ)) → key ≡ head.key → ad ≡ associated_data head index
    → envelope_opens key ad sealed ≡ answer → chunk_opens head index sealed ≡ answer
unfolding chunk_opens
chunk_opens_is head index key ad sealed answer k d opened = rw (k, d) at opened

-- a chunk is sealed as its envelope is
pub sealed_chunk_is : (head : Head) (index : ℕ) (key ad nonce plaintext out rest : List ℕ) → key ≡ head.key → ad ≡ associated_data head index
    → take 12 out ≡ nonce → out ≡ sealed_envelope key ad nonce plaintext ++ rest → out ≡ sealed_chunk head index (take 12 out) plaintext ++ rest
unfolding sealed_chunk
sealed_chunk_is head index key ad nonce plaintext out rest k d front sealed = rw front (rw (k, d) at sealed)

-- a header opens as its envelope does
pub header_opens_is : (keys : KeyPair) (key bytes : List ℕ) (answer : Option (List ℕ)) → key ≡ keys.enc
    → envelope_opens key [] bytes ≡ answer → header_opens keys bytes ≡ option_map (head_of bytes) answer
unfolding header_opens
header_opens_is keys key bytes answer k opened = ap (option_map (head_of bytes)) (rw k at opened)

-- a header whose tag differs
pub header_damaged : (keys : KeyPair) (key bytes : List ℕ) → key ≡ keys.enc → envelope_opens key [] bytes ≡ None → header_opens keys bytes ≡ None
header_damaged keys key bytes k opened = header_opens_is keys key bytes None k opened

-- the nonce and the content key are read off
pub header_read : (keys : KeyPair) (key bytes payload nonce content : List ℕ) → length payload ≡ 40 → key ≡ keys.enc
    → nonce ≡ take 12 bytes → content ≡ take 32 (drop 8 payload) → envelope_opens key [] bytes ≡ Some payload
    → header_opens keys bytes ≡ Some (record { nonce = nonce; key = content })
header_read keys key bytes payload nonce content size k front is opened =
    let whole : content ≡ drop 8 payload = is ∙ take_all 32 (drop 8 payload) (omega (arith, length-drop 8 payload)) in
    header_opens_is keys key bytes (Some payload) k opened ∙ rw (front, whole) refl

-- a header that was sealed opens
pub new_header_opens : (keys : KeyPair) (key payload nonce content out : List ℕ) → length out ≡ 68 → length payload ≡ 40 → key ≡ keys.enc
    → take 12 out ≡ nonce → payload ≡ replicate 8 255 ++ content → envelope_opens key [] (take (length payload + 28) out) ≡ Some payload
    → header_opens keys out ≡ Some (record { nonce = nonce; key = content })
new_header_opens keys key payload nonce content out long size k front is opened =
    let all : take (length payload + 28) out ≡ out = take_all (length payload + 28) out (omega arith) in
    let whole : envelope_opens key [] out ≡ Some payload = rw all at opened in
    let key_is : drop 8 payload ≡ content = ap (drop 8) is in
    header_opens_is keys key out (Some payload) k whole ∙ rw (front, key_is) refl

-- what is sealed is the header
pub new_header_is : (keys : KeyPair) (key payload nonce content out zeros : List ℕ) → length zeros ≡ 68 → length payload ≡ 40 → key ≡ keys.enc
    → payload ≡ replicate 8 255 ++ content → out ≡ sealed_envelope key [] nonce payload ++ drop (length payload + 28) zeros
    → out ≡ sealed_header keys (record { nonce = nonce; key = content })
unfolding sealed_header
new_header_is keys key payload nonce content out zeros long size k is sealed =
    let none : drop (length payload + 28) zeros ≡ [] = drop_all (length payload + 28) zeros (omega arith) in
    sealed ∙ ap (λ (r : List ℕ). sealed_envelope key [] nonce payload ++ r) none
    ∙ append-nil (sealed_envelope key [] nonce payload)
    ∙ rw (k, is) refl
