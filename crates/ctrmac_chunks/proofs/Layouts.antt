-- Headers and chunks as nonce, ciphertext and HMAC.
use Rattle.std.proofs.Common.{◌≡◌, ℕ, ◌+◌, List, [], ◌++◌, length, take, drop, replicate, Some, Option, refl, ap, ◌∙◌, arith, length-drop}
use Rattle.std.specs.Option.{option_map}
use Rattle.std.proofs.lemmas.List.{append-nil, take_all, drop_all}
use borrow.Rule.Slice.PartMut.{put_mid}
use Rattle.aes_block.specs.Aes.{aes}
use Rattle.aes_block.specs.Bytes.{bytes_of}
use Rattle.vault_keys.specs.Keys.{KeyPair}
use Rattle.ctrmac_chunks.specs.Envelope.{envelope_opens, sealed_envelope}
use Rattle.ctrmac_chunks.specs.Header.{Head, head_of, header_opens, sealed_header}
use Rattle.ctrmac_chunks.specs.Chunk.{bound_to, chunk_opens, sealed_chunk}
use Rattle.ctrmac_chunks.proofs.Envelopes.{put_mid-append}

-- a nonce and an index, each copied to its place
pub bound_to_is : (head : Head) (index : ℕ) (front back : List ℕ) → length front ≡ 16 → front ≡ head.nonce → back ≡ bytes_of 8 index
    → put_mid 16 8 (front ++ replicate 8 0) back ≡ bound_to head index
bound_to_is head index front back long f b =
    put_mid-append front (replicate 8 0) back 16 8 long ∙ ap (λ (r : List ℕ). front ++ r) (append-nil back) ∙ (λ i. f i ++ b i)

-- a chunk opens as its envelope does
pub chunk_opens_is : (head : Head) (index : ℕ) (key mac bound sealed : List ℕ) (answer : Option (List ℕ)) → key ≡ head.key → mac ≡ head.mac
    → bound ≡ bound_to head index → envelope_opens (aes key) mac bound sealed ≡ answer → chunk_opens head index sealed ≡ answer
unfolding chunk_opens
chunk_opens_is head index key mac bound sealed answer k m b opened = rw (k, m, b) at opened

-- a chunk is sealed as its envelope is
pub sealed_chunk_is : (head : Head) (index : ℕ) (key mac bound nonce plaintext out rest : List ℕ) → key ≡ head.key → mac ≡ head.mac
    → bound ≡ bound_to head index → take 16 out ≡ nonce → out ≡ sealed_envelope (aes key) mac bound nonce plaintext ++ rest
    → out ≡ sealed_chunk head index (take 16 out) plaintext ++ rest
unfolding sealed_chunk
sealed_chunk_is head index key mac bound nonce plaintext out rest k m b front sealed = rw front (rw (k, m, b) at sealed)

-- a header opens as its envelope does
pub header_opens_is : (keys : KeyPair) (key mac bytes : List ℕ) (answer : Option (List ℕ)) → key ≡ keys.enc → mac ≡ keys.mac
    → envelope_opens (aes key) mac [] bytes ≡ answer → header_opens keys bytes ≡ option_map (head_of keys bytes) answer
unfolding header_opens
header_opens_is keys key mac bytes answer k m opened = ap (option_map (head_of keys bytes)) (rw (k, m) at opened)

-- the nonce and the content key are read off
pub header_read : (keys : KeyPair) (key mac bytes payload nonce content : List ℕ) → length payload ≡ 40 → key ≡ keys.enc → mac ≡ keys.mac
    → nonce ≡ take 16 bytes → content ≡ take 32 (drop 8 payload) → envelope_opens (aes key) mac [] bytes ≡ Some payload
    → header_opens keys bytes ≡ Some (record { nonce = nonce; key = content; mac = mac })
header_read keys key mac bytes payload nonce content size k m front is opened =
    let whole : content ≡ drop 8 payload = is ∙ take_all 32 (drop 8 payload) (omega (arith, length-drop 8 payload)) in
    header_opens_is keys key mac bytes (Some payload) k m opened ∙ rw (front, whole, m) refl

-- a header that was sealed opens
pub new_header_opens : (keys : KeyPair) (key mac payload nonce content out : List ℕ) → length out ≡ 88 → length payload ≡ 40 → key ≡ keys.enc → mac ≡ keys.mac
    → take 16 out ≡ nonce → payload ≡ replicate 8 255 ++ content → envelope_opens (aes key) mac [] (take (length payload + 48) out) ≡ Some payload
    → header_opens keys out ≡ Some (record { nonce = nonce; key = content; mac = mac })
new_header_opens keys key mac payload nonce content out long size k m front is opened =
    let all : take (length payload + 48) out ≡ out = take_all (length payload + 48) out (omega arith) in
    let whole : envelope_opens (aes key) mac [] out ≡ Some payload = rw all at opened in
    let key_is : drop 8 payload ≡ content = ap (drop 8) is in
    header_opens_is keys key mac out (Some payload) k m whole ∙ rw (front, key_is, m) refl

-- what is sealed is the header
pub new_header_is : (keys : KeyPair) (key mac payload nonce content out zeros : List ℕ) → length zeros ≡ 88 → length payload ≡ 40 → key ≡ keys.enc → mac ≡ keys.mac
    → payload ≡ replicate 8 255 ++ content → out ≡ sealed_envelope (aes key) mac [] nonce payload ++ drop (length payload + 48) zeros
    → out ≡ sealed_header keys (record { nonce = nonce; key = content; mac = mac })
unfolding sealed_header
new_header_is keys key mac payload nonce content out zeros long size k m is sealed =
    let none : drop (length payload + 48) zeros ≡ [] = drop_all (length payload + 48) zeros (omega arith) in
    sealed ∙ ap (λ (r : List ℕ). sealed_envelope (aes key) mac [] nonce payload ++ r) none
    ∙ append-nil (sealed_envelope (aes key) mac [] nonce payload)
    ∙ rw (k, m, is) refl
