-- Headers and chunks, opened from the parts that are read off.
use Rattle.std.proofs.Common.{◌≡◌, ℕ, ◌+◌, ◌≤◌, List, [], length, take, drop, Option, Some, refl, sym, ◌∙◌, arith, length-drop}
use Rattle.std.specs.Option.{option_map}
use Rattle.std.proofs.lemmas.List.{take_all}
use Rattle.aes_block.specs.Aes.{aes}
use Rattle.gcm_mode.specs.Gcm.{gcm_opened}
use Rattle.vault_keys.specs.Keys.{KeyPair}
use Rattle.file_chunks.specs.Header.{head_of, header_opens}
use Rattle.file_chunks.proofs.KeptLengths.{keeps_length}

-- a tag read off the end is all that is there
pub tag_behind : (bytes tag : List ℕ) (n : ℕ) → length bytes ≤ n + 16 → tag ≡ take 16 (drop n bytes) → tag ≡ drop n bytes
tag_behind bytes tag n end read =
    read ∙ take_all 16 (drop n bytes) (omega (arith, length-drop n bytes))

-- what a header opens to, by what its ciphertext opens to
pub header_read : (keys : KeyPair) (bytes key nonce tag : List ℕ) (opened : Option (List ℕ)) → length bytes ≡ 68 → key ≡ keys.enc
    → nonce ≡ take 12 bytes → tag ≡ take 16 (drop 52 bytes) → opened ≡ gcm_opened (aes key) nonce [] (take 40 (drop 12 bytes)) tag
    → option_map (head_of bytes) opened ≡ header_opens keys bytes
unfolding header_opens
header_read keys bytes key nonce tag opened long key_is nonce_is tag_is is =
    let last : tag ≡ drop 52 bytes = tag_behind bytes tag 52 (omega arith) tag_is in
    rw (is, key_is, nonce_is, last, long) refl

-- what opens is as long as its ciphertext
pub length-opened : (key nonce text tag plaintext : List ℕ) → length key ≡ 32 → Some plaintext ≡ gcm_opened (aes key) nonce [] text tag → length plaintext ≡ length text
length-opened key nonce text tag plaintext long is = keeps_length key nonce [] text tag plaintext long (sym is)
