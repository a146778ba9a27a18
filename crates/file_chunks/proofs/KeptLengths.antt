-- What GCM opens under AES-256 is as long as its ciphertext.
use Rattle.std.proofs.Common.{◌≡◌, ℕ, ◌-◌, Bool, true, false, cond, ltb, inl, inr, List, length, take, drop, Some, None, ap, sym, ◌∙◌, arith, length-drop, length-take}
use Rattle.std.specs.Str.{bytes_eq}
use Rattle.std.proofs.lemmas.Bool.{cases_Bool}
use Rattle.aes_block.specs.Aes.{aes}
use Rattle.aes_block.proofs.Lengths.{length-aes}
use Rattle.gcm_mode.specs.Gcm.{counted, gcm_opened, gcm_tag}
use Rattle.gcm_mode.proofs.Agreement.{length-counted}
use Rattle.file_chunks.specs.Envelope.{envelope_opens}
use Rattle.file_chunks.specs.File.{IsKey, KeepsLength}

text_of : (b : Bool) (text plaintext : List ℕ) → cond b (Some text) None ≡ Some plaintext → text ≡ plaintext
text_of true text plaintext opened = cc
text_of false text plaintext opened = absurd cc

-- what opens is as long as its ciphertext
pub keeps_length : KeepsLength
unfolding gcm_opened
keeps_length key nonce ad text tag plaintext long opened =
    ap length (sym (text_of (bytes_eq (gcm_tag (aes key) nonce ad text) tag) (counted (aes key) nonce text) plaintext opened)) ∙ length-counted (aes key) nonce text (λ block. length-aes key block (inr long))

-- what a nonce, a ciphertext and a tag open to is 28 bytes shorter than they are
pub length-envelope : (key ad sealed plaintext : List ℕ) → IsKey key → envelope_opens key ad sealed ≡ Some plaintext
    → length plaintext ≡ length sealed - 28
length-envelope key ad sealed plaintext long opened =
    elim (cases_Bool (ltb (length sealed) 28)) [
      | inl short ↦
          let none : None ≡ Some plaintext = rw short at opened in
          absurd cc
      | inr enough ↦
          let ciphertext : List ℕ = take (length sealed - 28) (drop 12 sealed) in
          let size : length (take (length sealed - 28) (drop 12 sealed)) ≡ length sealed - 28 =
          omega (arith, length-take (length sealed - 28) (drop 12 sealed), length-drop 12 sealed) in
          let opens : gcm_opened (aes key) (take 12 sealed) ad (take (length sealed - 28) (drop 12 sealed)) (drop (length sealed - 16) sealed) ≡ Some plaintext =
          rw enough at opened in
          keeps_length key (take 12 sealed) ad ciphertext (drop (length sealed - 16) sealed) plaintext long opens ∙ size
    ]
