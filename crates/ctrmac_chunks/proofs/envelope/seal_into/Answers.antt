use Rattle.std.proofs.Common.{◌≡◌, ℕ, ◌+◌, ◌-◌, List, ◌++◌, length, take, drop, ap, ◌∙◌, arith, length-append}
use Rattle.std.proofs.lemmas.List.{take_at, append_assoc}
use borrow.Rule.Slice.PartMut.{put_mid}
use Rattle.aes_block.specs.Bytes.{number_of}
use Rattle.aes_block.proofs.BlockNumbers.{from_be_bytes_block}
use Rattle.ctr_mode.specs.Counter.{counted}
use Rattle.ctr_mode.proofs.Counters.{length-counted}
use Rattle.ctrmac_chunks.specs.Envelope.{counted_from, envelope_opens, sealed_envelope, tag_of}
use Rattle.ctrmac_chunks.proofs.Envelopes.{copied, counted_over, length-sealed_envelope, opens_sealed, tag_after}
use Rattle.ctrmac_chunks.proofs.envelope.seal_into.Goals as goal

pub returns : goal.returns
returns g c =
    let cipher = g.K.BlockKey.cipher c.args.key.now in
    let blocks = c.makes_blocks.ensures.cipher in
    let mac = c.args.mac.now in
    let bound = c.args.bound.now in
    let nonce = c.args.nonce.now in
    let plaintext = c.args.plaintext.now in
    let out = c.args.out.now in
    let n : ℕ = length plaintext in
    let e : ℕ = 16 + n - 16 in
    let t : ℕ = 16 + n + 32 - (16 + n) in
    let text = counted_from cipher nonce plaintext in
    let tag = tag_of mac bound (nonce ++ text) in
    let sealed = sealed_envelope cipher mac bound nonce plaintext in
    let rest = drop (n + 48) out in
    let long : length nonce ≡ 16 = c.told-nonce in
    let size : e ≡ n = omega arith in
    let first : c.copy_from_slice.new.self ≡ nonce = c.copy_from_slice.ensures.after in
    let second : c.copy_from_slice-2.new.self ≡ plaintext = c.copy_from_slice-2.ensures.after in
    let fourth : c.copy_from_slice-3.new.self ≡ c.hmac256_of_pieces-tag.result = c.copy_from_slice-3.ensures.after in
    let counter : c.from_be_bytes.result ≡ number_of nonce = c.from_be_bytes.ensures ∙ from_be_bytes_block nonce long in
    let was : take e (drop 16 (put_mid 16 e (c.copy_from_slice.new.self ++ drop 16 out) c.copy_from_slice-2.new.self)) ≡ plaintext =
    (λ i. take e (drop 16 (put_mid 16 e (first i ++ drop 16 out) (second i)))) ∙ copied nonce plaintext out e e long size in
    let third : c.apply_keystream.new.text ≡ text = c.apply_keystream.ensures ∙ (λ i. counted cipher (counter i) (was i)) in
    let text_long : length text ≡ n = length-counted cipher (number_of nonce) plaintext blocks in
    let front_long : length (nonce ++ text) ≡ 16 + n = length-append nonce text ∙ omega arith in
    let front : put_mid 16 e (put_mid 16 e (c.copy_from_slice.new.self ++ drop 16 out) c.copy_from_slice-2.new.self) c.apply_keystream.new.text ≡ nonce ++ text ++ drop (16 + n) out =
    (λ i. put_mid 16 e (put_mid 16 e (first i ++ drop 16 out) (second i)) (third i)) ∙ counted_over nonce plaintext text out e long size text_long in
    let made : c.hmac256_of_pieces-tag.result ≡ tag =
    c.hmac256_of_pieces-tag.ensures ∙ (λ i. tag_of mac bound (take (16 + n) (front i))) ∙ ap (tag_of mac bound) (take_at (nonce ++ text) (drop (16 + n) out) (16 + n) front_long) in
    let last : c.copy_from_slice-3.new.self ≡ tag = fourth ∙ made in
    let whole : put_mid (16 + n) t (put_mid 16 e (put_mid 16 e (c.copy_from_slice.new.self ++ drop 16 out) c.copy_from_slice-2.new.self) c.apply_keystream.new.text) c.copy_from_slice-3.new.self ≡ sealed ++ rest =
    (λ i. put_mid (16 + n) t (front i) (last i)) ∙ tag_after (nonce ++ text) tag out n front_long in
    record {
      sealed = whole;
      nonce = ap (take 16) (whole ∙ append_assoc (nonce ++ text) tag rest ∙ append_assoc nonce text (tag ++ rest)) ∙ take_at nonce (text ++ (tag ++ rest)) 16 long;
      opens = ap (λ (o : List ℕ). envelope_opens cipher mac bound (take (n + 48) o)) whole
          ∙ ap (envelope_opens cipher mac bound) (take_at sealed rest (n + 48) (length-sealed_envelope cipher mac bound nonce plaintext blocks long))
          ∙ opens_sealed cipher mac bound nonce plaintext blocks long;
    }
