use Rattle.std.proofs.Common.{◌≡◌, ℕ, ◌+◌, ◌-◌, List, ◌++◌, length, take, drop, Some, ap, ◌∙◌, arith}
use Rattle.std.proofs.lemmas.List.{take_at, append_assoc}
use borrow.Rule.Slice.PartMut.{put_mid}
use Rattle.aes_block.specs.Aes.{aes}
use Rattle.gcm_mode.specs.Gcm.{gcm_sealed}
use Rattle.file_chunks.specs.Envelope.{envelope_opens}
use Rattle.file_chunks.proofs.Envelopes.{written, copied, opens_written}
use Rattle.file_chunks.proofs.envelope.seal_into.Goals as goal

pub returns : goal.returns
returns g c =
    let key = g.K.GcmCipher.key c.args.key.now in
    let nonce = c.args.nonce.now in
    let ad = c.args.ad.now in
    let plaintext = c.args.plaintext.now in
    let out = c.args.out.now in
    let buf = c.seal_in_place-tag.new.buf in
    let tag = c.seal_in_place-tag.result in
    let first : c.copy_from_slice.new.self ≡ nonce = c.copy_from_slice.ensures.after in
    let second : c.copy_from_slice-2.new.self ≡ plaintext = c.copy_from_slice-2.ensures.after in
    let fourth : c.copy_from_slice-3.new.self ≡ tag = c.copy_from_slice-3.ensures.after in
    let long : length nonce ≡ 12 = c.told-nonce in
    let size : length tag ≡ 16 = omega arith in
    let end = 12 + length plaintext - 12 in
    let was : take end (drop 12 (put_mid 12 end (c.copy_from_slice.new.self ++ drop 12 out) c.copy_from_slice-2.new.self)) ≡ plaintext =
    (λ i. take end (drop 12 (put_mid 12 end (first i ++ drop 12 out) (second i)))) ∙ copied nonce plaintext out end end long (omega arith) in
    let same : length buf ≡ length plaintext = c.seal_in_place-tag.auto.buf ∙ ap length was in
    let rest = drop (length plaintext + 28) out in
    let whole : put_mid (12 + length plaintext) (12 + length plaintext + 16 - (12 + length plaintext)) (put_mid 12 end (put_mid 12 end (c.copy_from_slice.new.self ++ drop 12 out) c.copy_from_slice-2.new.self) buf) c.copy_from_slice-3.new.self
    ≡ nonce ++ (buf ++ tag) ++ rest =
    (λ i. put_mid (12 + length plaintext) (12 + length plaintext + 16 - (12 + length plaintext)) (put_mid 12 end (put_mid 12 end (first i ++ drop 12 out) (second i)) buf) (fourth i))
    ∙ written nonce plaintext buf tag out long same in
    record {
      sealed = whole ∙ ap (λ (r : List ℕ). nonce ++ r ++ rest) (c.seal_in_place-tag.ensures.sealed ∙ ap (gcm_sealed (aes key) nonce ad) was);
      nonce = ap (take 12) (whole ∙ append_assoc nonce (buf ++ tag) rest) ∙ take_at nonce (buf ++ tag ++ rest) 12 long;
      opens = ap (λ (o : List ℕ). envelope_opens key ad (take (length plaintext + 28) o)) whole
          ∙ opens_written key nonce ad plaintext buf tag out long same size (c.seal_in_place-tag.ensures.opens ∙ ap Some was);
    }
