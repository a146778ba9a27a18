use Rattle.std.proofs.Common.{◌≡◌, ℕ, ◌+◌, ◌-◌, length, take, drop, Some, true≢false, ap, sym, ◌∙◌, arith}
use Rattle.aes_block.specs.Bytes.{number_of}
use Rattle.aes_block.proofs.BlockNumbers.{from_be_bytes_block}
use Rattle.ctr_mode.specs.Counter.{counted}
use Rattle.ctrmac_chunks.proofs.Envelopes.{opens_same, opens_other}
use Rattle.ctrmac_chunks.proofs.envelope.open_into.Goals as goal

pub returns-then-not-bytes_equal-clause-damaged : goal.returns-then-not-bytes_equal-clause-damaged
returns-then-not-bytes_equal-clause-damaged g c =
    opens_other (g.K.BlockKey.cipher c.args.key.now) c.args.mac.now c.args.bound.now c.args.sealed.now c.hmac256_of_pieces-tag.result (length c.args.out.now)
    c.requires c.hmac256_of_pieces-tag.ensures (λ same. true≢false (sym (c.bytes_equal.ensures.1 same) ∙ c.if-not-bytes_equal.true))

pub returns-clause-opened : goal.returns-clause-opened
returns-clause-opened g c =
    let cipher = g.K.BlockKey.cipher c.args.key.now in
    let sealed = c.args.sealed.now in
    let n : ℕ = length c.args.out.now in
    let nonce : c.from_be_bytes.result ≡ number_of (take 16 sealed) = c.from_be_bytes.ensures ∙ from_be_bytes_block c.array_at.result (omega arith) ∙ ap number_of c.array_at.ensures in
    let text : c.copy_from_slice.new.self ≡ take (16 + n - 16) (drop 16 sealed) = c.copy_from_slice.ensures.after in
    opens_same cipher c.args.mac.now c.args.bound.now sealed c.hmac256_of_pieces-tag.result n c.requires c.hmac256_of_pieces-tag.ensures (c.bytes_equal.ensures.0 c.if-not-bytes_equal.false)
    ∙ ap Some (sym (c.apply_keystream.ensures ∙ (λ i. counted cipher (nonce i) (text i))))
