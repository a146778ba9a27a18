use Rattle.std.proofs.Common.{◌≡◌, ℕ, ◌<◌, get_or, bit_xor, ap, ◌∙◌}
use Rattle.aes_kernels.specs.Circuit.{byte_at, mixed, next_places, opposite_places, shifted_places, source0, source1, source2, source3}
use Rattle.aes_kernels.proofs.Mixing.{place-lt}
use Rattle.aes_kernels.proofs.blocks.round.Goals as goal

four-of : {p q r t p' q' r' t' : ℕ} → p ≡ p' → q ≡ q' → r ≡ r' → t ≡ t' → mixed p q r t ≡ mixed p' q' r' t'
four-of a b c d = cc

pub returns-clause-bytes : goal.returns-clause-bytes
returns-clause-bytes c = λ lane bit within small.
    let s = λ (l : ℕ) (h : l < 16). c.substituted.ensures.bytes l bit h small in
    c.add_key.ensures.bytes lane bit within small
    ∙ ap (λ (n : ℕ). bit_xor n (byte_at c.args.key lane bit))
    (c.mixed.ensures.bytes lane bit within small
    ∙ four-of (s (source0 lane) (place-lt shifted_places tt lane)) (s (source1 lane) (place-lt shifted_places tt (get_or next_places lane 0))) (s (source2 lane) (place-lt shifted_places tt (get_or opposite_places lane 0))) (s (source3 lane) (place-lt shifted_places tt (get_or next_places (get_or opposite_places lane 0) 0))))
