use Rattle.std.proofs.Common.{ℕ, bit_xor, ap, ◌∙◌}
use Rattle.aes_kernels.specs.Circuit.{byte_at, shifted_places, source0}
use Rattle.aes_kernels.proofs.Mixing.{place-lt}
use Rattle.aes_kernels.proofs.blocks.last_round.Goals as goal

pub returns-clause-bytes : goal.returns-clause-bytes
returns-clause-bytes c = λ lane bit within small.
    c.add_key.ensures.bytes lane bit within small
    ∙ ap (λ (n : ℕ). bit_xor n (byte_at c.args.key lane bit))
    (c.shift_all.ensures.bytes lane bit within small ∙ c.substituted.ensures.bytes (source0 lane) bit (place-lt shifted_places tt lane) small)
