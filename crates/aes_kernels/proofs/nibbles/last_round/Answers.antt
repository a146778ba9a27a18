use Rattle.std.proofs.Common.{ℕ, List, map, ap, ◌∙◌}
use Rattle.aes_kernels.proofs.Vectors.{zip2-xor}
use Rattle.aes_kernels.specs.Nibbles.{last_round_of, substituted_alone}
use Rattle.aes_block.specs.Bytes.{xor_bytes}
use Rattle.aes_kernels.proofs.nibbles.last_round.Goals as goal

pub returns : goal.returns
unfolding last_round_of
returns c =
    zip2-xor c.substituted_alone.result c.args.key
    ∙ ap (λ (l : List ℕ). xor_bytes l c.args.key) (c.substituted_alone.ensures ∙ ap (map substituted_alone) c.shifted.ensures)
