use Rattle.std.proofs.Common.{ℕ, List, ap, ◌∙◌}
use Rattle.aes_kernels.proofs.Vectors.{zip2-xor}
use Rattle.aes_kernels.specs.Nibbles.{first_round_of}
use Rattle.aes_block.specs.Bytes.{xor_bytes}
use Rattle.aes_kernels.proofs.nibbles.first_round.Goals as goal

pub returns : goal.returns
unfolding first_round_of
returns c = zip2-xor c.based.result c.args.key ∙ ap (λ (l : List ℕ). xor_bytes l c.args.key) c.based.ensures
