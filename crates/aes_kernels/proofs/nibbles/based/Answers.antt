use Rattle.std.proofs.Common.{◌/◌, bit_and}
use Rattle.aes_kernels.proofs.Vectors.{looked-map, sum-maps}
use Rattle.aes_kernels.specs.declared.tables.TheConstants.{IPTH, IPTL}
use Rattle.aes_kernels.specs.Nibbles.{looked_up}
use Rattle.aes_kernels.proofs.nibbles.based.Goals as goal

pub returns : goal.returns
returns c =
    sum-maps (λ b. looked_up IPTL (bit_and b 15)) (λ b. looked_up IPTH (b / 16)) c.args.x _ _
    (looked-map IPTL (λ b. bit_and b 15) c.args.x _ _ c.look_up.ensures c.low.ensures)
    (looked-map IPTH (λ b. b / 16) c.args.x _ _ c.look_up-2.ensures c.high.ensures)
