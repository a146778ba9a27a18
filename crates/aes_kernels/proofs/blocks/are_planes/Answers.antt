use Rattle.std.proofs.Common.{sym, subst}
use Rattle.aes_kernels.proofs.Gates.{AreVectors}
use Rattle.aes_kernels.proofs.SBox.{eight-is}
use Rattle.aes_kernels.proofs.blocks.are_planes.Goals as goal

pub returns : goal.returns
returns c = (
  c.told-x,
  subst AreVectors (sym (eight-is c.args.x.now c.told-x))
      (c.has_lanes.ensures, (c.has_lanes-2.ensures, (c.has_lanes-3.ensures, (c.has_lanes-4.ensures, (c.has_lanes-5.ensures, (c.has_lanes-6.ensures, (c.has_lanes-7.ensures, (c.has_lanes-8.ensures, tt)))))))),
)
