use Rattle.std.proofs.Common.{arith}
use Rattle.siv_mode.proofs.Padding.{filled_is}
use Rattle.siv_mode.proofs.mac.RunningMac.fill.Goals as goal

pub returns-clause-block : goal.returns-clause-block
returns-clause-block c =
    filled_is c.args.self.now.block c.args.bytes.now c.copy_from_slice.new.self c.args.self.now.filled _ (omega (arith, c.requires, c.args.self.now.whole)) c.copy_from_slice.ensures.after
