use Rattle.std.proofs.Common.{[]}
use Rattle.siv_mode.proofs.mac.cmac.Goals as goal

pub returns : goal.returns
returns g c = c.finish.ensures c.args.text.now (c.absorb.ensures [] (c.new-mac.ensures (g.K.BlockKey.cipher c.args.key.now)))
