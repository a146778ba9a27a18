use Rattle.std.proofs.Common.{◌*◌}
use Rattle.std.specs.Prelude.{min}
use Rattle.siv_mode.specs.Counted.{IsCountedTo}
use Rattle.siv_mode.proofs.keystream.apply_keystream.Given as goal

-- the first groups are done, of which the last may be cut off
abbrev pub invariant-loop-i : goal.invariant-loop-i
invariant-loop-i g l = IsCountedTo (g.K.BlockKey.cipher l.key) l.first l.fn.text l.text (min l.blocks (4 * l.i))
