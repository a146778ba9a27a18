use Rattle.std.proofs.Common.{◌*◌, min}
use Rattle.ctr_mode.specs.Counted.{IsCountedTo}
use Rattle.ctr_mode.proofs.counter.apply_keystream.Given as goal

-- the first groups are done, of which the last may be cut off
abbrev pub invariant-loop-i : goal.invariant-loop-i
invariant-loop-i g l = IsCountedTo (g.K.BlockKey.cipher l.key) l.first l.fn.text l.text (min l.blocks (32 * l.i))
