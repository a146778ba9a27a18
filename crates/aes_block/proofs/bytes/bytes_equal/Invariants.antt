use Rattle.aes_block.proofs.Differences.{TellsSame}
use Rattle.aes_block.proofs.bytes.bytes_equal.Given as goal

abbrev pub invariant-loop-i : goal.invariant-loop-i
invariant-loop-i l = TellsSame l.a l.b l.i l.differences
