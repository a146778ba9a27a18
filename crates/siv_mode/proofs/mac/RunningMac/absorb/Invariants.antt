use Rattle.std.proofs.Common.{ℕ, ◌+◌, List, ◌++◌, length}
use Rattle.siv_mode.specs.Absorbed.{HasAbsorbed}
use Rattle.siv_mode.proofs.Chains.{IsHalfway}
use Rattle.siv_mode.proofs.mac.RunningMac.absorb.Given as goal

abbrev pub invariant-loop-self : goal.invariant-loop-self
invariant-loop-self g l =
    (text : List ℕ) → HasAbsorbed (g.K.BlockKey.cipher l.key) l.initial.self.chain l.initial.self.block l.initial.self.filled text
    → IsHalfway (g.K.BlockKey.cipher l.key) l.self.chain l.self.block l.self.filled l.rest (text ++ l.piece)

abbrev pub decreases-loop-self : goal.decreases-loop-self
decreases-loop-self g l = l.self.filled + length l.rest
