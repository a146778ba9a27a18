use Rattle.std.proofs.Common.{ap, List, ℕ, ◌∙◌}
use Rattle.aes_block.specs.Aes.{key_schedule, round_key}
use Rattle.aes_block.proofs.key.Key128.round_key.Goals as goal

pub returns : goal.returns
returns c = c.round_key.ensures ∙ ap (λ (s : List ℕ). round_key s c.args.round) (c.self.invariant ∙ ap key_schedule c.self.view_is)
