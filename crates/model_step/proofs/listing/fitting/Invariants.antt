use Rattle.std.proofs.Common.{◌≡◌, ◌++◌, drop}
use Rattle.std.specs.List.{concat}
use Rattle.tree_model.specs.Step.{fitting}
use Rattle.model_step.specs.SeenRows.{bytes_seen}
use Rattle.model_step.proofs.listing.fitting.Given as goal

abbrev pub invariant-loop-stat : goal.invariant-loop-stat
invariant-loop-stat l = l.bytes.items ++ concat (fitting l.room (bytes_seen (drop l.stat-index l.stats))) ≡ concat (fitting l.most (bytes_seen l.stats))
