use Rattle.std.proofs.Common.{◌≡◌, ◌++◌, map, filter, drop, List, ℕ}
use Rattle.std.specs.Option.{option_copied}
use Rattle.tree_model.specs.Rows.{Row, stat_at}
use Rattle.tree_model.specs.Wire.{spelled_stat}
use Rattle.tree_model.specs.Step.{is_behind, stats_behind}
use Rattle.model_step.specs.SeenRows.{bytes_seen, rows_seen}
use Rattle.model_step.specs.Listed.{named}
use Rattle.model_step.proofs.listing.stats_behind.Given as goal

abbrev pub invariant-loop-entry : goal.invariant-loop-entry
invariant-loop-entry l =
    bytes_seen l.stats.items
    ++ map (λ (named : List ℕ × Row). spelled_stat (stat_at named.1)) (filter (λ (named : List ℕ × Row). is_behind (option_copied l.after) named.0) (map named (drop l.entry-index l.entry-items)))
    ≡ stats_behind (rows_seen l.rows) l.parent (option_copied l.after)
