use Rattle.std.proofs.Common.{◌≡◌, ◌++◌, map, take, drop}
use Rattle.tree_model.specs.Rows.{Row}
use Rattle.model_step.specs.Listed.{named, put_named}
use Rattle.model_step.proofs.listing.place_of.Given as goal

abbrev pub invariant-loop-index : goal.invariant-loop-index
invariant-loop-index l =
    (row : Row) → put_named (l.name, row) (map named l.entries) ≡ map named (take l.index l.entries) ++ put_named (l.name, row) (map named (drop l.index l.entries))
