-- Where numbers of code end.
use Rattle.std.specs.Prelude.{◌≡◌, ⊤, ◌-◌, ◌^◌, Bool, true, ◌||◌, ◌==◌}
use Rattle.std.specs.List.{list_any}
use Rattle.tree_model.specs.Rows.{Row, Rows}
use Rattle.model_step.specs.declared.ends.StepErr.{StepErr}
use Rattle.model_step.specs.declared.ends.StepErr.TheVariants.{Versions, Memory}

-- the row's version is the last that code has
abbrev pub is_last : Row → Bool
is_last row = row.version == 2 ^ 64 - 1

-- a row's version is the last that code has
abbrev pub has_last : Rows → Bool
has_last rows = list_any is_last rows.nodes

-- an error has its cause: a last version is there, or lack of memory alone
abbrev pub IsEnd : StepErr → Bool → Type 0
IsEnd Versions is_there = is_there ≡ true
IsEnd Memory is_there = ⊤

-- a last version is there among rows, or is that of the node that is changed
abbrev pub IsEndOf : StepErr → Rows → Row → Type 0
IsEndOf e rows row = IsEnd e (has_last rows || is_last row)
