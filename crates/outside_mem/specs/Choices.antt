-- How pictures are made: what each has of each change, by how many changes are older.
use Rattle.std.specs.Prelude.{ℕ, zero, suc, ◌==◌, List, [], ◌∷◌, ◌++◌, length, if◌then◌else◌}
use Rattle.outside.specs.Changes.{Change}
use Rattle.outside_mem.specs.Kept.{change_of, filled}
use Rattle.outside_mem.specs.declared.change.MemCall.{MemCall}
use Rattle.outside_mem.specs.declared.change.MemCall.TheVariants as calls
use Rattle.outside_mem.specs.declared.images.Leaves.{Leaves}
use Rattle.outside_mem.specs.declared.images.Leaves.TheVariants.{Nothing, All, Filled}
use Rattle.outside_mem.specs.declared.images.Choice.{Choice}
use Rattle.outside_mem.specs.declared.images.Choice.TheVariants.{Each, One}

-- what is made of a change
abbrev pub left_of : Leaves → Change → List Change
left_of Nothing change = []
left_of All change = change ∷ []
left_of Filled change = filled change ∷ []

-- and of a call
abbrev pub left_of_call : Leaves → MemCall → List Change
left_of_call leaves (calls.Did change) = left_of leaves (change_of change)
left_of_call leaves (calls.Broke change) = left_of leaves (change_of change)
left_of_call leaves calls.Synced = []

-- what a choice has of the change with so many older ones
abbrev pub leaves_at : Choice → ℕ → Leaves
leaves_at (Each leaves) age = leaves
leaves_at (One at own others) age = if age == at then own else others

-- the changes of a choice
abbrev pub chosen : Choice → List Change → List Change
chosen choice [] = []
chosen choice (change ∷ older) = left_of (leaves_at choice (length older)) change ++ chosen choice older

-- the three choices of each of so many changes, from the newest on
abbrev pub choices_of_each : ℕ → List Choice
choices_of_each zero = []
choices_of_each (suc n) = One n Nothing All ∷ One n All Nothing ∷ One n Filled All ∷ choices_of_each n

abbrev pub all_choices : ℕ → List Choice
all_choices n = Each Nothing ∷ Each All ∷ Each Filled ∷ choices_of_each n
