-- Rows by their names, as a map of them is built.
use Rattle.std.specs.Prelude.{◌≡◌, ℕ, ◌+◌, ◌≤◌, List, [], ◌∷◌, ◌++◌, length, take, drop, map, true, Option, if◌then◌else◌}
use Rattle.std.specs.Ordering.{nat_cmp}
use Rattle.std.specs.Cmp.Lexicographic.{slice_cmp}
use Rattle.std.specs.FinMap.Entries.{put}
use Rattle.tree_model.specs.Wire.{spelled_stat}
use Rattle.tree_model.specs.Rows as rows
use Rattle.tree_model.specs.Step.{is_behind}
use Rattle.model_step.specs.declared.rows.Row.{Row}
use Rattle.model_step.specs.declared.listing.Place.{Place}
use Rattle.model_step.specs.SeenRows.{row_seen}

-- a row by its name
abbrev pub named : Row → List ℕ × rows.Row
named row = (row.name.items, row_seen row)

abbrev pub put_named : List ℕ × rows.Row → List (List ℕ × rows.Row) → List (List ℕ × rows.Row)
put_named entry entries = put (slice_cmp nat_cmp) entry.0 entry.1 entries

-- the stat of a row whose name follows this one
abbrev pub stat_if : Option (List ℕ) → List ℕ × rows.Row → List (List ℕ)
stat_if after entry = if is_behind after entry.0 then spelled_stat (rows.stat_at entry.1) ∷ [] else []

-- where a row of this name is put among others: before the rest, in the place of one of its name
pub record IsPlace (entries : List Row) (name : List ℕ) (place : Place) : Type 0 where
  pub there : place.index ≤ length entries
  pub within : place.is_taken ≡ true → place.index + 1 ≤ length entries
  pub put : (row : rows.Row) → put_named (name, row) (map named entries)
      ≡ map named (take place.index entries) ++ (name, row) ∷ map named (drop (if place.is_taken then place.index + 1 else place.index) entries)
