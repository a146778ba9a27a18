-- How many turns a lock has.
use Rattle.std.specs.Prelude.{ℕ, ◌^◌}

-- tickets from this number on have no turn
abbrev pub turn_limit : ℕ
turn_limit = 2 ^ 62
