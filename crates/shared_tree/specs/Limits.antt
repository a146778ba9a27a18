-- How many tickets a request costs.
use Rattle.std.specs.Prelude.{ℕ}

-- a request draws at most this many
abbrev pub most_tickets : ℕ
most_tickets = 17
