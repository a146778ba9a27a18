-- Links and a listener's links.
use Rattle.std.specs.Prelude.{List}
use Rattle.outside_mem.specs.Plan.{Plan}
use Rattle.outside_mem.specs.Streams.{Left, Taken}

-- what a client sends, and what it was sent
pub record Ends : Type 0 where
  pub source : Left
  pub sink : Taken

-- the links that are to come, and those that were given back, each in order
pub record Links : Type 0 where
  pub to_come : List Ends
  pub given_back : List Ends
  pub plan : Plan
