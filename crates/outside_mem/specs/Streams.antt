-- Bytes to read and bytes that were taken.
use Rattle.std.specs.Prelude.{ℕ, List}
use Rattle.outside_mem.specs.Plan.{Plan}

-- the bytes that are left, and how many a read gives at most
pub record Left : Type 0 where
  pub left : List ℕ
  pub piece : ℕ
  pub plan : Plan

-- the bytes that were taken, and how many a write takes at most
pub record Taken : Type 0 where
  pub taken : List ℕ
  pub piece : ℕ
  pub plan : Plan
