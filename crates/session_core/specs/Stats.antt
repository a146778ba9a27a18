-- A stat at the front of bytes.
use Rattle.std.specs.Prelude.{◌≡◌, ℕ, List, ◌++◌}
use Rattle.tree_model.specs.Wire.{PlainStat, spelled_stat, IsTreeStat}

pub record StartsWithStat (bytes : List ℕ) : Type 0 where
  pub stat : PlainStat
  pub rest : List ℕ
  pub is : bytes ≡ spelled_stat stat ++ rest
  pub good : IsTreeStat stat
