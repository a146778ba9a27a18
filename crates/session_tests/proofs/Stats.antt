-- The stat of the file `a`.
use Rattle.std.proofs.Common.{ℕ, List, [], ◌∷◌}
use Rattle.tree_model.specs.Wire.{PlainStat}

-- `vault`
abbrev vault : List ℕ
vault = 118 ∷ 97 ∷ 117 ∷ 108 ∷ 116 ∷ []

abbrev pub file_stat : PlainStat
file_stat = record {
  kind = 0;
  device = 0;
  qid = record { kind = 0; version = 0; path = 1 };
  mode = 420;
  accessed = 100;
  modified = 100;
  length = 5;
  name = 97 ∷ [];
  owner = vault;
  group = vault;
  modifier = vault;
}
