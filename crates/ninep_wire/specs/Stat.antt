-- Which stats have a spelling (stat(5)).
use Rattle.std.specs.Prelude.{◌<◌, ◌^◌, length}
use Rattle.tree_model.specs.Wire.{IsString, IsQid, PlainStat, stat_fields}

-- numbers and strings that fit their fields
pub record IsStat (s : PlainStat) : Type 0 where
  pub kind : s.kind < 2 ^ 16
  pub device : s.device < 2 ^ 32
  pub qid : IsQid s.qid
  pub mode : s.mode < 2 ^ 32
  pub accessed : s.accessed < 2 ^ 32
  pub modified : s.modified < 2 ^ 32
  pub long : s.length < 2 ^ 64
  pub name : IsString s.name
  pub owner : IsString s.owner
  pub group : IsString s.group
  pub modifier : IsString s.modifier
  pub size : length (stat_fields s) < 2 ^ 16
