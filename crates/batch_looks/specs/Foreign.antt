-- Folders that can't be removed by some deeds, since something is in them that none of the deeds names.
use Rattle.std.specs.Prelude.{ℕ, List, [], ◌∷◌, ◌++◌, IsSome}
use Rattle.outside.specs.Disk.{Disk, Path, node_at, IsFolder}
use Rattle.deeds.specs.Deeds.{PlainDeed, Unnamed}

-- a folder with an entry that none of the deeds names
pub record HasForeign (path : Path) (deeds : List PlainDeed) (disk : Disk) : Type 0 where
  pub there : IsFolder disk path
  pub name : List ℕ
  pub entry : IsSome (node_at disk (path ++ name ∷ []))
  pub unnamed : Unnamed (path ++ name ∷ []) deeds
