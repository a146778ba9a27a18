-- What of a vault's folder is its data: all that is in the folder `d` (Cryptomator's vault format 8).
use Rattle.std.specs.Prelude.{◌≡◌, List, ◌∷◌}
use Rattle.std.specs.List.{AllByRecursion}
use Rattle.outside.specs.Disk.{Path as HostPath}
use Rattle.deeds.specs.Deeds.{PlainDeed, names}
use Rattle.clear_tree.specs.Places.{text_d}

-- a path in that folder, or the folder's own
abbrev pub IsWithin : HostPath → Type 0
IsWithin path = (rest : HostPath) × (path ≡ text_d ∷ rest)

abbrev pub NamesWithin : PlainDeed → Type 0
NamesWithin deed = AllByRecursion IsWithin (names deed)

-- deeds that name no other paths
abbrev pub AreWithin : List PlainDeed → Type 0
AreWithin deeds = AllByRecursion NamesWithin deeds
