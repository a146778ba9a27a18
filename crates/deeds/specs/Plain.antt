-- Deeds as plain data.
use Rattle.std.specs.Prelude.{List, [], ◌∷◌}
use Rattle.deeds.specs.Reshape.{Ranges}
use Rattle.deeds.specs.Deeds.{PlainDeed, MakesDir, Puts, Renames, Removes, RemovesDir, Reshapes}
use Rattle.deeds.specs.declared.writes.Range.{Range}
use Rattle.deeds.specs.declared.deed.Deed.{Deed}
use Rattle.deeds.specs.declared.deed.Deed.TheVariants.{MakeDir, Put, Rename, Remove, RemoveDir, Reshape}

abbrev pub plain_ranges : List Range → Ranges
plain_ranges [] = []
plain_ranges (range ∷ ranges) = (range.at, range.bytes.items) ∷ plain_ranges ranges

abbrev pub plain : Deed → PlainDeed
plain (MakeDir path) = MakesDir path
plain (Put path bytes) = Puts path bytes.items
plain (Rename from to) = Renames from to
plain (Remove path) = Removes path
plain (RemoveDir path) = RemovesDir path
plain (Reshape path len ranges) = Reshapes path len (plain_ranges ranges.items)

abbrev pub plains : List Deed → List PlainDeed
plains [] = []
plains (deed ∷ deeds) = plain deed ∷ plains deeds
