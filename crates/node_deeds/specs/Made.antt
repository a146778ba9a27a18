-- Places as the deeds of a change are made from them.
use Rattle.std.specs.Prelude.{IsTrue}
use Rattle.vault_path.specs.Parts.{is_part, is_path}
use Rattle.clear_tree.specs.Places.{host_folder}
use Rattle.tree_deed_laws.specs.Deeds.{Place as PlainPlace}
use Rattle.node_deeds.specs.declared.place.Place.{Place}

abbrev pub place_at : Place → PlainPlace
place_at place = record { folder = place.folder.now; entry = place.entry.now; long = place.long }

-- a place that host paths can be made of
pub record IsHostPlace (place : PlainPlace) : Type 0 where
  pub folder : IsTrue (is_path (host_folder place.folder))
  pub entry : IsTrue (is_part place.entry)
