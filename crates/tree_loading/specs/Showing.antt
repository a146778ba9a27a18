-- What was read of an entry's place.
use Rattle.std.specs.Prelude.{◌≡◌, ◌↔◌, Bool, Option, Some, None, IsTrue}
use Rattle.outside.specs.Disk.{Disk, Path}
use Rattle.clear_tree.specs.Walk.{Kind, Bare}
use Rattle.clear_tree.specs.Scan.{ShowsAs}
use Rattle.tree_loading.specs.declared.place.Showing.{Showing}
use Rattle.tree_loading.specs.Scanned.{shown_of}
use Rattle.tree_loading.specs.Reading.{HoldsFurther, known_file}

-- what a place shows, and whether its folder has further entries
pub record IsShowing (d : Disk) (node : Path) (long : Bool) (kind : Kind) (place : Showing) : Type 0 where
  pub shows : ShowsAs kind (shown_of place.shown)
  pub further : IsTrue place.further ↔ HoldsFurther d node (known_file place.shown) long

-- what was read of a place of this kind, if there is one: nothing if it is no node's
abbrev pub IsPlace : Disk → Path → Bool → Option Kind → Option Showing → Type 0
IsPlace d node long there None = (kind : Kind) → there ≡ Some kind → kind ≡ Bare
IsPlace d node long there (Some place) = (kind : Kind) × (there ≡ Some kind) × IsShowing d node long kind place
