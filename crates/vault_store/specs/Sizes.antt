-- What the sizes of host files say of contents.
use Rattle.std.specs.Prelude.{ℕ, List}
use Rattle.outside.specs.Disk.{Disk}
use Rattle.tree_model.specs.Rows.{Content}
use Rattle.clear_tree.specs.Walk.{Sealing}
use Rattle.live_tree.specs.Held.{HeldTree}
use Rattle.node_changes.specs.Changed.{StandsOn}
use Rattle.request_checks.specs.Plans.{HaveSizes}

-- the contents of a tree on a disk are what the sizes of their host files give
abbrev pub SizesAreHeld : Sealing → Type 0
SizesAreHeld s = (d : Disk) (live : HeldTree) (claims : List (List ℕ × ℕ)) (contents : ℕ → Content) → StandsOn s d live claims contents → HaveSizes live contents
