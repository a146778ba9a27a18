-- A tree in memory is on a disk whatever the journal's two files hold.
use Rattle.std.proofs.Common.{ℕ, List}
use Rattle.outside.specs.Disk.{Disk, IsTree}
use Rattle.chunk_journal.specs.Journal.{IsAlike}
use Rattle.tree_model.specs.Rows.{Content}
use Rattle.clear_tree.specs.Walk.{Sealing}
use Rattle.tree_deed_laws.proofs.Beside.{stays_beside}
use Rattle.live_tree.specs.Held.{HeldTree}
use Rattle.node_changes.specs.Changed.{StandsOn}

pub stands_beside : (s : Sealing) (d d' : Disk) (live : HeldTree) (claims : List (List ℕ × ℕ)) (contents : ℕ → Content) → StandsOn s d live claims contents → IsTree d' → IsAlike d d'
    → StandsOn s d' live claims contents
stands_beside s d d' live claims contents stands host same = record {
  tree = stands.tree;
  is = stays_beside s d d' stands.tree stands.is host same;
  holds = stands.holds;
  claimed = stands.claimed;
  are = stands.are;
}
