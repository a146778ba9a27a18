use Rattle.std.proofs.Common.{◌≡◌, ◌≤◌, ◌++◌, ℕ, List, Contains}
use Rattle.std.specs.Vec.Iter.{into_iter_items}
use Rattle.outside.specs.Calls.{Told}
use Rattle.outside.specs.Images.{disk_in}
use Rattle.tree_loading.specs.Format.{sealing_of}
use Rattle.tree_loading.specs.Entries.{AreThere, IsGathered, HasNoNode}
use Rattle.tree_loading.proofs.scanning.gather.Given as goal

-- the entries so far are gathered, and of the names that are taken there is no node; no changing call was made, and the count of faults didn't fall
abbrev pub invariant-loop-entry : goal.invariant-loop-entry
invariant-loop-entry g l =
    record {
      log : g.R.Reads.log l.from ≡ g.R.Reads.log l.fn.from;
      changes : g.R.Reads.changes l.from ≡ g.R.Reads.changes l.fn.from;
      later : g.R.Reads.faults l.fn.from ≤ g.R.Reads.faults l.from;
      split : l.yielded ++ into_iter_items l.entry-iterator ≡ l.fn.entries.items;
      gathered : Told (disk_in (g.R.Reads.log l.fn.from)) (λ d. AreThere (sealing_of l.keys) d l.identifier l.fn.entries.items → IsGathered (sealing_of l.keys) d l.identifier l.yielded l.nodes.entries l.foreign);
      taken : Told (disk_in (g.R.Reads.log l.fn.from)) (λ d. AreThere (sealing_of l.keys) d l.identifier l.fn.entries.items → (name : List ℕ) → Contains l.taken.items name → HasNoNode (sealing_of l.keys) d l.identifier name);
    }
