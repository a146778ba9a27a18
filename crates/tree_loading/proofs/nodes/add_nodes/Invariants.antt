use Rattle.std.proofs.Common.{◌≡◌, ◌≤◌, ◌+◌, ◌++◌, length}
use Rattle.std.specs.Vec.Iter.{into_iter_items}
use Rattle.outside.specs.Calls.{Told}
use Rattle.outside.specs.Images.{disk_in}
use Rattle.tree_loading.specs.Scanned.{all_found}
use Rattle.tree_loading.specs.Under.{HaveOwnFolders, EndsBefore, IsDirectoryAt}
use Rattle.tree_loading.specs.Added.{AddsAll}
use Rattle.tree_loading.proofs.Adding.{AreBehind, AreSorted}
use Rattle.tree_loading.proofs.nodes.add_nodes.Given as goal

-- the nodes so far are added, and the names that are left follow them
abbrev pub invariant-loop-name : goal.invariant-loop-name
invariant-loop-name g l =
    record {
      log : g.R.Reads.log l.from ≡ g.R.Reads.log l.fn.from;
      changes : g.R.Reads.changes l.from ≡ g.R.Reads.changes l.fn.from;
      later : g.R.Reads.faults l.fn.from ≤ g.R.Reads.faults l.from;
      split : l.yielded ++ into_iter_items l.name-iterator ≡ l.fn.nodes.items;
      count : length l.loading.tree.nodes ≡ length l.fn.loading.tree.nodes + length l.yielded;
      folders : HaveOwnFolders l.keys l.loading.tree;
      inside : IsDirectoryAt l.loading.tree l.parent;
      before : EndsBefore l.loading.tree (l.parent + 1);
      behind : AreBehind l.loading.tree l.parent (into_iter_items l.name-iterator);
      sorted : AreSorted (into_iter_items l.name-iterator);
      added : Told (disk_in (g.R.Reads.log l.fn.from)) (λ d. AddsAll l.keys d l.parent (all_found l.yielded) l.fn.loading l.loading);
    }
