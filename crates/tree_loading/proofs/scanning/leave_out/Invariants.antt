use Rattle.std.proofs.Common.{◌≡◌, ◌++◌, ℕ, List, Some, Contains}
use Rattle.std.specs.Vec.Iter.{into_iter_items}
use Rattle.tree_loading.specs.declared.found.FoundNode.{FoundNode}
use Rattle.tree_loading.specs.Entries.{node_named}
use Rattle.tree_loading.proofs.scanning.leave_out.Given as goal

-- the nodes of the names so far are left out, and no others
abbrev pub invariant-loop-name : goal.invariant-loop-name
invariant-loop-name l =
    record {
      split : l.yielded ++ into_iter_items l.name-iterator ≡ l.fn.names.items;
      fewer : (name : List ℕ) (node : FoundNode) → node_named l.nodes.entries name ≡ Some node → node_named l.fn.nodes.entries name ≡ Some node;
      others : (name : List ℕ) → ¬ Contains l.yielded name → node_named l.nodes.entries name ≡ node_named l.fn.nodes.entries name;
    }
