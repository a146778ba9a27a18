-- What a scan has: the nodes that were found, and whether there are foreign entries.
use Rattle.std.specs.Prelude.{ℕ, List, map, Bool}
use Rattle.clear_tree.specs.Scan.{Found, Shown, ShownFile, ShownLink, ShownText}
use Rattle.tree_loading.specs.declared.found.FoundNode.{FoundNode}
use Rattle.tree_loading.specs.declared.found.Shown.{Shown as Kept}
use Rattle.tree_loading.specs.declared.found.Shown.TheVariants.{File, Link, Directory}

pub record ScannedFolder : Type 0 where
  pub found : List Found
  pub foreign : Bool

abbrev pub shown_of : Kept → Shown
shown_of (File size) = ShownFile size
shown_of (Link size) = ShownLink size
shown_of (Directory text) = ShownText text

-- a node by its name, as it was found
abbrev pub found_of : List ℕ × FoundNode → Found
found_of node = record {
  name = node.0;
  entry = node.1.entry;
  long = node.1.long;
  shown = shown_of node.1.shown;
  shadowed = node.1.shadowed;
}

abbrev pub all_found : List (List ℕ × FoundNode) → List Found
all_found nodes = map found_of nodes
