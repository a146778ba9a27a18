-- The laws of the clear tree, as the contracts cite them.
use Rattle.std.proofs.Common.{[]}
use Rattle.clear_tree.specs.Laws.{OneTree, RowsAreDetermined, OnePlaceChanges, OneDirectoryIsMade, OneDirectoryIsRemoved, WalkEnds, WalkGoesOn}
use Rattle.clear_tree.proofs.Determined.{one_rows}
use Rattle.clear_tree.proofs.Directory.{create_dir, created_owner, remove_dir, removed_owner}
use Rattle.clear_tree.proofs.Leaf.{change_leaf, leaf_owner}
use Rattle.clear_tree.proofs.Queue.{Walked, walked, walk_owner, row_sound, row_complete}
use Rattle.clear_tree.proofs.Unique.{one_tree}
use Rattle.clear_tree.proofs.Prefix.{walk_rows}

pub one_tree_law : OneTree
one_tree_law s v o o' own own' q = one_tree s v o o' own own' q

pub rows_are_determined : RowsAreDetermined
rows_are_determined s d now a b x y = one_rows s d now a b x y

pub one_place_changes : OnePlaceChanges
one_place_changes s v v' o p i n c = (
  leaf_owner s v v' o n i p c.first c.parent c.named c.changed c.folders c.before c.after,
  change_leaf s v v' o n i p c.first c.parent c.named c.changed c.folders c.before c.after,
)

pub one_directory_is_made : OneDirectoryIsMade
one_directory_is_made s v v' o p i n t c = (
  created_owner s v v' o n i t p c.first c.parent c.named c.changed c.folders c.valid c.made c.empty c.fresh c.free c.now,
  create_dir s v v' o n i t p c.first c.parent c.named c.changed c.folders c.valid c.made c.empty c.fresh c.free c.now,
)

pub one_directory_is_removed : OneDirectoryIsRemoved
one_directory_is_removed s v v' o p i n t c = (
  removed_owner s v v' o n i t p c.first c.parent c.named c.changed c.folders c.once c.there c.no_child c.now,
  remove_dir s v v' o n i t p c.first c.parent c.named c.changed c.folders c.once c.there c.no_child c.now,
)

pub walk_ends : WalkEnds
walk_ends s v rows walk =
    let w : Walked s v rows [] = walked s v rows [] walk in
    (walk_owner s v rows w, row_sound s v rows w, row_complete s v rows w)

pub walk_goes_on : WalkGoesOn
walk_goes_on s v done todo o own walk q x h = walk_rows s v o own done todo walk q x h
