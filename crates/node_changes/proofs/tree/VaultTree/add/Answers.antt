use Rattle.node_changes.proofs.Sites.{has_room}
use Rattle.node_changes.proofs.tree.VaultTree.add.Goals as goal

pub add-requires-clause-room : goal.add-requires-clause-room
add-requires-clause-room c = has_room c.args.self.now.live c.requires.site.1.room
