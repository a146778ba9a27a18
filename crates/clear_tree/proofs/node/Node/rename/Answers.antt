use Rattle.clear_tree.specs.Built.{kept_what}
use Rattle.clear_tree.proofs.Names.{IsShowable-clear}
use Rattle.clear_tree.proofs.node.Node.rename.Goals as goal

pub invariant_of-self : goal.invariant_of-self
invariant_of-self c = IsShowable-clear c.args.name (kept_what c.self.inside.what) c.requires c.self.invariant.folder
