use Rattle.clear_tree.specs.Built.{kept_what}
use Rattle.clear_tree.proofs.Names.{IsShowable-clear}
use Rattle.clear_tree.proofs.node.Node.new.Goals as goal

pub invariant_of-result : goal.invariant_of-result
invariant_of-result c = IsShowable-clear c.args.name (kept_what c.args.what) c.requires.name c.requires.folder
