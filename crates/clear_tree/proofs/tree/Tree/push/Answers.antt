use Rattle.std.proofs.Common.{subst, sym}
use Rattle.clear_tree.specs.Kept.{KeptTree}
use Rattle.clear_tree.specs.Built.{FitsBehind}
use Rattle.clear_tree.proofs.Building.{kept_with}
use Rattle.clear_tree.proofs.tree.Tree.push.Goals as goal

pub invariant_of-self-2 : goal.invariant_of-self-2
invariant_of-self-2 c =
    rw c.in_ok-push.ensures.items
    (kept_with c.self.inside.root c.self.inside.others.items c.self.inside.twice c.self.invariant c.args.node
    (subst (λ (t : KeptTree). FitsBehind t c.args.node) (sym c.self.view_is) c.requires))
