use Rattle.shared_tree.proofs.Turning.{met}
use Rattle.shared_tree.proofs.client.Client.meet.Goals as goal

pub invariant_of-self : goal.invariant_of-self
invariant_of-self g c = met g.B.Start.is c.self.inside.shared.now.id c.self.inside.seat c.meet.new.first _ (g.E.Entropy.faults c.self.inside.entropy) c.self.invariant c.meet.ensures.first

pub invariant_of-other : goal.invariant_of-other
invariant_of-other g c = met g.B.Start.is c.other.inside.shared.now.id c.other.inside.seat c.meet.new.second _ (g.E.Entropy.faults c.other.inside.entropy) c.other.invariant c.meet.ensures.second
