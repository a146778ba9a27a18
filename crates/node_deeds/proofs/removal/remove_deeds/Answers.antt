use Rattle.std.specs.declared.vec.Vec.{Vec}
use Rattle.std.specs.declared.alloc.Global.{Global}
use Rattle.deeds.specs.declared.deed.Deed.{Deed}
use Rattle.deeds.specs.Plain.{plains}
use Rattle.clear_tree.specs.Built.{kept_what}
use Rattle.node_deeds.specs.Made.{place_at}
use Rattle.node_deeds.proofs.Batches.{made_batch, remove_batch}
use Rattle.node_deeds.proofs.removal.remove_deeds.Goals as goal

pub returns-clause-batch : goal.returns-clause-batch
returns-clause-batch c =
    made_batch c.removal.result (λ (v : Vec Deed Global). plains v.items) _ c.removal.ensures
    (remove_batch (place_at c.args.place.now) (kept_what c.args.what.now) c.requires.place c.requires.own)
