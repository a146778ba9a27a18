use Rattle.std.specs.declared.vec.Vec.{Vec}
use Rattle.std.specs.declared.alloc.Global.{Global}
use Rattle.deeds.specs.declared.deed.Deed.{Deed}
use Rattle.deeds.specs.Plain.{plains}
use Rattle.node_deeds.specs.Made.{place_at}
use Rattle.node_deeds.proofs.Batches.{made_batch, create_dir_batch}
use Rattle.node_deeds.proofs.creation.create_dir_deeds.Goals as goal

pub returns-clause-batch : goal.returns-clause-batch
returns-clause-batch c =
    made_batch c.dir_creation.result (λ (v : Vec Deed Global). plains v.items) _ c.dir_creation.ensures
    (create_dir_batch (place_at c.args.place.now) c.args.text.now c.args.own.now c.args.identifier.now c.requires.place c.requires.own c.requires.text c.requires.identifier)
