use Rattle.std.specs.declared.vec.Vec.{Vec}
use Rattle.std.specs.declared.alloc.Global.{Global}
use Rattle.deeds.specs.declared.deed.Deed.{Deed}
use Rattle.deeds.specs.Plain.{plains}
use Rattle.node_deeds.specs.Made.{place_at}
use Rattle.node_deeds.proofs.Batches.{made_batch, create_file_batch}
use Rattle.node_deeds.proofs.creation.create_file_deeds.Goals as goal

pub returns-clause-batch : goal.returns-clause-batch
returns-clause-batch c =
    made_batch c.file_creation.result (λ (v : Vec Deed Global). plains v.items) _ c.file_creation.ensures
    (create_file_batch (place_at c.args.place.now) c.args.text.now c.args.header.items c.requires.place c.requires.text c.requires.header)
