use Rattle.std.specs.declared.vec.Vec.{Vec}
use Rattle.std.specs.declared.alloc.Global.{Global}
use Rattle.deeds.specs.declared.deed.Deed.{Deed}
use Rattle.deeds.specs.Plain.{plains}
use Rattle.clear_tree.specs.Built.{kept_what}
use Rattle.node_deeds.specs.Made.{place_at}
use Rattle.node_deeds.proofs.Batches.{made_batch, rename_batch}
use Rattle.node_deeds.proofs.renaming.rename_deeds.Goals as goal

pub returns-clause-batch : goal.returns-clause-batch
returns-clause-batch c =
    made_batch c.renaming.result (λ (v : Vec Deed Global). plains v.items) _ c.renaming.ensures
    (rename_batch (place_at c.args.old.now) (place_at c.args.new.now) c.args.text.now (kept_what c.args.what.now) c.requires.old c.requires.new c.requires.same c.requires.text)
