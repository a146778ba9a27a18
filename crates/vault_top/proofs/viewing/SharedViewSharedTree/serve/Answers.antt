use Rattle.outside.specs.Views.{entropy_in, folder_in}
use Rattle.vault_top.proofs.SharedViews.{adds_entry}
use Rattle.vault_top.proofs.viewing.SharedViewSharedTree.serve.Goals as goal

pub returns-clause-entry : goal.returns-clause-entry
returns-clause-entry g c =
    adds_entry (folder_in g.D.Reads) g.B.Since.since _ _ _ (entropy_in g.E.Entropy c.args.entropy.now) c.serve.ensures.tree c.serve.ensures.read c.serve.ensures.entry
