use Rattle.std.proofs.Common.{◌∙◌}
use Rattle.journal_mending.proofs.Looked.{told_full}
use Rattle.journal_mending.proofs.looking.comes_to_be_bare.Goals as goal

pub returns-in-Ok-clause-bare : goal.returns-in-Ok-clause-bare
returns-in-Ok-clause-bare g c =
    told_full (g.R.Reads.log c.args.folder.now) c.args.path.now c.in-Ok.names.items c.are_taken.result c.in-Ok.ensures.names (λ none. c.are_taken.ensures (c.deref.ensures.value ∙ none))
