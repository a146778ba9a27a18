use Rattle.std.proofs.Common.{sym, ap, ◌∙◌}
use Rattle.clear_tree.specs.Kept.{What}
use Rattle.request_checks.specs.Deciding.{write_fault}
use Rattle.request_checks.proofs.Early.{write_refused, write_removed}
use Rattle.request_checks.proofs.contents.write_refusal.Goals as goal

pub returns-in-Some-clause-refusal : goal.returns-in-Some-clause-refusal
returns-in-Some-clause-refusal c =
    write_refused c.args.tree.now c.args.number c.in-Some.node.now (sym c.in-Some.ensures) c.args.at c.args.len c.refusal_to_write.result
    (c.refusal_to_write.ensures ∙ ap (λ (what : What). write_fault what c.args.at c.args.len) c.what.ensures)

pub returns-in-None-clause-refusal : goal.returns-in-None-clause-refusal
returns-in-None-clause-refusal c = write_removed c.args.tree.now c.args.number c.args.at c.args.len (sym c.in-None.ensures)
