use Rattle.std.proofs.Common.{sym, ap, ◌∙◌}
use Rattle.std.specs.Option.{option_copied}
use Rattle.clear_tree.specs.Built.{kept_what}
use Rattle.node_changes.proofs.Naming.{refuses_gone, refuses_root, refuses_bad}
use Rattle.node_changes.proofs.renaming.nameable.Goals as goal

pub returns-in_default-clause-refusal : goal.returns-in_default-clause-refusal
returns-in_default-clause-refusal c = λ name. refuses_gone c.args.live.now c.args.number name (sym c.node.ensures ∙ ap option_copied c.in_default.is)

pub returns-then-number-eq0-clause-refusal : goal.returns-then-number-eq0-clause-refusal
returns-then-number-eq0-clause-refusal c = λ name. refuses_root c.args.live.now c.args.number name c.if-number-eq0.true

pub returns-in-Bad-clause-refusal : goal.returns-in-Bad-clause-refusal
returns-in-Bad-clause-refusal c = λ name.
    refuses_bad c.args.live.now c.args.number name c.in-Some.node.now (sym c.in-Some.ensures) c.in-Bad.text (sym c.what.ensures ∙ ap kept_what c.in-Bad.is)
